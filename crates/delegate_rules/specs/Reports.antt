-- What one report says of a path and of its LSP (RFC 8231 section 6.1).
use Rattle.std.specs.Prelude.{ℕ, Bool, true, false, ◌==◌, ◌&&◌, List, [], Option, Some, None, unwrap_or, if◌then◌else◌}
use Rattle.te_base.specs.Ted.{Ted}
use Rattle.te_base.specs.Walk.{walk}
use Rattle.lsp_base.specs.declared.tunnel.Tunnel.{Tunnel}
use Rattle.lsp_base.specs.declared.tunnel.Tunnel.TheVariants.{Signalled, Unsignalled}
use Rattle.lsp_base.specs.declared.tunnel.Part.TheVariants.{Reported}
use Rattle.lsp_base.specs.declared.path.Path.{Path}
use Rattle.lsp_base.specs.declared.lsp.Lsp.{Lsp}
use Rattle.lsp_base.specs.declared.lsp.Constraints.{Constraints}
use Rattle.lsp_words.specs.declared.object.MetricType.TheVariants.{Te}
use Rattle.lsp_words.specs.declared.object.Hop.{Hop}
use Rattle.pcep_objects.specs.declared.object.Identifiers.{Identifiers}
use Rattle.pcep_objects.specs.declared.object.Operational.{Operational}
use Rattle.pcep_objects.specs.declared.object.Operational.TheVariants.{Down, Up, Active, GoingDown, GoingUp}
use Rattle.pcep_messages.specs.declared.message.StateReport.{StateReport}

-- a report without identifiers counts as one whose identifiers are all zero
abbrev pub no_identifiers : Identifiers
no_identifiers = record { sender = 0; lsp = 0; tunnel = 0; extended = 0; endpoint = 0 }

abbrev pub identifiers_of : StateReport → Identifiers
identifiers_of r = unwrap_or r.identifiers no_identifiers

-- the LSP isn't signalled
abbrev pub are_zero : Identifiers → Bool
are_zero i = i.sender == 0 && i.lsp == 0 && i.tunnel == 0 && i.extended == 0 && i.endpoint == 0

abbrev pub tunnel_of : ℕ → StateReport → Tunnel
tunnel_of peer r =
    let i = identifiers_of r in
    if are_zero i then Unsignalled peer r.plsp else Signalled peer i.endpoint i.tunnel i.extended

abbrev pub is_down : Operational → Bool
is_down Down = true
is_down Up = false
is_down Active = false
is_down GoingDown = false
is_down GoingUp = false

-- the route that the LSP takes if it is known, else the intended one
abbrev pub hops_of : StateReport → List Hop
hops_of r = unwrap_or r.rro r.ero

-- an LSP that is down reserves nothing
abbrev pub links_of : Ted → StateReport → List ℕ
links_of te r = let i = identifiers_of r in if is_down r.operational then [] else walk te i.sender (hops_of r) i.endpoint

-- the path that the report describes
unfoldable pub reported_path : Ted → ℕ → StateReport → Path
reported_path te peer r = record {
  peer = peer;
  plsp = r.plsp;
  part = Reported (identifiers_of r).lsp;
  tunnel = tunnel_of peer r;
  hold = r.priorities.hold;
  bandwidth = r.bandwidth;
  links = links_of te r;
  fresh = true;
}

-- ---- the record of the LSP, by what was known of it before

abbrev pub old_source : Option Lsp → Option ℕ
old_source None = None
old_source (Some l) = l.constraints.source

abbrev pub old_destination : Option Lsp → Option ℕ
old_destination None = None
old_destination (Some l) = l.constraints.destination

abbrev pub old_name : Option Lsp → List ℕ
old_name None = []
old_name (Some l) = l.name

abbrev pub old_removing : Option Lsp → Option ℕ
old_removing None = None
old_removing (Some l) = l.removing

-- identifiers that are all zero leave the ends as they were
unfoldable pub reported_constraints : StateReport → Option Lsp → Constraints
reported_constraints r old =
    let i = identifiers_of r in
    record {
      source = if are_zero i then old_source old else Some i.sender;
      destination = if are_zero i then old_destination old else Some i.endpoint;
      bandwidth = r.bandwidth;
      priorities = r.priorities;
      colours = r.colours;
      minimise = Te;
      bound = None;
      hop_bound = None;
      other_bounds = record { igp = None; te = None };
      local_protection = r.local_protection;
    }

unfoldable pub reported_lsp : ℕ → StateReport → Option Lsp → Lsp
reported_lsp peer r old = record {
  name = unwrap_or r.name (old_name old);
  delegated = r.delegate;
  created = r.created;
  constraints = reported_constraints r old;
  tunnel = tunnel_of peer r;
  removing = old_removing old;
}
