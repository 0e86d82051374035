-- Reports on a network of four nodes, computed by the definitions: 10.0.0.1 to 10.0.0.4, joined by way of
-- the second (links 0 and 1) and of the third (links 2 and 3), 1,000,000 bytes per second each.
use Rattle.std.proofs.Common.{◌≡◌, ℕ, List, [], ◌∷◌, ◌++◌, map, refl, true, false}
use Rattle.std.specs.Prelude.{ℤ, pos, negsuc, replicate, Some, None, Err}
use Rattle.pcep_word.specs.Priority.{in_force}
use Rattle.te_base.specs.Ted.{Ted}
use Rattle.te_base.specs.declared.network.Link.{Link}
use Rattle.te_base.specs.declared.network.Owner.{Owner}
use Rattle.lsp_base.specs.Shares.{share, reserved, unreserved, priorities}
use Rattle.lsp_base.specs.Lsps.{Lsps, no_lsps, changed}
use Rattle.lsp_base.specs.declared.tunnel.Tunnel.TheVariants.{Signalled, Unsignalled, Asked}
use Rattle.lsp_base.specs.declared.tunnel.Part.TheVariants.{Reported, Granted}
use Rattle.lsp_base.specs.declared.path.Path.{Path}
use Rattle.lsp_base.specs.declared.why.Why.TheVariants.{BadReport}
use Rattle.lsp_words.specs.declared.object.Hop.{Hop}
use Rattle.lsp_words.specs.declared.object.Hop.TheVariants.{Host}
use Rattle.pcep_objects.specs.declared.object.Operational.TheVariants.{Down, Up, GoingUp}
use Rattle.pcep_messages.specs.declared.message.StateReport.{StateReport}
use Rattle.delegate_rules.specs.Reports.{reported_path, reported_lsp, reported_constraints, no_identifiers}
use Rattle.delegate_rules.specs.Effects.{report_effect_by, removal_effect_by, reported_effect, report_result}

abbrev link : ℕ → ℕ → ℕ → ℕ → ℕ → Link
link from to local remote metric = record { from = from; to = to; local = local; remote = remote; igp = metric; te = metric; colour = 0; reservable = 1000000 }

abbrev owned : ℕ → ℕ → Owner
owned address node = record { address = address; node = node }

abbrev diamond : Ted
diamond = record {
  nodes = [];
  links = link 0 1 0x0a010001 0x0a010002 10 ∷ link 1 3 0x0a020001 0x0a020002 10 ∷ link 0 2 0x0a030001 0x0a030002 20 ∷ link 2 3 0x0a040001 0x0a040002 20 ∷ [];
  owners = owned 0x0a000001 0 ∷ owned 0x0a000002 1 ∷ owned 0x0a000003 2 ∷ owned 0x0a000004 3
      ∷ owned 0x0a010001 0 ∷ owned 0x0a010002 1 ∷ owned 0x0a020001 1 ∷ owned 0x0a020002 3
      ∷ owned 0x0a030001 0 ∷ owned 0x0a030002 2 ∷ owned 0x0a040001 2 ∷ owned 0x0a040002 3 ∷ [];
}

abbrev hop : ℕ → Hop
hop address = Host address false

-- LSP 1, LSP ID 1, by way of the second node
abbrev first : StateReport
first = record {
  srp = None;
  plsp = 1;
  remove = false;
  sync = false;
  delegate = false;
  admin = true;
  operational = Up;
  created = false;
  name = None;
  identifiers = Some (record { sender = 0x0a000001; lsp = 1; tunnel = 1; extended = 0x0a000001; endpoint = 0x0a000004 });
  ero = hop 0x0a010002 ∷ hop 0x0a020002 ∷ [];
  rro = None;
  bandwidth = 500000;
  priorities = record { setup = 7; hold = 0 };
  colours = record { exclude_any = 0; include_any = 0; include_all = 0 };
  local_protection = false;
  error_code = None;
  rsvp_error = None;
}

-- with another LSP ID and Tunnel ID
abbrev identified : StateReport → ℕ → ℕ → StateReport
identified r lsp tunnel = record r { identifiers = Some (record { sender = 0x0a000001; lsp = lsp; tunnel = tunnel; extended = 0x0a000001; endpoint = 0x0a000004 }) }

-- the removal of LSP ID 1
abbrev removal : StateReport
removal = record first { remove = true; ero = []; bandwidth = 0; priorities = record { setup = 0; hold = 0 } }

-- after a report of peer 1
abbrev after : Lsps → StateReport → Lsps
after lsps r = changed lsps 1 (reported_effect lsps diamond 1 r)

-- what is unreserved on each link, at priorities 0 to 7
abbrev book : Lsps → List (List ℤ)
book lsps = map (λ l. map (λ p. unreserved diamond.links lsps.paths l p) (priorities 0 7)) (0 ∷ 1 ∷ 2 ∷ 3 ∷ [])

abbrev upper : List ℤ → List (List ℤ)
upper row = row ∷ row ∷ replicate 8 (pos 1000000) ∷ replicate 8 (pos 1000000) ∷ []

one_report : book (after no_lsps first) ≡ upper (replicate 8 (pos 500000))
unfolding changed reported_effect report_effect_by reported_path reported_lsp reported_constraints share reserved unreserved
one_report = refl

-- make-before-break: a second LSP ID of the tunnel shares with the first
abbrev made : Lsps
made = after (after no_lsps first) (record (identified first 2 1) { bandwidth = 250000 })

made_before_break : book made ≡ upper (replicate 8 (pos 500000))
unfolding changed reported_effect report_effect_by reported_path reported_lsp reported_constraints share reserved unreserved
made_before_break = refl

broken : book (after made removal) ≡ upper (replicate 8 (pos 750000))
unfolding changed reported_effect report_effect_by removal_effect_by reported_path reported_lsp reported_constraints share reserved unreserved
broken = refl

-- a report describes what is there, so it may book more than a link can carry
overbooked : book (after (after no_lsps first) (record (identified first 1 2) { plsp = 2; bandwidth = 1000000 })) ≡ upper (replicate 8 (negsuc 499999))
unfolding changed reported_effect report_effect_by reported_path reported_lsp reported_constraints share reserved unreserved
overbooked = refl

held_at_four : book (after no_lsps (record first { priorities = record { setup = 7; hold = 4 }; bandwidth = 600000 })) ≡ upper (replicate 4 (pos 1000000) ++ replicate 4 (pos 400000))
unfolding changed reported_effect report_effect_by reported_path reported_lsp reported_constraints share reserved unreserved
held_at_four = refl

-- a holding priority worse than the setup priority counts as the setup priority
held_at_setup : book (after no_lsps (record first { priorities = in_force 4 7; bandwidth = 600000 })) ≡ upper (replicate 4 (pos 1000000) ++ replicate 4 (pos 400000))
unfolding changed reported_effect report_effect_by reported_path reported_lsp reported_constraints share reserved unreserved
held_at_setup = refl

down_reserves_nothing : book (after no_lsps (record first { operational = Down })) ≡ upper (replicate 8 (pos 1000000))
unfolding changed reported_effect report_effect_by reported_path reported_lsp reported_constraints share reserved unreserved
down_reserves_nothing = refl

-- a second report of the same LSP ID replaces the first
replaced : after (after no_lsps first) first ≡ after no_lsps first
unfolding changed reported_effect report_effect_by reported_path reported_lsp reported_constraints
replaced = refl

-- the removal of the last path removes the record too
removed : after (after no_lsps first) removal ≡ no_lsps
unfolding changed reported_effect report_effect_by removal_effect_by reported_path reported_lsp reported_constraints
removed = refl

refused_reserved : report_result no_lsps diamond 1 (record first { plsp = 0xFFFFF }) ≡ Err BadReport
unfolding report_result
refused_reserved = refl

-- ---- LSPs that aren't signalled

abbrev unsignalled : ℕ → StateReport
unsignalled n = record first { plsp = n; identifiers = None }

parts_unsignalled : map (λ x. x.tunnel) ((after (after no_lsps (unsignalled 1)) (unsignalled 2)).paths) ≡ Unsignalled 1 1 ∷ Unsignalled 1 2 ∷ []
unfolding changed reported_effect report_effect_by reported_path reported_lsp reported_constraints
parts_unsignalled = refl

-- once the LSP is signalled its unsignalled path is gone, and the other way round
signalled_then : map (λ x. x.tunnel) ((after (after no_lsps (unsignalled 1)) first).paths) ≡ Signalled 1 0x0a000004 1 0x0a000001 ∷ []
unfolding changed reported_effect report_effect_by reported_path reported_lsp reported_constraints
signalled_then = refl

unsignalled_then : map (λ x. x.part) ((after made (unsignalled 1)).paths) ≡ Reported 0 ∷ []
unfolding changed reported_effect report_effect_by reported_path reported_lsp reported_constraints
unsignalled_then = refl

-- ---- the grant of an initiation, and the reports that bind and settle it

abbrev grant : ℕ → Path
grant srp = record { peer = 1; plsp = 0; part = Granted srp; tunnel = Asked 1 srp; hold = 0; bandwidth = 500000; links = 0 ∷ 1 ∷ []; fresh = true }

abbrev granted : Lsps
granted = record no_lsps { paths = grant 1 ∷ [] }

abbrev coming_up : StateReport
coming_up = record (identified first 1 7) { srp = Some 1; plsp = 5; delegate = true; created = true; operational = GoingUp }

-- bound, it shares with the path that the report describes
bound_shares : book (after granted coming_up) ≡ upper (replicate 8 (pos 500000))
unfolding changed reported_effect report_effect_by reported_path reported_lsp reported_constraints share reserved unreserved
bound_shares = refl

bound_is_moved : map (λ x. x.tunnel) ((after granted coming_up).paths) ≡ replicate 2 (Signalled 1 0x0a000004 7 0x0a000001)
unfolding changed reported_effect report_effect_by reported_path reported_lsp reported_constraints
bound_is_moved = refl

bound_has_its_lsp : map (λ x. x.plsp) ((after granted coming_up).paths) ≡ 5 ∷ 5 ∷ []
unfolding changed reported_effect report_effect_by reported_path reported_lsp reported_constraints
bound_has_its_lsp = refl

settled : map (λ x. x.part) ((after (after granted coming_up) (record coming_up { operational = Up })).paths) ≡ Reported 1 ∷ []
unfolding changed reported_effect report_effect_by reported_path reported_lsp reported_constraints
settled = refl

-- two initiations that come up without identifiers are two tunnels
two_unsignalled : book (after (after (record no_lsps { paths = grant 1 ∷ grant 2 ∷ [] }) (record coming_up { identifiers = Some no_identifiers })) (record coming_up { identifiers = Some no_identifiers; srp = Some 2; plsp = 6 })) ≡ upper (replicate 8 (pos 0))
unfolding changed reported_effect report_effect_by reported_path reported_lsp reported_constraints share reserved unreserved
two_unsignalled = refl

-- a removal that carries the SRP-ID of an unbound grant binds it, in its own tunnel
bound_by_removal : map (λ x. x.plsp) ((after granted (record coming_up { remove = true })).paths) ≡ 5 ∷ []
unfolding changed reported_effect removal_effect_by
bound_by_removal = refl

tunnel_kept_by_removal : map (λ x. x.tunnel) ((after granted (record coming_up { remove = true })).paths) ≡ Asked 1 1 ∷ []
unfolding changed reported_effect removal_effect_by
tunnel_kept_by_removal = refl

settled_by_removal : after granted (record coming_up { remove = true; operational = Up }) ≡ no_lsps
unfolding changed reported_effect removal_effect_by
settled_by_removal = refl

-- a removal of all of an LSP removes its grant too
all_removed : after (after granted coming_up) (record coming_up { remove = true; identifiers = None }) ≡ no_lsps
unfolding changed reported_effect report_effect_by removal_effect_by reported_path reported_lsp reported_constraints
all_removed = refl
