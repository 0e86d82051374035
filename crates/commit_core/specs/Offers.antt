-- What a ticket asks for, and the path that a grant of an offer would add.
use Rattle.std.specs.Prelude.{ℕ, Bool, true, false, List, Option, Some, None, option_map, unwrap_or}
use Rattle.lsp_base.specs.Lsps.{lsp_at}
use Rattle.lsp_base.specs.declared.effect.Record.{Record}
use Rattle.lsp_base.specs.declared.path.Path.{Path}
use Rattle.lsp_base.specs.declared.tunnel.Part.TheVariants.{Granted}
use Rattle.lsp_base.specs.declared.tunnel.Tunnel.{Tunnel}
use Rattle.lsp_base.specs.declared.tunnel.Tunnel.TheVariants.{Unsignalled, Asked}
use Rattle.commit_core.specs.declared.ticket.Purpose.{Purpose}
use Rattle.commit_core.specs.declared.ticket.Purpose.TheVariants as purposes
use Rattle.commit_core.specs.declared.ticket.Ticket.{Ticket}

-- it asks for a path that isn't granted, but answered (RFC 5440 section 6.4)
abbrev pub is_request : Purpose → Bool
is_request (purposes.Update plsp) = false
is_request (purposes.Initiate name constraints) = false
is_request (purposes.Answer request plsp constraints) = true

abbrev pub tunnel_known : List Record → ℕ → ℕ → Option Tunnel
tunnel_known records peer plsp = option_map (λ lsp. lsp.tunnel) (lsp_at records peer plsp)

-- the tunnel of the LSP that is named, if one is
abbrev pub tunnel_named : List Record → ℕ → Option ℕ → Option Tunnel
tunnel_named records peer None = None
tunnel_named records peer (Some plsp) = tunnel_known records peer plsp

-- the tunnel whose reservations the path may share: that of the LSP that it is for, if there is one
abbrev pub own_tunnel : List Record → ℕ → Purpose → Option Tunnel
own_tunnel records peer (purposes.Update plsp) = tunnel_known records peer plsp
own_tunnel records peer (purposes.Initiate name constraints) = None
own_tunnel records peer (purposes.Answer request plsp constraints) = tunnel_named records peer plsp

-- the tunnel in which a grant with this SRP-ID would be: an initiation has its own, and a request for no LSP has one
-- that no path has
abbrev pub granted_tunnel : List Record → ℕ → ℕ → Purpose → Tunnel
granted_tunnel records peer srp (purposes.Update plsp) = unwrap_or (tunnel_known records peer plsp) (Unsignalled peer plsp)
granted_tunnel records peer srp (purposes.Initiate name constraints) = Asked peer srp
granted_tunnel records peer srp (purposes.Answer request plsp constraints) = unwrap_or (tunnel_named records peer plsp) (Unsignalled peer 0)

-- a grant of an initiation isn't bound to an LSP yet
abbrev pub granted_plsp : Purpose → ℕ
granted_plsp (purposes.Update plsp) = plsp
granted_plsp (purposes.Initiate name constraints) = 0
granted_plsp (purposes.Answer request plsp constraints) = 0

-- the path that a grant of these links with this SRP-ID adds
unfoldable pub offered_path : List Record → ℕ → Ticket → List ℕ → Path
offered_path records srp t links = record {
  peer = t.peer;
  plsp = granted_plsp t.purpose;
  part = Granted srp;
  tunnel = granted_tunnel records t.peer srp t.purpose;
  hold = t.constraints.priorities.hold;
  bandwidth = t.constraints.bandwidth;
  links = links;
  fresh = true;
}
