-- When the input of a search still describes the network.
use Rattle.std.specs.Prelude.{ℕ, ◌≡◌, ◌<◌, ◌≤◌, true, List, length, Option, Some}
use Rattle.te_base.specs.Ted.{Ted}
use Rattle.lsp_base.specs.Lsps.{Lsps}
use Rattle.lsp_base.specs.Shares.{share}
use Rattle.lsp_base.specs.declared.path.Path.{Path}
use Rattle.lsp_base.specs.declared.tunnel.Tunnel.{Tunnel}
use Rattle.te_snapshot.specs.Admissible.{IsAdmissible, keeps_other_bounds}
use Rattle.te_snapshot.specs.Network.{NetworkState, network_of}
use Rattle.te_snapshot.specs.Room.{own_share}
use Rattle.te_snapshot.specs.declared.own.OwnShare.{OwnShare}
use Rattle.bandwidth_book.specs.Tables.{AreLeft}
use Rattle.commit_core.specs.Offers.{offered_path}
use Rattle.commit_core.specs.declared.ticket.Ticket.{Ticket}

-- the network is the same, its table has what the paths leave now, and the tunnel reserves no less now than its
-- own shares say
pub record IsCurrent (te : Ted) (paths : List Path) (tunnel : Tunnel) (s : NetworkState) (own : List OwnShare) : Type 0 where
  pub network : s.network ≡ network_of te
  pub left : AreLeft te.links paths s.unreserved
  pub shares : (l p : ℕ) → l < length te.links → p < 8 → own_share own l p ≤ share paths tunnel l p

-- the offer is the path over links that a search for the ticket may find, on a network that is still described
-- correctly
pub record IsFoundNow (te : Ted) (lsps : Lsps) (t : Ticket) (offer : Option Path) : Type 0 where
  pub links : List ℕ
  pub srp : ℕ
  pub searched : NetworkState
  pub own : List OwnShare
  pub offered : offer ≡ Some (offered_path lsps.records srp t links)
  pub current : IsCurrent te lsps.paths (offered_path lsps.records srp t links).tunnel searched own
  pub admissible : IsAdmissible searched t.constraints own links
  pub within : keeps_other_bounds te.links t.constraints links ≡ true
