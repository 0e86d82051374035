-- Tables of what is left of links, and the snapshots that have them.
use Rattle.std.specs.Prelude.{ℕ, ℤ, ◌≡◌, ◌<◌, false, List, length}
use Rattle.lsp_base.specs.Shares.{unreserved}
use Rattle.lsp_base.specs.declared.path.Path.{Path}
use Rattle.lsp_base.specs.declared.tunnel.Tunnel.{Tunnel}
use Rattle.te_base.specs.declared.network.Link.{Link}
use Rattle.te_snapshot.specs.Left.{all_left, left_on}
use Rattle.te_snapshot.specs.Network.{Network, NetworkState}
use Rattle.te_snapshot.specs.Pages.{is_marked, row}
use Rattle.te_snapshot.specs.Room.{left}
use Rattle.te_snapshot.specs.declared.marks.Marks.{Marks}
use Rattle.bandwidth_book.specs.Reservation.{Reservation, times}
use Rattle.bandwidth_book.specs.Paths.{IsHeldBy, held_by}

-- the table says what the paths leave on each link, at each of the eight priorities
abbrev pub AreLeft : List Link → List Path → List (List ℤ) → Type 0
AreLeft links paths table = (l p : ℕ) → l < length links → p < 8 → left table l p ≡ unreserved links paths l p

-- the network n, with what each list of paths leaves of its links that holds `held` on the first `count` of them
pub record IsLeftOver (n : Network) (count : ℕ) (held : ℕ → Tunnel → List Reservation) (s : NetworkState) : Type 0 where
  pub network : s.network ≡ n
  pub left : (paths : List Path) → IsHeldBy count held paths → s.unreserved ≡ all_left n.links paths

-- for each tunnel, holding priority and bandwidth, as much is held on the link as the paths hold there
abbrev pub IsHeldOn : (Tunnel → List Reservation) → ℕ → List Path → Type 0
IsHeldOn held l paths = (t : Tunnel) (h : Reservation) → times h (held t) ≡ times h (held_by l t paths)

-- a row says what is left of the link given each list of paths that holds this much there
abbrev pub IsRowOf : List Link → (ℕ → Tunnel → List Reservation) → ℕ → List ℤ → Type 0
IsRowOf links held l row = (paths : List Path) → IsHeldOn (held l) l paths → row ≡ left_on links paths l

-- each row that isn't marked says what is left of its link
abbrev pub AreFresh : List Link → (ℕ → Tunnel → List Reservation) → Marks → List (List ℤ) → Type 0
AreFresh links held marks table = (l : ℕ) → l < length links → is_marked marks l ≡ false → IsRowOf links held l (row table l)
