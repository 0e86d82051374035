-- What lists of paths hold on the links.
use Rattle.std.specs.Prelude.{◌≡◌, ◌<◌, ◌≤◌, ℕ, List, [], ◌∷◌, ◌++◌, length, option_to_list, slice_get}
use Rattle.lsp_base.specs.declared.path.Path.{Path}
use Rattle.lsp_base.specs.declared.tunnel.Tunnel.{Tunnel}
use Rattle.bandwidth_book.specs.Reservation.{Reservation}
use Rattle.bandwidth_book.specs.Reservation.{held_of, times}
pub use Rattle.bandwidth_book.specs.Tunnels.{tunnel_eq}
use Rattle.bandwidth_book.specs.Tunnels.{held_by_path}

-- what the tunnel's paths hold on a link, once for each time that a path has it
abbrev pub held_by : ℕ → Tunnel → List Path → List Reservation
held_by l t [] = []
held_by l t (x ∷ xs) = held_by_path x.tunnel (held_of x) l t x.links ++ held_by l t xs

-- the paths at these places
abbrev pub picked : List ℕ → List Path → List Path
picked [] paths = []
picked (i ∷ is) paths = option_to_list (slice_get paths i) ++ picked is paths

-- on each of n links, as much is held for each tunnel, holding priority and bandwidth as the paths hold there
abbrev pub IsHeldBy : ℕ → (ℕ → Tunnel → List Reservation) → List Path → Type 0
IsHeldBy n held paths = (l : ℕ) (t : Tunnel) (h : Reservation) → l < n → times h (held l t) ≡ times h (held_by l t paths)

-- room is promised for what these paths hold
abbrev pub IsPromised : ℕ → (ℕ → Tunnel → ℕ) → List Path → Type 0
IsPromised n promised paths = (l : ℕ) (t : Tunnel) → l < n → length (held_by l t paths) ≤ promised l t
