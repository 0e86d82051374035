-- What paths reserve. The paths of one tunnel share what they reserve on a common link
-- (shared explicit reservation, RFC 3209 section 2.4.3).
use Rattle.std.specs.Prelude.{ℕ, max, Bool, ◌==◌, ◌&&◌, List, [], ◌∷◌, ◌++◌, map, filter, sum_by, if◌then◌else◌, nat_le, nat_lt, length, ◌+◌, ◌-◌, ◌||◌, not, ℤ, pos, ◌-ℤ◌, int_le, option_map, unwrap_or, slice_get}
use Rattle.std.specs.List.{list_any, list_all, range_with_len}
use Rattle.lsp_base.specs.Same.{same_tunnel}
use Rattle.lsp_base.specs.declared.tunnel.Tunnel.{Tunnel}
use Rattle.lsp_base.specs.declared.path.Path.{Path}
use Rattle.te_base.specs.declared.network.Link.{Link}

-- the greatest of the numbers, or 0
abbrev pub greatest : List ℕ → ℕ
greatest [] = 0
greatest (n ∷ ns) = max n (greatest ns)

abbrev pub has_link : ℕ → Path → Bool
has_link l x = list_any (λ k. k == l) x.links

abbrev pub is_of_tunnel : Tunnel → Path → Bool
is_of_tunnel t x = same_tunnel x.tunnel t

-- the path is one of the tunnel's on the link, held at the priority or a better one
abbrev pub is_held : Tunnel → ℕ → ℕ → Path → Bool
is_held t l p x = is_of_tunnel t x && nat_le x.hold p && has_link l x

-- what the tunnel reserves on the link at the priority: the greatest bandwidth of its paths there
unfoldable pub share : List Path → Tunnel → ℕ → ℕ → ℕ
share paths t l p = greatest (map (λ x. x.bandwidth) (filter (is_held t l p) paths))

-- the tunnels of the paths, each once: at its last path
abbrev pub tunnels_of : List Path → List Tunnel
tunnels_of [] = []
tunnels_of (x ∷ xs) = if list_any (is_of_tunnel x.tunnel) xs then tunnels_of xs else x.tunnel ∷ tunnels_of xs

-- what is reserved on the link at the priority, over all tunnels
unfoldable pub reserved : List Path → ℕ → ℕ → ℕ
reserved paths l p = sum_by (λ t. share paths t l p) (tunnels_of paths)

-- what may be reserved on the link; 0 if there is no such link
abbrev pub reservable : List Link → ℕ → ℕ
reservable links l = unwrap_or (option_map (λ k. k.reservable) (slice_get links l)) 0

-- what is left on the link; below zero if more was reported than the link can carry
unfoldable pub unreserved : List Link → List Path → ℕ → ℕ → ℤ
unreserved links paths l p = pos (reservable links l) -ℤ pos (reserved paths l p)

-- ---- one more path

-- its tunnel would reserve more on the link than now
abbrev pub rises : List Path → Path → ℕ → ℕ → Bool
rises paths g l p = nat_lt (share paths g.tunnel l p) (share (paths ++ g ∷ []) g.tunnel l p)

-- the priorities from one to another, both included
abbrev pub priorities : ℕ → ℕ → List ℕ
priorities low high = range_with_len low (high + 1 - low)

abbrev pub fits_at : List Link → List Path → Path → ℕ → ℕ → Bool
fits_at links paths g l p = not (rises paths g l p) || int_le (pos 0) (unreserved links (paths ++ g ∷ []) l p)

-- the links exist, and with one more path none of them is below zero at a priority from holding to setup at which the
-- path reserves more
unfoldable pub fits : List Link → List Path → Path → ℕ → Bool
fits links paths g setup = list_all (λ l. nat_lt l (length links) && list_all (fits_at links paths g l) (priorities g.hold setup)) g.links
