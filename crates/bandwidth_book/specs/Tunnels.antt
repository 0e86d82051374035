-- What tunnels hold on links, the sums over all tunnels, and what a path holds.
use Rattle.std.specs.Prelude.{◌≡◌, ◌<◌, ℕ, ◌+◌, ◌&&◌, ◌==◌, Bool, List, [], ◌∷◌, ◌++◌, Option, Some, None, length, slice_index, slice_get, if◌then◌else◌}
use Rattle.std.specs.Map.{lookup}
use Rattle.lsp_base.specs.contracts.tunnel.TunnelPartialEq.TheImpl.{eq-value}
use Rattle.lsp_base.specs.declared.tunnel.Tunnel.{Tunnel}
use Rattle.bandwidth_book.specs.Reservation.{Reservation}
use Rattle.bandwidth_book.specs.declared.link_entries.LinkEntry.{LinkEntry}
use Rattle.bandwidth_book.specs.Entries.{entry_on, held_in}
use Rattle.bandwidth_book.specs.Reservation.{most}
use Rattle.bandwidth_book.specs.Holdings.{Holdings}

-- the entries of a tunnel; none if it has no list
abbrev pub entries_in : Option (List LinkEntry) → List LinkEntry
entries_in None = []
entries_in (Some xs) = xs

-- the greatest bandwidth that they hold on a link at a priority or a better one
abbrev pub most_on : ℕ → ℕ → Option (List LinkEntry) → ℕ
most_on l p o = most (held_in (entry_on l (entries_in o))) p

-- the sum of what each value of a map counts
abbrev pub total : {K V : Type 0} → (Option V → ℕ) → List (K × V) → ℕ
total f [] = 0
total f (e ∷ es) = f (Some e.1) + total f es

-- what a row of sums that may be missing has at a priority
abbrev pub sum_in : Option (List ℕ) → ℕ → ℕ
sum_in None p = 0
sum_in (Some row) p = slice_index row p

-- the stored sum of a link at a priority
abbrev pub sum_at : List (List ℕ) → ℕ → ℕ → ℕ
sum_at sums l p = sum_in (slice_get sums l) p

-- what `==` of tunnels says
abbrev pub tunnel_eq : Tunnel → Tunnel → Bool
tunnel_eq = eq-value.it

-- the tunnel's entry on a link
abbrev pub entry_of : List (Tunnel × List LinkEntry) → ℕ → Tunnel → Option Holdings
entry_of tunnels l t = entry_on l (entries_in (lookup (tunnel_eq t) tunnels))

-- each sum is the greatest bandwidths of the tunnels on that link at that priority, added up
abbrev pub AreSums : List (List ℕ) → List (Tunnel × List LinkEntry) → Type 0
AreSums sums tunnels = (l p : ℕ) → l < length sums → p < 8 → sum_at sums l p ≡ total (most_on l p) tunnels

-- no tunnel has an empty list
abbrev pub HasNoEmptyList : List (Tunnel × List LinkEntry) → Type 0
HasNoEmptyList tunnels = (t : Tunnel) → lookup (tunnel_eq t) tunnels ≡ Some [] → ⊥

-- what a path holds on a link, once for each time that it has the link
abbrev pub held_by_links : Reservation → ℕ → List ℕ → List Reservation
held_by_links held l [] = []
held_by_links held l (x ∷ xs) = (if x == l then held ∷ [] else []) ++ held_by_links held l xs

-- what a path of the first tunnel holds on a link for the second, once for each time that it has the link
abbrev pub held_by_path : Tunnel → Reservation → ℕ → Tunnel → List ℕ → List Reservation
held_by_path own held l t [] = []
held_by_path own held l t (x ∷ xs) = (if x == l && tunnel_eq own t then held ∷ [] else []) ++ held_by_path own held l t xs
