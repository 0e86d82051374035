-- What a search finds is admissible if nothing changed since.
use Rattle.std.proofs.Common.{◌≡◌, ◌≤◌, ◌<◌, ℕ, zero, suc, ◌+◌, ◌-◌, Bool, true, false, T, ◌==◌, ◌&&◌, nat_le, nat_lt, int_le, pos, ◌-ℤ◌, ◌≤ℤ◌, ℤ, List, [], ◌∷◌, length, map, Option, Some, None, IfSome, refl, sym, ap, subst, ◌∙◌, arith, inl, inr, true≢false, slice_get}
use Rattle.std.specs.List.{list_all, list_any, range_with_len}
use Rattle.std.proofs.lemmas.Bool.{and_parts, or_cases, or_left, or_right}
use Rattle.std.proofs.lemmas.Bool.Decides.{nat_tests}
use Rattle.std.proofs.lemmas.Int.{ints}
use Rattle.std.proofs.lemmas.Option.{slice_get_within}
use Rattle.te_base.specs.Ted.{Ted}
use Rattle.te_base.specs.declared.network.Link.{Link}
use Rattle.te_snapshot.specs.Admissible.{IsAdmissible, IsJoined, EachOpen, colours_pass, cost_of, is_distinct, is_within, keeps_other_bounds, node_of, nodes_of}
use Rattle.te_snapshot.specs.Network.{Network, NetworkState, network_of, state_of}
use Rattle.te_snapshot.specs.Room.{has_room, has_room_at, left, own_share}
use Rattle.te_snapshot.specs.declared.own.OwnShare.{OwnShare}
use Rattle.lsp_base.specs.Lsps.{Lsps}
use Rattle.lsp_base.specs.Shares.{fits, fits_at, has_link, priorities, reservable, reserved, share, unreserved}
use Rattle.lsp_base.specs.declared.lsp.Constraints.{Constraints}
use Rattle.lsp_base.specs.declared.path.Path.{Path}
use Rattle.bandwidth_book.proofs.Fits.{fits_at_is}
use Rattle.bandwidth_book.specs.Tables.{AreLeft}
use Rattle.commit_core.specs.Offers.{offered_path}
use Rattle.commit_core.specs.Routes.{leads, joins, all_have_colours, is_route, is_admissible, is_acceptable}
use Rattle.commit_core.specs.Searched.{IsCurrent}
use Rattle.commit_core.specs.Verdicts.{accepted, is_gone, verdict}
use Rattle.commit_core.specs.declared.ticket.Ticket.{Ticket}
use Rattle.commit_core.specs.declared.verdict.PeerView.{PeerView}

both : (a b : Bool) → a ≡ true → b ≡ true → (a && b) ≡ true
both true b e f = f
both false b e f = absurd (true≢false (sym e))

same_number : (a b : ℕ) → a ≡ b → (a == b) ≡ true
same_number a b e = grind (arith, nat_tests, e)

-- ---- the route

leads_of : (links : List Link) (from to : ℕ) (path : List ℕ) → IsJoined links from path to → leads from to (map (slice_get links) path) ≡ true
leads_of links from to [] h = same_number from to h
leads_of links from to (n ∷ ns) h =
    let l = h.0 in
    rw h.1 (both (l.from == from) (leads l.to to (map (slice_get links) ns)) (same_number l.from from h.2) (leads_of links l.to to ns h.3))

colours_of : (links : List Link) (table : List (List ℤ)) (c : Constraints) (own : List OwnShare) (path : List ℕ) → EachOpen links table c own path → all_have_colours links c.colours path ≡ true
colours_of links table c own [] h = refl
colours_of links table c own (n ∷ ns) h =
    let l = h.0 in
    let passes : (colours_pass c.colours l.colour && has_room table own c.bandwidth c.priorities.hold c.priorities.setup n) ≡ true = h.2 in
    rw h.1 (both (colours_pass c.colours l.colour) (all_have_colours links c.colours ns) (and_parts (colours_pass c.colours l.colour) _ passes).0 (colours_of links table c own ns h.3))

within_of : (bound : Option ℕ) (n : ℕ) → IfSome bound (λ b. n ≤ b) → is_within bound n ≡ true
within_of None n h = refl
within_of (Some b) n h = grind (arith, nat_tests, h)

joins_of : (links : List Link) (path : List ℕ) (from to : Option ℕ) (a b : ℕ) → from ≡ Some a → to ≡ Some b → leads a b (map (slice_get links) path) ≡ true → is_distinct (nodes_of links a path) ≡ true → joins links path from to ≡ true
joins_of links path from to a b ef et joined once = rw (ef, et) (both (leads a b (map (slice_get links) path)) (is_distinct (nodes_of links a path)) joined once)

route_of : (te : Ted) (table : List (List ℤ)) (c : Constraints) (own : List OwnShare) (path : List ℕ) → IsAdmissible (state_of (network_of te) table) c own path → is_route te c path ≡ true
unfolding is_route
route_of te table c own path h =
    let some = h.some in
    let few = h.few in
    let from = node_of te.owners c.source in
    let to = node_of te.owners c.destination in
    both (nat_lt 0 (length path)) _ (grind (arith, nat_tests, some))
    (both (nat_le (length path) 64) _ (grind (arith, nat_tests, few))
    (both (is_within c.hop_bound (length path)) _ (within_of c.hop_bound (length path) h.hops)
    (both (joins te.links path from to) _ (joins_of te.links path from to h.source h.destination h.from h.to (leads_of te.links h.source h.destination path h.joined) h.once)
    (both (all_have_colours te.links c.colours path) _ (colours_of te.links table c own path h.each)
    (within_of c.bound (cost_of c.minimise te.links path) h.cost)))))

-- ---- what it reserves

is_true : (b : Bool) → T b → b ≡ true
is_true true t = refl
is_true false t = absurd t

-- if a smaller share leaves room for a path, so does a greater one
room_below : (able sum bandwidth held own : ℕ) → own ≤ held → int_le (pos (bandwidth - own)) (pos able -ℤ pos sum) ≡ true → int_le (pos 0) (pos able -ℤ pos (sum + (bandwidth - held))) ≡ true
room_below able sum bandwidth held own less h =
    let given : pos (bandwidth - own) ≤ℤ (pos able -ℤ pos sum) = record { le = subst T (sym h) tt } in
    let wanted : pos 0 ≤ℤ (pos able -ℤ pos (sum + (bandwidth - held))) = omega (arith, ints, given, less) in
    is_true (int_le (pos 0) (pos able -ℤ pos (sum + (bandwidth - held)))) wanted.le

fits_at_of : (links : List Link) (paths : List Path) (table : List (List ℤ)) (own : List OwnShare) (g : Path) (l p : ℕ) → g.hold ≤ p → has_link l g ≡ true
    → left table l p ≡ unreserved links paths l p → own_share own l p ≤ share paths g.tunnel l p → has_room_at table own g.bandwidth l p ≡ true → fits_at links paths g l p ≡ true
unfolding unreserved
fits_at_of links paths table own g l p held has here less room =
    let s = share paths g.tunnel l p in
    let sum = reserved paths l p in
    let b = g.bandwidth in
    let o = own_share own l p in
    let low : nat_le g.hold p ≡ true = grind (arith, nat_tests, held) in
    let is = fits_at_is links paths g l p b s sum refl refl refl low has in
    sym is ∙ elim (or_cases (nat_le b o) (int_le (pos (b - o)) (left table l p)) room) [
      | inl shared ↦ (let more : nat_le b s ≡ true = grind (arith, nat_tests, shared, less) in or_left (nat_le b s) _ more)
      | inr borne ↦ or_right (nat_le b s) _ (room_below (reservable links l) sum b s o less (subst (λ (z : ℤ). int_le (pos (b - o)) z ≡ true) here borne))
    ]

all_range : (f g : ℕ → Bool) (low n : ℕ) → ((p : ℕ) → low ≤ p → p < low + n → f p ≡ true → g p ≡ true) → list_all f (range_with_len low n) ≡ true → list_all g (range_with_len low n) ≡ true
all_range f g low zero each h = refl
all_range f g low (suc n) each h =
    let parts = and_parts (f low) (list_all f (range_with_len (low + 1) n)) h in
    both (g low) (list_all g (range_with_len (low + 1) n)) (each low (omega arith) (omega arith) parts.0)
    (all_range f g (low + 1) n (λ p from to. each p (omega (arith, from)) (omega (arith, to))) parts.1)

-- the links of a part of the path fit
part_fits : (links : List Link) (paths : List Path) (table : List (List ℤ)) (c : Constraints) (own : List OwnShare) (g : Path) (part : List ℕ)
    → AreLeft links paths table → ((l p : ℕ) → l < length links → p < 8 → own_share own l p ≤ share paths g.tunnel l p)
    → g.hold ≡ c.priorities.hold → g.bandwidth ≡ c.bandwidth → c.priorities.setup ≤ 7
    → ((l : ℕ) → list_any (λ k. k == l) part ≡ true → has_link l g ≡ true) → EachOpen links table c own part
    → list_all (λ l. nat_lt l (length links) && list_all (fits_at links paths g l) (priorities g.hold c.priorities.setup)) part ≡ true
part_fits links paths table c own g [] here less eh eb small has h = refl
part_fits links paths table c own g (n ∷ ns) here less eh eb small has h =
    let l = h.0 in
    let setup = c.priorities.setup in
    let within : n < length links = slice_get_within links n l h.1 in
    let there : nat_lt n (length links) ≡ true = grind (arith, nat_tests, within) in
    let passes : (colours_pass c.colours l.colour && has_room table own c.bandwidth c.priorities.hold setup n) ≡ true = h.2 in
    let room : list_all (has_room_at table own c.bandwidth n) (priorities c.priorities.hold setup) ≡ true = (and_parts (colours_pass c.colours l.colour) _ passes).1 in
    let room2 : list_all (has_room_at table own g.bandwidth n) (priorities g.hold setup) ≡ true = rw (eb, eh) room in
    let mine : has_link n g ≡ true = has n (or_left (n == n) _ (same_number n n refl)) in
    let each = λ (p : ℕ) (from : g.hold ≤ p) (to : p < g.hold + (setup + 1 - g.hold)) (r : has_room_at table own g.bandwidth n p ≡ true).
    (let eight : p < 8 = omega (arith, from, to, small) in fits_at_of links paths table own g n p from mine (here n p within eight) (less n p within eight) r) in
    let fit : list_all (fits_at links paths g n) (priorities g.hold setup) ≡ true = all_range (has_room_at table own g.bandwidth n) (fits_at links paths g n) g.hold (setup + 1 - g.hold) each room2 in
    both (nat_lt n (length links) && list_all (fits_at links paths g n) (priorities g.hold setup)) _ (both (nat_lt n (length links)) _ there fit)
    (part_fits links paths table c own g ns here less eh eb small (λ k e. has k (or_right (n == k) _ e)) h.3)

fits_of : (te : Ted) (paths : List Path) (c : Constraints) (own : List OwnShare) (g : Path) (table : List (List ℤ)) → AreLeft te.links paths table → ((l p : ℕ) → l < length te.links → p < 8 → own_share own l p ≤ share paths g.tunnel l p)
    → g.hold ≡ c.priorities.hold → g.bandwidth ≡ c.bandwidth → c.priorities.setup ≤ 7 → IsAdmissible (state_of (network_of te) table) c own g.links → fits te.links paths g c.priorities.setup ≡ true
unfolding fits
fits_of te paths c own g table here less eh eb small h = part_fits te.links paths table c own g g.links here less eh eb small (λ l e. e) h.each

-- what is admissible on a snapshot that is still correct is admissible now
pub found_is_admissible : (te : Ted) (paths : List Path) (c : Constraints) (g : Path) (s : NetworkState) (own : List OwnShare) → IsCurrent te paths g.tunnel s own
    → g.hold ≡ c.priorities.hold → g.bandwidth ≡ c.bandwidth → c.priorities.setup ≤ 7 → IsAdmissible s c own g.links → is_admissible te paths c g ≡ true
found_is_admissible te paths c g s own now eh eb small h =
    let same : s ≡ state_of (network_of te) s.unreserved = ap (λ (n : Network). state_of n s.unreserved) now.network in
    let on : IsAdmissible (state_of (network_of te) s.unreserved) c own g.links = subst (λ (t : NetworkState). IsAdmissible t c own g.links) same h in
    both (is_route te c g.links) (fits te.links paths g c.priorities.setup) (route_of te s.unreserved c own g.links on)
    (fits_of te paths c own g s.unreserved now.left now.shares eh eb small on)

-- so a ticket for which it was found, and that isn't gone, is granted or answered, as long as grants can be kept
pub found_is_accepted : (t : Ticket) (links : List ℕ) (srp : ℕ) (lsps : Lsps) (te : Ted) (v : PeerView) (s : NetworkState) (own : List OwnShare) → t.constraints.priorities.setup ≤ 7
    → IsCurrent te lsps.paths (offered_path lsps.records srp t links).tunnel s own → IsAdmissible s t.constraints own links → keeps_other_bounds te.links t.constraints links ≡ true → is_gone lsps t v ≡ false
    → verdict t (Some (offered_path lsps.records srp t links)) lsps te v ≡ accepted lsps t v
unfolding verdict offered_path
found_is_accepted t links srp lsps te v s own small now h keeps stays =
    let g = offered_path lsps.records srp t links in
    let admissible : is_admissible te lsps.paths t.constraints g ≡ true = found_is_admissible te lsps.paths t.constraints g s own now refl refl small h in
    let acceptable : is_acceptable te lsps.paths t.constraints g ≡ true = both (is_admissible te lsps.paths t.constraints g) _ admissible keeps in
    rw (stays, acceptable) refl
