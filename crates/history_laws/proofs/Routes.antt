-- The links of a route exist, and no route has one twice.
use Rattle.std.proofs.Common.{◌≡◌, ◌≢◌, ◌<◌, ◌==◌, ◌||◌, ℕ, zero, suc, Bool, true, false, not, nat_le, nat_lt, List, [], ◌∷◌, length, map, All, AllPairs, refl, sym, ◌∙◌, subst, arith, ◌&&◌, ◌+◌, ap}
use Rattle.std.specs.Prelude.{Option, Some, None, slice_get, unwrap_or, if◌then◌else◌, option_map}
use Rattle.std.specs.List.{list_any}
use Rattle.std.proofs.lemmas.Bool.{and_parts, both_ways, eq-eqb, eqb-true, not-true, or_left, or_parts, or_right}
use Rattle.std.proofs.lemmas.List.Elements.{All-nil, All-cons}
use Rattle.std.proofs.lemmas.List.Kept.{AllPairs-cons}
use Rattle.te_base.specs.Ted.{Ted}
use Rattle.te_base.specs.declared.network.Link.{Link}
use Rattle.te_base.proofs.WalkLaws.{AreSome}
use Rattle.te_snapshot.specs.Admissible.{end_of, is_distinct, is_within, keeps_other_bounds, node_of, nodes_of, cost_of}
use Rattle.lsp_base.specs.Lsps.{Lsps}
use Rattle.lsp_base.specs.Shares.{fits}
use Rattle.lsp_base.specs.declared.lsp.Constraints.{Constraints}
use Rattle.lsp_base.specs.declared.path.Path.{Path}
use Rattle.commit_core.specs.Routes.{is_acceptable, is_admissible, is_route, joins, leads, all_have_colours}
use Rattle.commit_core.specs.Verdicts.{accepted, is_gone, verdict}
use Rattle.commit_core.specs.declared.ticket.Ticket.{Ticket}
use Rattle.commit_core.specs.declared.verdict.PeerView.{PeerView}
use Rattle.commit_core.specs.declared.verdict.Verdict.{Verdict}
use Rattle.commit_core.specs.declared.verdict.Verdict.TheVariants as verdicts
use Rattle.step_core.specs.Grants.{path_of, verdict_on, view_of}
use Rattle.step_core.specs.States.{State}
use Rattle.commit_core.specs.Offers.{offered_path}

-- ---- links that lead from one node to another

within : (links : List Link) (n : ℕ) (l : Link) → slice_get links n ≡ Some l → n < length links
within [] n l is = absurd (cc (is))
within (x ∷ xs) zero l is = omega arith
within (x ∷ xs) (suc n) l is = let less = within xs n l is in omega (arith, less)

are_there : (links : List Link) (from to : ℕ) (ns : List ℕ) → leads from to (map (slice_get links) ns) ≡ true → All (λ l. l < length links) ns
are_there links from to [] is = All-nil (λ l. l < length links)
are_there links from to (n ∷ ns) is = by (slice_get links n) refl is (λ a rest. are_there links a to ns rest)
  where
    by : (o : Option Link) → slice_get links n ≡ o → leads from to (o ∷ map (slice_get links) ns) ≡ true → ((a : ℕ) → leads a to (map (slice_get links) ns) ≡ true → All (λ l. l < length links) ns) → All (λ l. l < length links) (n ∷ ns)
    by None at is later = absurd (cc (is))
    by (Some link) at is later = All-cons (λ l. l < length links) n ns (within links n link at) (later link.to (and_parts (link.from == from) _ is).1)

-- a path that takes a link passes the node at which it begins
passes : (links : List Link) (k : ℕ) (l : Link) → slice_get links k ≡ Some l → (from to : ℕ) (ns : List ℕ) → leads from to (map (slice_get links) ns) ≡ true → list_any (λ y. y == k) ns ≡ true → list_any (λ y. y == l.from) (nodes_of links from ns) ≡ true
passes links k l found from to [] is any = absurd (cc (any))
passes links k l found from to (n ∷ ns) is any = by (slice_get links n) refl is (λ a rest more. passes links k l found a to ns rest more)
  where
    either : (link : Link) → slice_get links n ≡ Some link → from ≡ link.from → (b : Bool) → (n == k) ≡ b → (b || list_any (λ y. y == k) ns) ≡ true → (list_any (λ y. y == k) ns ≡ true → list_any (λ y. y == l.from) (nodes_of links link.to ns) ≡ true)
        → (from == l.from || list_any (λ y. y == l.from) (nodes_of links (end_of (slice_get links n)) ns)) ≡ true
    either link at begins true same any later =
        let there : slice_get links n ≡ Some l = subst (λ (j : ℕ). slice_get links j ≡ Some l) (sym (eqb-true n k same)) found in
        let one : Some link ≡ Some l = sym at ∙ there in
        let first : link.from ≡ l.from = cc in
        or_left (from == l.from) _ (eq-eqb from l.from (begins ∙ first))
    either link at begins false other any later =
        or_right (from == l.from) _ (subst (λ (o : Option Link). list_any (λ y. y == l.from) (nodes_of links (end_of o) ns) ≡ true) (sym at) (later any))

    by : (o : Option Link) → slice_get links n ≡ o → leads from to (o ∷ map (slice_get links) ns) ≡ true
        → ((a : ℕ) → leads a to (map (slice_get links) ns) ≡ true → list_any (λ y. y == k) ns ≡ true → list_any (λ y. y == l.from) (nodes_of links a ns) ≡ true)
        → (from == l.from || list_any (λ y. y == l.from) (nodes_of links (end_of (slice_get links n)) ns)) ≡ true
    by None at is later = absurd (cc (is))
    by (Some link) at is later =
        let parts = and_parts (link.from == from) _ is in
        either link at (sym (eqb-true link.from from parts.0)) (n == k) refl any (later link.to parts.1)

all_other : (n : ℕ) (ns : List ℕ) → list_any (λ y. y == n) ns ≡ false → All (λ k. n ≢ k) ns
all_other n [] none = All-nil (λ k. n ≢ k)
all_other n (k ∷ ks) none =
    let parts = or_parts (k == n) (list_any (λ y. y == n) ks) none in
    All-cons (λ j. n ≢ j) k ks (λ same. both_ways (k == n) parts.0 (eq-eqb k n (sym same))) (all_other n ks parts.1)

not_any : (b : Bool) → (b ≡ true → ⊥) → b ≡ false
not_any true never = absurd (never refl)
not_any false never = refl

-- a path that passes no node twice takes no link twice
are_once : (links : List Link) (from to : ℕ) (ns : List ℕ) → leads from to (map (slice_get links) ns) ≡ true → is_distinct (nodes_of links from ns) ≡ true → AllPairs (λ l k. l ≢ k) ns
are_once links from to [] is distinct = λ i j d lt past. absurd (omega (arith, past))
are_once links from to (n ∷ ns) is distinct = by (slice_get links n) refl is (and_parts (not (list_any (λ y. y == from) (nodes_of links (end_of (slice_get links n)) ns))) (is_distinct (nodes_of links (end_of (slice_get links n)) ns)) distinct) (λ a rest apart. are_once links a to ns rest apart)
  where
    by : (o : Option Link) → slice_get links n ≡ o → leads from to (o ∷ map (slice_get links) ns) ≡ true
        → (not (list_any (λ y. y == from) (nodes_of links (end_of (slice_get links n)) ns)) ≡ true) × (is_distinct (nodes_of links (end_of (slice_get links n)) ns) ≡ true)
        → ((a : ℕ) → leads a to (map (slice_get links) ns) ≡ true → is_distinct (nodes_of links a ns) ≡ true → AllPairs (λ l k. l ≢ k) ns) → AllPairs (λ l k. l ≢ k) (n ∷ ns)
    by None at is apart later = absurd (cc (is))
    by (Some link) at is apart later =
        let parts = and_parts (link.from == from) (leads link.to to (map (slice_get links) ns)) is in
        let begins : link.from ≡ from = eqb-true link.from from parts.0 in
        let new : list_any (λ y. y == from) (nodes_of links link.to ns) ≡ false = subst (λ (o : Option Link). list_any (λ y. y == from) (nodes_of links (end_of o) ns) ≡ false) at (not-true _ apart.0) in
        let rest : is_distinct (nodes_of links link.to ns) ≡ true = subst (λ (o : Option Link). is_distinct (nodes_of links (end_of o) ns) ≡ true) at apart.1 in
        let never : list_any (λ y. y == n) ns ≡ true → ⊥ = λ any. both_ways (list_any (λ y. y == from) (nodes_of links link.to ns)) new (subst (λ (a : ℕ). list_any (λ y. y == a) (nodes_of links link.to ns) ≡ true) begins (passes links n link at link.to to ns parts.1 any)) in
        AllPairs-cons (λ l k. l ≢ k) n ns (all_other n ns (not_any (list_any (λ y. y == n) ns) never)) (later link.to parts.1 rest)

-- ---- a route

joined_some : (links : List Link) (ns : List ℕ) (from to : Option ℕ) → joins links ns from to ≡ true → AreSome (length links) ns
joined_some links ns None to is = absurd (cc (is))
joined_some links ns (Some a) None is = absurd (cc (is))
joined_some links ns (Some a) (Some b) is =
    let parts = and_parts (leads a b (map (slice_get links) ns)) (is_distinct (nodes_of links a ns)) is in
    record { below = are_there links a b ns parts.0; once = are_once links a b ns parts.0 parts.1 }

route_some : (te : Ted) (c : Constraints) (ns : List ℕ) → is_route te c ns ≡ true → AreSome (length te.links) ns
unfolding is_route
route_some te c ns is =
    let few = and_parts (nat_lt 0 (length ns)) _ is in
    let many = and_parts (nat_le (length ns) 64) _ few.1 in
    let hops = and_parts (is_within c.hop_bound (length ns)) _ many.1 in
    let joined = and_parts (joins te.links ns (node_of te.owners c.source) (node_of te.owners c.destination)) _ hops.1 in
    joined_some te.links ns (node_of te.owners c.source) (node_of te.owners c.destination) joined.0

-- ---- what is granted

nothing_granted : (gone same low : Bool) → (if gone then verdicts.Gone else (if same then verdicts.NoPath else (if low then verdicts.Again else verdicts.NoPath))) ≡ verdicts.Grant → ⊥
nothing_granted true same low is = cc
nothing_granted false true low is = cc
nothing_granted false false true is = cc
nothing_granted false false false is = cc

granted_by : (gone acceptable low : Bool) (outcome : Verdict) → (if gone then verdicts.Gone else (if acceptable then outcome else (if low then verdicts.Again else verdicts.GivenUp))) ≡ verdicts.Grant → acceptable ≡ true
granted_by true acceptable low outcome is = absurd (cc (is))
granted_by false true low outcome is = refl
granted_by false false true outcome is = absurd (cc (is))
granted_by false false false outcome is = absurd (cc (is))

none_granted : (t : Ticket) (lsps : Lsps) (te : Ted) (v : PeerView) → verdict t None lsps te v ≡ verdicts.Grant → ⊥
unfolding verdict
none_granted t lsps te v is = nothing_granted (is_gone lsps t v) (v.changes == t.seen) (nat_lt t.tries 4) is

acceptable : (t : Ticket) (g : Path) (lsps : Lsps) (te : Ted) (v : PeerView) → verdict t (Some g) lsps te v ≡ verdicts.Grant → is_acceptable te lsps.paths t.constraints g ≡ true
unfolding verdict
acceptable t g lsps te v is = granted_by (is_gone lsps t v) (is_acceptable te lsps.paths t.constraints g) (nat_lt t.tries 4) (accepted lsps t v) is

acceptable_some : (te : Ted) (paths : List Path) (c : Constraints) (g : Path) → is_acceptable te paths c g ≡ true → AreSome (length te.links) g.links
acceptable_some te paths c g is =
    let admissible = and_parts (is_admissible te paths c g) (keeps_other_bounds te.links c g.links) is in
    route_some te c g.links (and_parts (is_route te c g.links) (fits te.links paths g c.priorities.setup) admissible.0).0

pub granted_some : (s : State) (t : Ticket) (offer : Option (List ℕ)) → verdict_on s t offer ≡ verdicts.Grant → AreSome (length s.te.links) (path_of s t (unwrap_or offer [])).links
granted_some s t None is = absurd (none_granted t s.base s.te (view_of s t.peer) is)
granted_some s t (Some links) is = acceptable_some s.te s.base.paths t.constraints (path_of s t links) (acceptable t (path_of s t links) s.base s.te (view_of s t.peer) is)
