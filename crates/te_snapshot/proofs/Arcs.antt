-- The links that leave a node, and those that enter it.
use Rattle.std.proofs.Common.{◌≡◌, ℕ, ◌+◌, ◌==◌, Bool, true, false, List, [], ◌∷◌, All, zero, suc, add-zero, zero-add, Some, sym, ap, subst, ◌∙◌, arith, map, option_map, slice_get, get_or, if◌then◌else◌}
use Rattle.std.proofs.lemmas.List.Elements.{All-nil, All-cons, All-head, All-tail, All-map}
use Rattle.std.proofs.lemmas.Bool.Decides.{nat_tests}
use Rattle.std.proofs.lemmas.Option.{same_Some, slice_get-map}
use Rattle.te_base.specs.declared.network.Link.{Link}
use Rattle.te_base.specs.Ted.{IsLinkAmong}
use Rattle.te_snapshot.specs.declared.outgoing.Outgoing.{Outgoing}
use Rattle.te_snapshot.specs.Leaving.{arc_of, entering, leaving, leaving_from, turned, IsArcAmong}

-- what a read past the end gives
abbrev pub blank : Link
blank = record { from = 0; to = 0; local = 0; remote = 0; igp = 0; te = 0; colour = 0; reservable = 0 }

pub arc_among : (nodes number : ℕ) (l : Link) → IsLinkAmong nodes l → IsArcAmong nodes (arc_of number l)
arc_among nodes number l h = record { to = h.to; igp_positive = h.igp_positive; igp_small = h.igp_small; te_positive = h.te_positive; te_small = h.te_small }

kept : (nodes : ℕ) (b : Bool) (arc : Outgoing) (arcs : List Outgoing) → IsArcAmong nodes arc → All (IsArcAmong nodes) arcs → All (IsArcAmong nodes) (if b then arc ∷ arcs else arcs)
kept nodes true arc arcs h hs = All-cons (IsArcAmong nodes) arc arcs h hs
kept nodes false arc arcs h hs = hs

from_among : (nodes number : ℕ) (links : List Link) (node : ℕ) → All (IsLinkAmong nodes) links → All (IsArcAmong nodes) (leaving_from number links node)
from_among nodes number [] node h = All-nil (IsArcAmong nodes)
from_among nodes number (l ∷ ls) node h =
    kept nodes (l.from == node) (arc_of number l) (leaving_from (number + 1) ls node)
    (arc_among nodes number l (All-head (IsLinkAmong nodes) l ls h))
    (from_among nodes (number + 1) ls node (All-tail (IsLinkAmong nodes) l ls h))

-- each link that leaves a node leads to one of the nodes, with its metrics in their range
pub leaving_among : (nodes : ℕ) (links : List Link) (node : ℕ) → All (IsLinkAmong nodes) links → All (IsArcAmong nodes) (leaving links node)
leaving_among nodes links node h = from_among nodes 0 links node h

-- ---- each link is among those that leave its node

same_test : (a : ℕ) → (a == a) ≡ true
same_test a = grind (arith, nat_tests)

one_test : (P : Outgoing → Type 0) (b : Bool) (arc : Outgoing) (arcs : List Outgoing) → b ≡ true → All P (if b then arc ∷ arcs else arcs) → P arc
one_test P true arc arcs h all = All-head P arc arcs all
one_test P false arc arcs h all = cc

rest_test : (P : Outgoing → Type 0) (b : Bool) (arc : Outgoing) (arcs : List Outgoing) → All P (if b then arc ∷ arcs else arcs) → All P arcs
rest_test P true arc arcs all = All-tail P arc arcs all
rest_test P false arc arcs all = all

has_from : (P : Outgoing → Type 0) (number : ℕ) (links : List Link) (n : ℕ) (l : Link) → slice_get links n ≡ Some l → All P (leaving_from number links l.from) → P (arc_of (number + n) l)
has_from P number [] n l here all = cc
has_from P number (m ∷ ls) zero l here all =
    let same : m ≡ l = same_Some m l here in
    let test : (m.from == l.from) ≡ true = subst (λ (x : Link). (x.from == l.from) ≡ true) (sym same) (same_test l.from) in
    let at : P (arc_of number m) = one_test P (m.from == l.from) (arc_of number m) (leaving_from (number + 1) ls l.from) test all in
    subst (λ (k : ℕ). P (arc_of k l)) (sym (add-zero number)) (subst (λ (x : Link). P (arc_of number x)) same at)
has_from P number (m ∷ ls) (suc n) l here all =
    let more = has_from P (number + 1) ls n l here (rest_test P (m.from == l.from) (arc_of number m) (leaving_from (number + 1) ls l.from) all) in
    let e : number + 1 + n ≡ number + suc n = omega arith in
    subst (λ (k : ℕ). P (arc_of k l)) e more

-- what holds of all links that leave a node holds of each link that leaves it
pub leaving_has : (P : Outgoing → Type 0) (links : List Link) (n : ℕ) (l : Link) → slice_get links n ≡ Some l → All P (leaving links l.from) → P (arc_of n l)
leaving_has P links n l here all = subst (λ (k : ℕ). P (arc_of k l)) (zero-add n) (has_from P 0 links n l here all)

-- ---- the links that enter a node

turned_among : (nodes : ℕ) (l : Link) → IsLinkAmong nodes l → IsLinkAmong nodes (turned l)
turned_among nodes l h = record { from = h.to; to = h.from; apart = λ e. h.apart (sym e); igp_positive = h.igp_positive; igp_small = h.igp_small; te_positive = h.te_positive; te_small = h.te_small; reservable_small = h.reservable_small }

-- links turned round join the same nodes
pub all_turned_among : (nodes : ℕ) (links : List Link) → All (IsLinkAmong nodes) links → All (IsLinkAmong nodes) (map turned links)
all_turned_among nodes links h = All-map (IsLinkAmong nodes) turned links (λ k d lt. turned_among nodes (get_or links k d) (h k d lt))

-- each link that enters a node comes from one of the nodes, with its metrics in their range
pub entering_among : (nodes : ℕ) (links : List Link) (node : ℕ) → All (IsLinkAmong nodes) links → All (IsArcAmong nodes) (entering links node)
entering_among nodes links node h = leaving_among nodes (map turned links) node (all_turned_among nodes links h)

-- what holds of all links that enter a node holds of each link that enters it
pub entering_has : (P : Outgoing → Type 0) (links : List Link) (n : ℕ) (l : Link) → slice_get links n ≡ Some l → All P (entering links l.to) → P (arc_of n (turned l))
entering_has P links n l here all = leaving_has P (map turned links) n (turned l) (slice_get-map turned links n ∙ ap (option_map turned) here) all
