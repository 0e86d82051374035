-- A network whose links get other values.
use Rattle.std.proofs.Common.{◌≡◌, ◌+◌, ◌==◌, ℕ, suc, Bool, true, false, List, [], ◌∷◌, Option, Some, None, length, map, option_map, slice_get, refl, sym, ap, ◌∙◌, arith, add-zero, zero-add, subst, if◌then◌else◌}
use Rattle.std.proofs.lemmas.List.{length-map}
use Rattle.std.proofs.lemmas.Option.{slice_get-map}
use Rattle.te_base.specs.declared.network.Link.{Link}
use Rattle.te_base.specs.Values.{Values, AreInRange, Ends, ends_in, set_values}
use Rattle.te_base.proofs.Values.{same-set, set-among}
use Rattle.te_snapshot.specs.declared.outgoing.Outgoing.{Outgoing}
use Rattle.te_snapshot.specs.Leaving.{arc_of, arc_now, revalued, entering, leaving, leaving_from, turned}
use Rattle.te_snapshot.specs.Network.{Network, IsSoundNetwork, AreLinksOf, with_links}

-- ---- its links

pub own_links : (n : Network) → IsSoundNetwork n → AreLinksOf n n.links
own_links n is = record { ends = refl; among = is.links }

pub set_links : (n : Network) (links : List Link) (k : ℕ) (v : Values) → AreInRange v → AreLinksOf n links → AreLinksOf n (set_values links k v)
set_links n links k v ranges are = record { ends = sym (same-set (record { nodes = []; links = links; owners = [] }) k v).ends ∙ are.ends; among = set-among n.nodes links k v ranges are.among }

pub links_length : (n : Network) (links : List Link) → AreLinksOf n links → length links ≡ length n.links
links_length n links are = sym (length-map links ends_in) ∙ ap length are.ends ∙ length-map n.links ends_in

pub links_sound : (n : Network) (links : List Link) → IsSoundNetwork n → AreLinksOf n links → IsSoundNetwork (with_links n links)
links_sound n links is are = record { few_nodes = is.few_nodes; few_links = rw (links_length n links are) is.few_links; links = are.among; owners = is.owners }

pub links_again : (n : Network) (links : List Link) → AreLinksOf n links → AreLinksOf (with_links n links) links
links_again n links are = record { ends = refl; among = are.among }

-- ---- the links of a node

head-ends : (l k : Link) (ls ks : List Link) → map ends_in (l ∷ ls) ≡ map ends_in (k ∷ ks) → ends_in l ≡ ends_in k
head-ends l k ls ks same = cc

tail-ends : (l k : Link) (ls ks : List Link) → map ends_in (l ∷ ls) ≡ map ends_in (k ∷ ks) → map ends_in ls ≡ map ends_in ks
tail-ends l k ls ks same = cc

kept-now : (f : Outgoing → Outgoing) (b : Bool) (a a' : Outgoing) (rest rest' : List Outgoing) → f a ≡ a' → map f rest ≡ rest' → map f (if b then a ∷ rest else rest) ≡ (if b then a' ∷ rest' else rest')
kept-now f true a a' rest rest' one more = ap (λ x. x ∷ map f rest) one ∙ ap (λ xs. a' ∷ xs) more
kept-now f false a a' rest rest' one more = more

from-now : (all : List Link) (k : ℕ) (old new : List Link) (v : ℕ) → map ends_in new ≡ map ends_in old → ((j : ℕ) → slice_get all (k + j) ≡ slice_get new j) → map (arc_now all) (leaving_from k old v) ≡ leaving_from k new v
from-now all k [] [] v same here = refl
from-now all k [] (n ∷ ns) v same here = absurd cc
from-now all k (o ∷ os) [] v same here = absurd cc
from-now all k (o ∷ os) (n ∷ ns) v same here =
    let ends : ends_in n ≡ ends_in o = head-ends n o ns os same in
    let from : n.from ≡ o.from = ap (λ (e : Ends). e.from) ends in
    let to : o.to ≡ n.to = sym (ap (λ (e : Ends). e.to) ends) in
    let found : slice_get all k ≡ Some n = subst (λ i. slice_get all i ≡ Some n) (add-zero k) (here 0) in
    let one : arc_now all (arc_of k o) ≡ arc_of k n =
    ap (λ x. revalued x (arc_of k o)) found ∙ ap (λ t. record { number = k; to = t; igp = n.igp; te = n.te; colour = n.colour }) to in
    let next : (j : ℕ) → slice_get all (k + 1 + j) ≡ slice_get ns j = (λ j. let e : k + 1 + j ≡ k + suc j = omega arith in ap (slice_get all) e ∙ here (suc j)) in
    let more : map (arc_now all) (leaving_from (k + 1) os v) ≡ leaving_from (k + 1) ns v = from-now all (k + 1) os ns v (tail-ends n o ns os same) next in
    rw from (kept-now (arc_now all) (o.from == v) (arc_of k o) (arc_of k n) (leaving_from (k + 1) os v) (leaving_from (k + 1) ns v) one more)

-- those that leave it, with their present values
pub leaving-now : (old new : List Link) (v : ℕ) → map ends_in new ≡ map ends_in old → map (arc_now new) (leaving old v) ≡ leaving new v
leaving-now old new v same = from-now new 0 old new v same (λ j. ap (slice_get new) (zero-add j))

abbrev swapped : Ends → Ends
swapped e = record { from = e.to; to = e.from; local = e.remote; remote = e.local }

turned-ends : (ls ks : List Link) → map ends_in ls ≡ map ends_in ks → map ends_in (map turned ls) ≡ map ends_in (map turned ks)
turned-ends [] [] same = refl
turned-ends [] (k ∷ ks) same = absurd cc
turned-ends (l ∷ ls) [] same = absurd cc
turned-ends (l ∷ ls) (k ∷ ks) same =
    ap (λ e. e ∷ map ends_in (map turned ls)) (ap swapped (head-ends l k ls ks same))
    ∙ ap (λ es. ends_in (turned k) ∷ es) (turned-ends ls ks (tail-ends l k ls ks same))

revalued-turned : (o : Option Link) (a : Outgoing) → revalued (option_map turned o) a ≡ revalued o a
revalued-turned None a = refl
revalued-turned (Some l) a = refl

arc_now-turned : (links : List Link) (a : Outgoing) → arc_now (map turned links) a ≡ arc_now links a
arc_now-turned links a = ap (λ o. revalued o a) (slice_get-map turned links a.number) ∙ revalued-turned (slice_get links a.number) a

all_now-turned : (links : List Link) (arcs : List Outgoing) → map (arc_now (map turned links)) arcs ≡ map (arc_now links) arcs
all_now-turned links [] = refl
all_now-turned links (a ∷ rest) = ap (λ x. x ∷ map (arc_now (map turned links)) rest) (arc_now-turned links a) ∙ ap (λ xs. arc_now links a ∷ xs) (all_now-turned links rest)

-- those that enter it, with their present values
pub entering-now : (old new : List Link) (v : ℕ) → map ends_in new ≡ map ends_in old → map (arc_now new) (entering old v) ≡ entering new v
entering-now old new v same =
    sym (all_now-turned new (leaving (map turned old) v)) ∙ leaving-now (map turned old) (map turned new) v (turned-ends new old same)
