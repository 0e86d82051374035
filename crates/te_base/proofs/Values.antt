-- Links with other values, and what stays of their network.
use Rattle.std.proofs.Common.{◌≡◌, ◌≢◌, ℕ, zero, suc, ◌<◌, ◌==◌, ◌&&◌, ◌||◌, List, [], ◌∷◌, length, map, Some, All, slice_get, slice_set, get_or, option_map, refl, sym, ap, ◌∙◌, arith}
use Rattle.std.proofs.lemmas.List.{length-map}
use Rattle.std.proofs.lemmas.List.Elements.{All-cons, All-head, All-tail, All-weaker}
use Rattle.te_base.specs.declared.network.Node.{Node}
use Rattle.te_base.specs.declared.network.Link.{Link}
use Rattle.te_base.specs.Ted.{Ted, IsLinkAmong, IsSound}
use Rattle.te_base.specs.Owners.{is_local_of, is_remote_of, owns}
use Rattle.te_base.specs.Values.{Values, AreInRange, Ends, with_links_of, values_of, with_values, ends_in, set_values, set_all_values, with_link_values, values_in, with_all_values, IsSameNetwork}

-- ---- one network, but for values

pub same-refl : (a : Ted) → IsSameNetwork a a
same-refl a = record { nodes = refl; owners = refl; ends = refl }

pub same-sym : (a b : Ted) → IsSameNetwork a b → IsSameNetwork b a
same-sym a b h = record { nodes = sym h.nodes; owners = sym h.owners; ends = sym h.ends }

pub same-trans : (a b c : Ted) → IsSameNetwork a b → IsSameNetwork b c → IsSameNetwork a c
same-trans a b c h k = record { nodes = h.nodes ∙ k.nodes; owners = h.owners ∙ k.owners; ends = h.ends ∙ k.ends }

-- ---- one link with other values

set-ends : (links : List Link) (n : ℕ) (v : Values) → map ends_in links ≡ map ends_in (set_values links n v)
set-ends [] n v = refl
set-ends (l ∷ ls) zero v = refl
set-ends (l ∷ ls) (suc n) v = ap (λ es. ends_in l ∷ es) (set-ends ls n v)

pub same-set : (b : Ted) (n : ℕ) (v : Values) → IsSameNetwork b (with_link_values b n v)
same-set b n v = record { nodes = refl; owners = refl; ends = set-ends b.links n v }

pub length-set_values : (links : List Link) (n : ℕ) (v : Values) → length (set_values links n v) ≡ length links
length-set_values [] n v = refl
length-set_values (l ∷ ls) zero v = refl
length-set_values (l ∷ ls) (suc n) v = ap suc (length-set_values ls n v)

-- the same as a write at the number
pub set-slice_set : (links : List Link) (n : ℕ) (v : Values) (d : Link) → n < length links → slice_set links n (with_values (get_or links n d) v) ≡ set_values links n v
set-slice_set [] n v d lt = absurd (omega arith)
set-slice_set (l ∷ ls) zero v d lt = refl
set-slice_set (l ∷ ls) (suc n) v d lt = ap (λ ks. l ∷ ks) (set-slice_set ls n v d (omega arith))

pub set-at : (links : List Link) (n : ℕ) (v : Values) (l : Link) → slice_get links n ≡ Some l → slice_get (set_values links n v) n ≡ Some (with_values l v)
set-at [] n v l is = absurd cc
set-at (k ∷ ks) zero v l is = ap (λ o. option_map (λ x. with_values x v) o) is
set-at (k ∷ ks) (suc n) v l is = set-at ks n v l is

pub set-other : (links : List Link) (n m : ℕ) (v : Values) → n ≢ m → slice_get (set_values links n v) m ≡ slice_get links m
set-other [] n m v apart = refl
set-other (l ∷ ls) zero zero v apart = absurd (apart refl)
set-other (l ∷ ls) zero (suc m) v apart = refl
set-other (l ∷ ls) (suc n) zero v apart = refl
set-other (l ∷ ls) (suc n) (suc m) v apart = set-other ls n m v (λ e. apart (ap suc e))

among-with : (nodes : ℕ) (l : Link) (v : Values) → AreInRange v → IsLinkAmong nodes l → IsLinkAmong nodes (with_values l v)
among-with nodes l v ranges is = record {
  from = is.from;
  to = is.to;
  apart = is.apart;
  igp_positive = ranges.igp_positive;
  igp_small = ranges.igp_small;
  te_positive = ranges.te_positive;
  te_small = ranges.te_small;
  reservable_small = ranges.reservable_small;
}

-- links of one network stay so, each with its numbers in their ranges
pub set-among : (nodes : ℕ) (links : List Link) (n : ℕ) (v : Values) → AreInRange v → All (IsLinkAmong nodes) links → All (IsLinkAmong nodes) (set_values links n v)
set-among nodes [] n v ranges all = all
set-among nodes (l ∷ ls) zero v ranges all =
    All-cons (IsLinkAmong nodes) (with_values l v) ls (among-with nodes l v ranges (All-head (IsLinkAmong nodes) l ls all)) (All-tail (IsLinkAmong nodes) l ls all)
set-among nodes (l ∷ ls) (suc n) v ranges all =
    All-cons (IsLinkAmong nodes) l (set_values ls n v) (All-head (IsLinkAmong nodes) l ls all) (set-among nodes ls n v ranges (All-tail (IsLinkAmong nodes) l ls all))

local-stays : (links : List Link) (n : ℕ) (v : Values) (node address : ℕ) → is_local_of (set_values links n v) node address ≡ is_local_of links node address
local-stays [] n v node address = refl
local-stays (l ∷ ls) zero v node address = refl
local-stays (l ∷ ls) (suc n) v node address = ap (λ b. (l.from == node && l.local == address) || b) (local-stays ls n v node address)

remote-stays : (links : List Link) (n : ℕ) (v : Values) (node address : ℕ) → is_remote_of (set_values links n v) node address ≡ is_remote_of links node address
remote-stays [] n v node address = refl
remote-stays (l ∷ ls) zero v node address = refl
remote-stays (l ∷ ls) (suc n) v node address = ap (λ b. (l.to == node && l.remote == address) || b) (remote-stays ls n v node address)

-- a node owns what it owned
owns-stays : (nodes : List Node) (links : List Link) (n : ℕ) (v : Values) (node address : ℕ) → owns nodes (set_values links n v) node address ≡ owns nodes links node address
owns-stays nodes links n v node address = rw (local-stays links n v node address, remote-stays links n v node address) refl

-- a sound base stays sound
pub set-sound : (b : Ted) (n : ℕ) (v : Values) → AreInRange v → IsSound b → IsSound (with_link_values b n v)
set-sound b n v ranges is = record {
  few_nodes = is.few_nodes;
  few_links = rw (length-set_values b.links n v) is.few_links;
  links = set-among (length b.nodes) b.links n v ranges is.links;
  owners = is.owners;
  owned = λ address node. is.owned address node ∙ sym (owns-stays b.nodes b.links n v node address);
}

-- ---- the values of all links

pub length-values_in : (b : Ted) → length (values_in b) ≡ length b.links
length-values_in b = length-map b.links values_of

ends-length : (ls ks : List Link) → map ends_in ls ≡ map ends_in ks → length ls ≡ length ks
ends-length ls ks same = sym (length-map ls ends_in) ∙ ap length same ∙ length-map ks ends_in

pub same-length : (a b : Ted) → IsSameNetwork a b → length a.links ≡ length b.links
same-length a b h = ends-length a.links b.links h.ends

set_all-ends : (links : List Link) (vs : List Values) → map ends_in links ≡ map ends_in (set_all_values links vs)
set_all-ends [] vs = refl
set_all-ends (l ∷ ls) [] = refl
set_all-ends (l ∷ ls) (v ∷ vs) = ap (λ es. ends_in l ∷ es) (set_all-ends ls vs)

pub same-set_all : (b : Ted) (vs : List Values) → IsSameNetwork b (with_all_values b vs)
same-set_all b vs = record { nodes = refl; owners = refl; ends = set_all-ends b.links vs }

-- a link is its ends and its values
abbrev joined : Ends → Values → Link
joined e v = record { from = e.from; to = e.to; local = e.local; remote = e.remote; igp = v.igp; te = v.te; colour = v.colour; reservable = v.reservable }

with-joined : (l k : Link) → ends_in l ≡ ends_in k → with_values l (values_of k) ≡ k
with-joined l k same = ap (λ e. joined e (values_of k)) same

heads : (l k : Link) (ls ks : List Link) → map ends_in (l ∷ ls) ≡ map ends_in (k ∷ ks) → ends_in l ≡ ends_in k
heads l k ls ks same = cc

tails : (l k : Link) (ls ks : List Link) → map ends_in (l ∷ ls) ≡ map ends_in (k ∷ ks) → map ends_in ls ≡ map ends_in ks
tails l k ls ks same = cc

set_all-values : (ls ks : List Link) → map ends_in ls ≡ map ends_in ks → set_all_values ls (map values_of ks) ≡ ks
set_all-values [] [] same = refl
set_all-values [] (k ∷ ks) same = absurd cc
set_all-values (l ∷ ls) [] same = absurd cc
set_all-values (l ∷ ls) (k ∷ ks) same = ap (λ x. x ∷ set_all_values ls (map values_of ks)) (with-joined l k (heads l k ls ks same)) ∙ ap (λ xs. k ∷ xs) (set_all-values ls ks (tails l k ls ks same))

-- the values of one of two bases of a network make it of the other
pub other_values : (a b : Ted) → IsSameNetwork a b → with_all_values a (values_in b) ≡ b
other_values a b h =
    rw (h.nodes, h.owners, set_all-values a.links b.links h.ends) refl

pub own_values : (b : Ted) → with_all_values b (values_in b) ≡ b
own_values b = other_values b b (same-refl b)

all-values : (ls : List Link) (vs : List Values) → length vs ≡ length ls → map values_of (set_all_values ls vs) ≡ vs
all-values [] [] e = refl
all-values [] (v ∷ vs) e = absurd (omega arith)
all-values (l ∷ ls) [] e = absurd (omega arith)
all-values (l ∷ ls) (v ∷ vs) e = ap (λ xs. v ∷ xs) (all-values ls vs (omega arith))

-- as many values as links are given back
pub values_in_all : (b : Ted) (vs : List Values) → length vs ≡ length b.links → values_in (with_all_values b vs) ≡ vs
values_in_all b vs e = all-values b.links vs e

all-over : (ls : List Link) (n : ℕ) (v : Values) (vs : List Values) → length vs ≡ length ls → set_all_values (set_values ls n v) vs ≡ set_all_values ls vs
all-over [] n v vs e = refl
all-over (l ∷ ls) n v [] e = absurd (omega arith)
all-over (l ∷ ls) zero v (w ∷ ws) e = refl
all-over (l ∷ ls) (suc n) v (w ∷ ws) e = ap (λ xs. with_values l w ∷ xs) (all-over ls n v ws (omega arith))

-- values of all links leave nothing of what a link had
pub all_over_set : (b : Ted) (n : ℕ) (v : Values) (vs : List Values) → length vs ≡ length b.links → with_all_values (with_link_values b n v) vs ≡ with_all_values b vs
all_over_set b n v vs e = ap (λ ls. with_links_of b ls) (all-over b.links n v vs e)

link-ranges : (nodes : ℕ) (l : Link) → IsLinkAmong nodes l → AreInRange (values_of l)
link-ranges nodes l is = record { igp_positive = is.igp_positive; igp_small = is.igp_small; te_positive = is.te_positive; te_small = is.te_small; reservable_small = is.reservable_small }

-- the values of a network's links are in their ranges
pub links-ranges : (nodes : ℕ) (links : List Link) → All (IsLinkAmong nodes) links → All (λ l. AreInRange (values_of l)) links
links-ranges nodes links all = All-weaker (IsLinkAmong nodes) (λ l. AreInRange (values_of l)) (link-ranges nodes) links all
