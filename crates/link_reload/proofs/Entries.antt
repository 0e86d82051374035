-- Links reloaded one entry after the other.
use Rattle.std.proofs.Common.{◌≡◌, ◌∙◌, ◌<◌, ◌+◌, ◌&&◌, ℕ, Bool, true, false, List, [], ◌∷◌, add-one, drop, drop-cons, get_or, length, sym, ap, refl, subst, arith}
use Rattle.std.proofs.lemmas.Bool.Decides.{nat_tests}
use Rattle.std.specs.Prelude.{nat_lt}
use Rattle.std.specs.List.{list_all}
use Rattle.te_base.specs.Ted.{Ted}
use Rattle.te_base.specs.Values.{IsSameNetwork, with_link_values}
use Rattle.te_base.proofs.Values.{same-refl, same-set, same-trans}
use Rattle.link_reload.specs.Reloads.{with_entries}
use Rattle.link_reload.specs.declared.entry.LinkReload.{LinkReload}

pub with_entries-same : (te : Ted) (entries : List LinkReload) → IsSameNetwork te (with_entries te entries)
with_entries-same te [] = same-refl te
with_entries-same te (e ∷ es) = same-trans te (with_link_values te e.link e.values) (with_entries te (e ∷ es)) (same-set te e.link e.values) (with_entries-same (with_link_values te e.link e.values) es)

next_entry : (xs : List LinkReload) (i : ℕ) (x : LinkReload) → i < length xs → x ≡ get_or xs i x → drop i xs ≡ x ∷ drop (i + 1) xs
next_entry xs i x less is =
    let cons = drop-cons xs i x less in
    let next = add-one i in
    cc

pub network_set : (old new first : Ted) (xs : List LinkReload) (i : ℕ) (x : LinkReload) → i < length xs → x ≡ get_or xs i x → new ≡ with_link_values old x.link x.values
    → with_entries old (drop i xs) ≡ with_entries first xs → with_entries new (drop (i + 1) xs) ≡ with_entries first xs
network_set old new first xs i x less is new_is before =
    ap (λ (te : Ted). with_entries te (drop (i + 1) xs)) new_is ∙ ap (with_entries old) (sym (next_entry xs i x less is)) ∙ before

both : (a b : Bool) → (a && b) ≡ true → (a ≡ true) × (b ≡ true)
both true b is = (refl, is)
both false b is = absurd (cc (is))

is_less : (n count : ℕ) → nat_lt n count ≡ true → n < count
is_less n count is = grind (arith, nat_tests)

-- each entry names one of `count` links
abbrev pub AreLinks : ℕ → List LinkReload → Type 0
AreLinks count xs = list_all (λ e. nat_lt e.link count) xs ≡ true

pub this_and_next : (count : ℕ) (xs : List LinkReload) (i : ℕ) (x : LinkReload) → i < length xs → x ≡ get_or xs i x → AreLinks count (drop i xs) → (x.link < count) × AreLinks count (drop (i + 1) xs)
this_and_next count xs i x less is all =
    let two = both (nat_lt x.link count) (list_all (λ e. nat_lt e.link count) (drop (i + 1) xs)) (subst (AreLinks count) (next_entry xs i x less is) all) in
    (is_less x.link count two.0, two.1)
