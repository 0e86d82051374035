-- One entry more, between entries of lower links and entries of higher ones.
use Rattle.std.proofs.Common.{◌≡◌, ◌<◌, ◌-◌, ℕ, suc, List, [], ◌∷◌, ◌++◌, reverse, Option, Some, None, length, slice_get, insert, refl, sym, ap, subst, ◌∙◌, arith, length-append}
use Rattle.std.specs.List.{AllByRecursion}
use Rattle.std.proofs.lemmas.List.{reverse-append, reverse-reverse}
use Rattle.bandwidth_book.specs.declared.link_entries.LinkEntry.{LinkEntry}
use Rattle.bandwidth_book.specs.Holdings.{Holdings}
use Rattle.bandwidth_book.specs.Entries.{AreRising, IsSame, entry_on, joined_with, place_on}
use Rattle.bandwidth_book.proofs.LinkLists.{insert_entry_of}
use Rattle.bandwidth_book.proofs.Rising.{all_above, lt_false, lt_true, none_above, numbers_apart, rising_insert}

-- ---- both parts rise

rising_front : (xs ys : List LinkEntry) → AreRising (xs ++ ys) → AreRising xs
rising_front [] ys r = tt
rising_front (x ∷ xs) ys r = (all_front x xs ys r.0, rising_front xs ys r.1)
  where
    all_front : (x : LinkEntry) (xs ys : List LinkEntry) → AllByRecursion (λ (y : LinkEntry). x.link < y.link) (xs ++ ys) → AllByRecursion (λ (y : LinkEntry). x.link < y.link) xs
    all_front x [] ys a = tt
    all_front x (z ∷ xs) ys a = (a.0, all_front x xs ys a.1)

rising_back : (xs ys : List LinkEntry) → AreRising (xs ++ ys) → AreRising ys
rising_back [] ys r = r
rising_back (x ∷ xs) ys r = rising_back xs ys r.1

-- ---- what the ends say of the others

all_below : (l : ℕ) (xs : List LinkEntry) → AreRising xs → ((k : ℕ) (x : LinkEntry) → length xs ≡ suc k → slice_get xs k ≡ Some x → x.link < l) → AllByRecursion (λ (y : LinkEntry). y.link < l) xs
all_below l [] r last = tt
all_below l (x ∷ []) r last = (last 0 x refl refl, tt)
all_below l (x ∷ y ∷ ys) r last =
    let rest = all_below l (y ∷ ys) r.1 (λ k z e at. last (suc k) z (ap suc e) at) in
    let first = r.0.0 in
    let next = rest.0 in
    (omega (arith, first, next), rest)

at_end : (l : ℕ) (xs : List LinkEntry) → ((x : LinkEntry) → slice_get xs (length xs - 1) ≡ Some x → x.link < l) → (k : ℕ) (x : LinkEntry) → length xs ≡ suc k → slice_get xs k ≡ Some x → x.link < l
at_end l xs last k x e at =
    let end : k ≡ length xs - 1 = omega (arith, e) in
    last x (subst (λ (n : ℕ). slice_get xs n ≡ Some x) end at)

end_of_append : (xs : List LinkEntry) (y : LinkEntry) → slice_get (xs ++ y ∷ []) (length xs) ≡ Some y
end_of_append [] y = refl
end_of_append (x ∷ xs) y = end_of_append xs y

first_is_end : (xs ys : List LinkEntry) (y : LinkEntry) → reverse xs ≡ y ∷ ys → slice_get xs (length xs - 1) ≡ Some y
first_is_end xs ys y e =
    let back : xs ≡ reverse ys ++ y ∷ [] = sym (reverse-reverse xs) ∙ ap (λ (zs : List LinkEntry). reverse zs) e ∙ reverse-append (y ∷ []) ys in
    let long = length-append (reverse ys) (y ∷ []) in
    let end : length (reverse ys ++ y ∷ []) - 1 ≡ length (reverse ys) = omega (arith, long) in
    subst (λ (zs : List LinkEntry). slice_get zs (length zs - 1) ≡ Some y) (sym back)
    (ap (λ (n : ℕ). slice_get (reverse ys ++ y ∷ []) n) end ∙ end_of_append (reverse ys) y)

above_by_first : (l : ℕ) (ys : List LinkEntry) → AreRising ys → ((y : LinkEntry) (zs : List LinkEntry) → ys ≡ y ∷ zs → l < y.link) → AllByRecursion (λ (y : LinkEntry). l < y.link) ys
above_by_first l [] r first = tt
above_by_first l (y ∷ ys) r first = (let less = first y ys refl in (less, all_above l y.link ys less r.0))

-- ---- the place between

place_between : (l : ℕ) (xs ys : List LinkEntry) → AllByRecursion (λ (y : LinkEntry). y.link < l) xs → AllByRecursion (λ (y : LinkEntry). l < y.link) ys → place_on l (xs ++ ys) ≡ length xs
place_between l [] [] a b = refl
place_between l [] (y ∷ ys) a b = (let above = b.0 in let no = lt_false y.link l (omega (arith, above)) in rw no refl)
place_between l (x ∷ xs) ys a b = (let yes = lt_true x.link l a.0 in rw yes (ap suc (place_between l xs ys a.1 b)))

none_between : (l : ℕ) (xs ys : List LinkEntry) → AllByRecursion (λ (y : LinkEntry). y.link < l) xs → AllByRecursion (λ (y : LinkEntry). l < y.link) ys → entry_on l (xs ++ ys) ≡ None
none_between l [] ys a b = none_above l ys b
none_between l (x ∷ xs) ys a b =
    let below = a.0 in
    let apart = numbers_apart x.link l (λ same. absurd (omega (arith, below, same))) in
    rw apart (none_between l xs ys a.1 b)

-- the last of the first part is below, and the last of the second part, which is reversed, is above
pub record IsBetween (l : ℕ) (xs ys : List LinkEntry) : Type 0 where
  pub place : place_on l (joined_with xs ys) ≡ length xs
  pub none : entry_on l (joined_with xs ys) ≡ None

pub between : (l : ℕ) (xs ys : List LinkEntry) → AreRising (joined_with xs ys) → ((x : LinkEntry) → slice_get xs (length xs - 1) ≡ Some x → x.link < l) → ((y : LinkEntry) → slice_get ys (length ys - 1) ≡ Some y → l < y.link)
    → IsBetween l xs ys
between l xs ys r last first =
    let below = all_below l xs (rising_front xs (reverse ys) r) (at_end l xs last) in
    let above = above_by_first l (reverse ys) (rising_back xs (reverse ys) r) (λ y zs e. first y (first_is_end ys zs y e)) in
    record { place = place_between l xs (reverse ys) below above; none = none_between l xs (reverse ys) below above }

-- ---- one is put there

insert_between : (xs ys : List LinkEntry) (y : LinkEntry) → insert (xs ++ ys) (length xs) y ≡ (xs ++ y ∷ []) ++ ys
insert_between [] [] y = refl
insert_between [] (z ∷ ys) y = refl
insert_between (x ∷ xs) ys y = ap (λ (zs : List LinkEntry). x ∷ zs) (insert_between xs ys y)

put_between : (xs ys : List LinkEntry) (y : LinkEntry) → place_on y.link (joined_with xs ys) ≡ length xs → insert (joined_with xs ys) (place_on y.link (joined_with xs ys)) y ≡ joined_with (xs ++ y ∷ []) ys
put_between xs ys y place = ap (λ (n : ℕ). insert (joined_with xs ys) n y) place ∙ insert_between xs (reverse ys) y

pub rising_between : (xs ys : List LinkEntry) (y : LinkEntry) → AreRising (joined_with xs ys) → place_on y.link (joined_with xs ys) ≡ length xs → entry_on y.link (joined_with xs ys) ≡ None → AreRising (joined_with (xs ++ y ∷ []) ys)
rising_between xs ys y r place none = subst AreRising (put_between xs ys y place) (rising_insert y (joined_with xs ys) r none)

pub same_self : (o : Option Holdings) → IsSame o o
same_self o = record { kept = refl; promised = refl }

pub same_both : (o u v : Option Holdings) → IsSame o u → IsSame u v → IsSame o v
same_both o u v a b = record { kept = b.kept ∙ a.kept; promised = b.promised ∙ a.promised }

-- one that is idle changes nothing
pub same_between : (xs ys : List LinkEntry) (y : LinkEntry) → place_on y.link (joined_with xs ys) ≡ length xs → entry_on y.link (joined_with xs ys) ≡ None → y.entry.held ≡ [] → y.entry.promised ≡ 0
    → (l : ℕ) → IsSame (entry_on l (joined_with xs ys)) (entry_on l (joined_with (xs ++ y ∷ []) ys))
same_between xs ys y place none nothing no_room l =
    subst (λ (zs : List LinkEntry). IsSame (entry_on l (joined_with xs ys)) (entry_on l zs)) (put_between xs ys y place)
    (insert_entry_of (λ b o u. IsSame o u) y (joined_with xs ys) none (record { kept = nothing; promised = no_room }) same_self l)
