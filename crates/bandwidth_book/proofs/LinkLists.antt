-- What one change of a list of entries does to the entries by link, and what a path's links take one by one.
use Rattle.std.proofs.Common.{◌≡◌, ◌<◌, ◌≤◌, ◌+◌, ◌^◌, ℕ, zero, suc, ◌==◌, Bool, true, false, true≢false, List, [], ◌∷◌, ◌++◌, Option, Some, None, length, get_or, slice_get, slice_set, slice_index, insert, drop, refl, sym, ap, subst, ◌∙◌, arith, inl, inr, if◌then◌else◌, add-one, drop-cons, length-append, length-set}
use Rattle.std.proofs.lemmas.Bool.{cases_Bool, eqb-true}
use Rattle.std.specs.List.{refill}
use Rattle.bandwidth_book.specs.Reservation.{Reservation}
use Rattle.bandwidth_book.specs.declared.link_entries.LinkEntry.{LinkEntry}
use Rattle.bandwidth_book.specs.Holdings.{Holdings}
use Rattle.bandwidth_book.specs.Reservation.{most, moved_all, takes_memory}
use Rattle.bandwidth_book.specs.declared.reservation.BookOp.{BookOp}
use Rattle.bandwidth_book.specs.Entries.{AreRising, IsAt, IsShifted, entry_on, held_in, place_on}
use Rattle.bandwidth_book.specs.Tunnels.{held_by_links, sum_at, sum_in}
use Rattle.bandwidth_book.proofs.Moved.{most_moved, shifted_both, shifted_part, unshifted}
use Rattle.bandwidth_book.proofs.Places.{set_related}
use Rattle.bandwidth_book.proofs.Rising.{entry_insert, entry_set, found_at, none_in_place, number_self, numbers_apart, rising_set}

-- ---- one at a place

-- the element at a place that is there
pub one_at : {A : Type 0} (xs : List A) (i : ℕ) (d : A) → i < length xs → slice_get xs i ≡ Some (get_or xs i d)
one_at [] i d h = absurd (omega (arith, h))
one_at (x ∷ xs) zero d h = refl
one_at (x ∷ xs) (suc i) d h = one_at xs i d (omega (arith, h))

got : (xs : List LinkEntry) (i : ℕ) (d y : LinkEntry) → slice_get xs i ≡ Some y → get_or xs i d ≡ y
got [] i d y h = absurd (cc)
got (x ∷ xs) zero d y h = cc
got (x ∷ xs) (suc i) d y h = got xs i d y h

-- the entry that is got at a link's place is the one there
pub is_got : (m : ℕ) (x : LinkEntry) (xs : List LinkEntry) (i : ℕ) → IsAt m xs i → x ≡ get_or xs i x → slice_get xs i ≡ Some x
is_got m x xs i at e = let same : x ≡ at.0 = e ∙ got xs i x at.0 at.1 in at.1 ∙ ap (λ (y : LinkEntry). Some y) (sym same)

-- and it is of that link
pub link_got : (m : ℕ) (x : LinkEntry) (xs : List LinkEntry) (i : ℕ) → IsAt m xs i → x ≡ get_or xs i x → x.link ≡ m
link_got m x xs i at e = let same : x ≡ at.0 = e ∙ got xs i x at.0 at.1 in ap (λ (y : LinkEntry). y.link) same ∙ at.2

-- so it is the link's entry
pub entry_got : (m : ℕ) (x : LinkEntry) (xs : List LinkEntry) (i : ℕ) → AreRising xs → IsAt m xs i → x ≡ get_or xs i x → entry_on m xs ≡ Some x.entry
entry_got m x xs i r at e = subst (λ (l : ℕ). entry_on l xs ≡ Some x.entry) (link_got m x xs i at e) (found_at x xs i r (is_got m x xs i at e))

nothing : LinkEntry
nothing = record { link = 0; entry = record { held = []; promised = 0 } }

-- if the entry in its place is of another link, the link has no entry
pub none_at_place : (l : ℕ) (d : LinkEntry) (xs : List LinkEntry) (n : ℕ) → n ≡ place_on l xs → AreRising xs → ((get_or xs n d).link ≡ l → ⊥) → entry_on l xs ≡ None
none_at_place l d xs n e r f = none_in_place l d xs r (λ h. numbers_apart (get_or xs (place_on l xs) d).link l (λ s. f (ap (λ (k : ℕ). (get_or xs k d).link) e ∙ s)))

-- nor has it one if its place is at the end
pub none_at_end : (l : ℕ) (xs : List LinkEntry) (n : ℕ) → n ≡ place_on l xs → AreRising xs → length xs ≤ n → entry_on l xs ≡ None
none_at_end l xs n e r h = none_in_place l nothing xs r (λ less. absurd (omega (arith, e, h, less)))

-- ---- one is written or put: what relates the old and the new entry of its link, and each entry to
-- itself, relates the entries of each link

pub set_entry : (R : Bool → Option Holdings → Option Holdings → Type 0) (x : LinkEntry) (e : Holdings) (xs : List LinkEntry) (i : ℕ) → AreRising xs → slice_get xs i ≡ Some x → R true (Some x.entry) (Some e) → ((o : Option Holdings) → R false o o) → (l : ℕ) → R (x.link == l) (entry_on l xs) (entry_on l (slice_set xs i (record { link = x.link; entry = e })))
set_entry R x e xs i r at there others l =
    let written = entry_set l x e xs i r at in
    elim (cases_Bool (x.link == l)) [
      | inl here ↦ (
          let found : entry_on l xs ≡ Some x.entry = subst (λ (k : ℕ). entry_on k xs ≡ Some x.entry) (eqb-true x.link l here) (found_at x xs i r at) in
          rw (written, here, found) there)
      | inr other ↦ rw (written, other) (others (entry_on l xs))
    ]

-- the same if the place is known to be a link's
pub set_entry_of : (R : Bool → Option Holdings → Option Holdings → Type 0) (m : ℕ) (x : LinkEntry) (e : Holdings) (xs : List LinkEntry) (i : ℕ) → AreRising xs → IsAt m xs i → x ≡ get_or xs i x → R true (Some x.entry) (Some e) → ((o : Option Holdings) → R false o o) → (l : ℕ) → R (m == l) (entry_on l xs) (entry_on l (slice_set xs i (record { link = x.link; entry = e })))
set_entry_of R m x e xs i r at got there others l =
    subst (λ (k : ℕ). R (k == l) (entry_on l xs) (entry_on l (slice_set xs i (record { link = x.link; entry = e })))) (link_got m x xs i at got)
    (set_entry R x e xs i r (is_got m x xs i at got) there others l)

pub rising_got : (m : ℕ) (x : LinkEntry) (e : Holdings) (xs : List LinkEntry) (i : ℕ) → AreRising xs → IsAt m xs i → x ≡ get_or xs i x → AreRising (slice_set xs i (record { link = x.link; entry = e }))
rising_got m x e xs i r at got = rising_set x e xs i r (is_got m x xs i at got)

-- ---- the same through a slice of the list that was lent, and is put back

pub entry_lent : (m : ℕ) (x : LinkEntry) (xs lent : List LinkEntry) (i : ℕ) → AreRising xs → IsAt m xs i → lent ≡ xs → x ≡ get_or lent i x → entry_on m xs ≡ Some (get_or lent i x).entry
entry_lent m x xs lent i r at same got =
    subst (λ (y : LinkEntry). entry_on m xs ≡ Some y.entry) got (entry_got m x xs i r at (subst (λ (ys : List LinkEntry). x ≡ get_or ys i x) same got))

refilled : (xs ys : List LinkEntry) → length ys ≡ length xs → refill (length xs) xs ys ≡ ys
refilled [] [] e = refl
refilled [] (y ∷ ys) e = absurd (omega (arith, e))
refilled (x ∷ xs) [] e = absurd (omega (arith, e))
refilled (x ∷ xs) (y ∷ ys) e = ap (λ (t : List LinkEntry). y ∷ t) (refilled xs ys (omega (arith, e)))

pub put_back : (x : LinkEntry) (e : Holdings) (xs lent : List LinkEntry) (i : ℕ) → lent ≡ xs → x ≡ get_or lent i x → refill (length xs) xs (slice_set lent i (record { link = (get_or lent i x).link; entry = e })) ≡ slice_set xs i (record { link = x.link; entry = e })
put_back x e xs lent i same got =
    let written : slice_set lent i (record { link = (get_or lent i x).link; entry = e }) ≡ slice_set xs i (record { link = x.link; entry = e }) =
    ap (λ (ys : List LinkEntry). slice_set ys i (record { link = (get_or lent i x).link; entry = e })) same ∙ ap (λ (y : LinkEntry). slice_set xs i (record { link = y.link; entry = e })) (sym got) in
    ap (λ (ys : List LinkEntry). refill (length xs) xs ys) written ∙ refilled xs (slice_set xs i (record { link = x.link; entry = e })) (length-set xs i (record { link = x.link; entry = e }))

pub set_entry_lent : (R : Bool → Option Holdings → Option Holdings → Type 0) (m : ℕ) (x : LinkEntry) (e : Holdings) (xs lent : List LinkEntry) (i : ℕ) → AreRising xs → IsAt m xs i → lent ≡ xs → x ≡ get_or lent i x → R true (Some (get_or lent i x).entry) (Some e) → ((o : Option Holdings) → R false o o) → (l : ℕ) → R (m == l) (entry_on l xs) (entry_on l (refill (length xs) xs (slice_set lent i (record { link = (get_or lent i x).link; entry = e }))))
set_entry_lent R m x e xs lent i r at same got there others l =
    subst (λ (ys : List LinkEntry). R (m == l) (entry_on l xs) (entry_on l ys)) (sym (put_back x e xs lent i same got))
    (set_entry_of R m x e xs i r at (subst (λ (ys : List LinkEntry). x ≡ get_or ys i x) same got) (subst (λ (y : LinkEntry). R true (Some y.entry) (Some e)) (sym got) there) others l)

pub rising_lent : (m : ℕ) (x : LinkEntry) (e : Holdings) (xs lent : List LinkEntry) (i : ℕ) → AreRising xs → IsAt m xs i → lent ≡ xs → x ≡ get_or lent i x → AreRising (refill (length xs) xs (slice_set lent i (record { link = (get_or lent i x).link; entry = e })))
rising_lent m x e xs lent i r at same got =
    subst AreRising (sym (put_back x e xs lent i same got)) (rising_got m x e xs i r at (subst (λ (ys : List LinkEntry). x ≡ get_or ys i x) same got))

pub insert_entry_of : (R : Bool → Option Holdings → Option Holdings → Type 0) (y : LinkEntry) (xs : List LinkEntry) → entry_on y.link xs ≡ None → R true None (Some y.entry) → ((o : Option Holdings) → R false o o) → (l : ℕ) → R (y.link == l) (entry_on l xs) (entry_on l (insert xs (place_on y.link xs) y))
insert_entry_of R y xs none there others l =
    let put = entry_insert l y xs none in
    elim (cases_Bool (y.link == l)) [
      | inl here ↦ (
          let found : entry_on l xs ≡ None = subst (λ (k : ℕ). entry_on k xs ≡ None) (eqb-true y.link l here) none in
          rw (put, here, found) there)
      | inr other ↦ rw (put, other) (others (entry_on l xs))
    ]

-- ---- a row of sums is written

pub sum_here : (sums : List (List ℕ)) (l p : ℕ) → l < length sums → sum_at sums l p ≡ slice_index (get_or sums l []) p
sum_here sums l p h = ap (λ (o : Option (List ℕ)). sum_in o p) (one_at sums l [] h)

sum_set : (sums : List (List ℕ)) (m : ℕ) (row : List ℕ) (l p : ℕ) → m < length sums → (m == l) ≡ true → sum_at (slice_set sums m row) l p ≡ slice_index row p
sum_set sums m row l p h = set_related (λ b o u. b ≡ true → sum_in u p ≡ slice_index row p) sums m [] row h (λ same. refl) (λ o t. absurd (true≢false (sym t))) l

sum_other : (sums : List (List ℕ)) (m : ℕ) (row : List ℕ) (l p : ℕ) → m < length sums → (m == l) ≡ false → sum_at (slice_set sums m row) l p ≡ sum_at sums l p
sum_other sums m row l p h = set_related (λ b o u. b ≡ false → sum_in u p ≡ sum_in o p) sums m [] row h (λ t. absurd (true≢false t)) (λ o t. refl) l

-- if one link's row moves as the link does, and the other links stay, each row moves as its link does
pub moved_row : (sums : List (List ℕ)) (m : ℕ) (row : List ℕ) (p : ℕ) (f g : ℕ → ℕ) → m < length sums → slice_index row p + f m ≡ slice_index (get_or sums m []) p + g m → ((l : ℕ) → (m == l) ≡ false → g l ≡ f l) → (l : ℕ) → sum_at (slice_set sums m row) l p + f l ≡ sum_at sums l p + g l
moved_row sums m row p f g h moved others l =
    elim (cases_Bool (m == l)) [
      | inl here ↦ (
          let new = sum_set sums m row m p h (number_self m m refl) in
          let old = sum_here sums m p h in
          subst (λ (k : ℕ). sum_at (slice_set sums m row) k p + f k ≡ sum_at sums k p + g k) (eqb-true m l here) (omega (arith, new, old, moved)))
      | inr other ↦ (let same = sum_other sums m row l p h other in let e = others l other in omega (arith, same, e))
    ]

-- ---- a path's links, one by one

pub next_held : (held : Reservation) (l : ℕ) (xs : List ℕ) (i : ℕ) → i < length xs → held_by_links held l (drop i xs) ≡ (if get_or xs i 0 == l then held ∷ [] else []) ++ held_by_links held l (drop (i + 1) xs)
next_held held l xs i h = rw (add-one, drop-cons xs i 0) refl

pub next_length : (held : Reservation) (l : ℕ) (xs : List ℕ) (i : ℕ) → i < length xs → length (held_by_links held l (drop i xs)) ≡ length (if get_or xs i 0 == l then held ∷ [] else []) + length (held_by_links held l (drop (i + 1) xs))
next_length held l xs i h = ap (λ (hs : List Reservation). length hs) (next_held held l xs i h) ∙ length-append (if get_or xs i 0 == l then held ∷ [] else []) (held_by_links held l (drop (i + 1) xs))

-- one link is moved, and then the rest
pub next_moved : (m : BookOp) (held : Reservation) (l : ℕ) (xs : List ℕ) (i : ℕ) (o u v : Option Holdings) → i < length xs
    → IsShifted m (if get_or xs i 0 == l then held ∷ [] else []) o u → IsShifted m (held_by_links held l (drop (i + 1) xs)) u v → IsShifted m (held_by_links held l (drop i xs)) o v
next_moved m held l xs i o u v h one rest = subst (λ (hs : List Reservation). IsShifted m hs o v) (sym (next_held held l xs i h)) (shifted_both m _ _ o u v one rest)

-- if one link's promise is refused, none is made for the rest
pub last_moved : (m : BookOp) (held : Reservation) (l : ℕ) (xs : List ℕ) (i : ℕ) (o u : Option Holdings) → i < length xs → takes_memory m ≡ true
    → IsShifted m (if get_or xs i 0 == l then held ∷ [] else []) o u → IsShifted m (held_by_links held l (drop i xs)) o u
last_moved m held l xs i o u h t one = subst (λ (hs : List Reservation). IsShifted m hs o u) (sym (next_held held l xs i h)) (shifted_part m _ (held_by_links held l (drop (i + 1) xs)) o u t one)

-- another link's entry stays
pub elsewhere : (m : BookOp) (link l : ℕ) (held : Reservation) (o : Option Holdings) → (link == l) ≡ false → IsShifted m (if link == l then held ∷ [] else []) o o
elsewhere m link l held o other = rw other (unshifted m o)

pub kept_elsewhere : (m : BookOp) (link l : ℕ) (held : Reservation) (o u : Option Holdings) → (link == l) ≡ false → IsShifted m (if link == l then held ∷ [] else []) o u → held_in u ≡ held_in o
kept_elsewhere m link l held o u other x = rw other at x.kept

-- adding or dropping one that is below a bound keeps the greatest below the bound
pub small_moved : (m : BookOp) (b : Bool) (h : Reservation) (hs us : List Reservation) (p : ℕ) → us ≡ moved_all m hs (if b then h ∷ [] else []) → h.bandwidth < 2 ^ 48 → most hs p < 2 ^ 48 → most us p < 2 ^ 48
small_moved m true h hs us p e one old = let all = most_moved m h hs p in rw e (omega (arith, one, old, all))
small_moved m false h hs us p e one old = rw e old
