-- Lists with a gap.
use Rattle.std.proofs.Common.{◌≡◌, ◌≤◌, ◌<◌, ◌+◌, ◌-◌, ℕ, zero, suc, false, List, [], ◌∷◌, ◌++◌, length, get_or, take, drop, take-take, drop-drop, append_assoc, length-append, length-take-le, length-drop, get_or-take, get_or-drop, get_or-append-add, take_all, remove, refl, sym, ap, ap₂, ◌∙◌, arith, inl, inr}
use Rattle.std.specs.List.{AllByRecursion, copy_within}
use Rattle.std.proofs.lemmas.Bool.{cases_Bool}
use Rattle.std.proofs.lemmas.List.{take-append-drop, take-append-le, drop-append-le, drop-take, drop_at, get_or_append_left}
use Rattle.std.proofs.lemmas.List.Edits.{take-paste, drop-paste}
use Rattle.bandwidth_book.specs.Reservation.{AreInOrder, Reservation, around, end_in, is_before}

pub around_none : (gap : ℕ) (xs : List Reservation) → around gap 0 xs ≡ xs
around_none gap xs = let same : gap + 0 ≡ gap = omega arith in ap (λ n. take gap xs ++ drop n xs) same ∙ take-append-drop gap xs

pub length_around : (gap n : ℕ) (xs : List Reservation) → gap + n ≤ length xs → length (around gap n xs) + n ≡ length xs
length_around gap n xs h =
    let all = length-append (take gap xs) (drop (gap + n) xs) in
    let front = length-take-le gap xs (omega (arith, h)) in
    let back = length-drop (gap + n) xs in
    omega (arith, h, all, front, back)

-- ---- the one at a place

pub get_before : (gap n : ℕ) (xs : List Reservation) (i : ℕ) (d : Reservation) → i < gap → gap + n ≤ length xs → get_or (around gap n xs) i d ≡ get_or xs i d
get_before gap n xs i d less h =
    let front = length-take-le gap xs (omega (arith, h)) in
    get_or_append_left (take gap xs) (drop (gap + n) xs) d i (omega (arith, less, front)) ∙ get_or-take gap xs i d less

pub get_behind : (gap n : ℕ) (xs : List Reservation) (i : ℕ) (d : Reservation) → gap ≤ i → gap + n ≤ length xs → get_or (around gap n xs) i d ≡ get_or xs (i + n) d
get_behind gap n xs i d more h =
    let front = length-take-le gap xs (omega (arith, h)) in
    let place : i ≡ length (take gap xs) + (i - gap) = omega (arith, more, front) in
    let there : gap + n + (i - gap) ≡ i + n = omega (arith, more) in
    ap (λ k. get_or (around gap n xs) k d) place ∙ get_or-append-add (take gap xs) (drop (gap + n) xs) (i - gap) d ∙ get_or-drop (gap + n) xs (i - gap) d ∙ ap (λ k. get_or xs k d) there

-- ---- one that goes

-- in a list with a gap after the place: the part before the place, and the part after it
taken_before : (p gap n : ℕ) (xs : List Reservation) → p < gap → gap + n ≤ length xs → remove (around gap n xs) p ≡ take p xs ++ (take (gap - (p + 1)) (drop (p + 1) xs) ++ drop (gap + n) xs)
taken_before p gap n xs less h =
    let back = drop (gap + n) xs in
    let front = length-take-le gap xs (omega (arith, h)) in
    let m = gap - (p + 1) in
    let whole : gap ≡ suc p + m = omega (arith, less) in
    let next : suc p ≡ p + 1 = omega arith in
    let first : take p (take gap xs ++ back) ≡ take p xs = take-append-le p (take gap xs) back (omega (arith, less, front)) ∙ take-take p gap xs (omega (arith, less)) in
    let last : drop (suc p) (take gap xs ++ back) ≡ take m (drop (p + 1) xs) ++ back =
    drop-append-le (suc p) (take gap xs) back (omega (arith, less, front))
    ∙ ap (λ ys. ys ++ back) (ap (λ k. drop (suc p) (take k xs)) whole ∙ drop-take (suc p) m xs ∙ ap (λ k. take m (drop k xs)) next) in
    ap (λ ys. ys ++ drop (suc p) (take gap xs ++ back)) first ∙ ap (λ ys. take p xs ++ ys) last

-- those between it and the gap move to after the gap
pub moved_up : (p gap n : ℕ) (xs : List Reservation) → p < gap → gap + n ≤ length xs → around p (n + 1) (copy_within xs (p + 1) gap (p + 1 + n)) ≡ remove (around gap n xs) p
moved_up p gap n xs less h =
    let m = gap - (p + 1) in
    let to = p + 1 + n in
    let mid = take m (drop (p + 1) xs) in
    let rest = drop (to + m) xs in
    let end : to + m ≡ gap + n = omega (arith, less) in
    let on : p + (n + 1) ≡ to = omega arith in
    let head = length-take-le to xs (omega (arith, less, h)) in
    let first : take p (take to xs ++ mid ++ rest) ≡ take p xs =
    ap (take p) (append_assoc (take to xs) mid rest) ∙ take-append-le p (take to xs) (mid ++ rest) (omega (arith, head)) ∙ take-take p to xs (omega arith) in
    let last : drop (p + (n + 1)) (take to xs ++ mid ++ rest) ≡ mid ++ drop (gap + n) xs =
    ap (λ k. drop k (take to xs ++ mid ++ rest)) on ∙ ap (drop to) (append_assoc (take to xs) mid rest) ∙ drop_at (take to xs) (mid ++ rest) to head ∙ ap (λ k. mid ++ drop k xs) end in
    ap (λ ys. ys ++ drop (p + (n + 1)) (take to xs ++ mid ++ rest)) first ∙ ap (λ ys. take p xs ++ ys) last ∙ sym (taken_before p gap n xs less h)

take_over : (xs ys : List Reservation) (m k : ℕ) → k ≡ length xs + m → take k (xs ++ ys) ≡ xs ++ take m ys
take_over [] ys m k e = let same : k ≡ m = omega (arith, e) in ap (λ n. take n ys) same
take_over (x ∷ xs) ys m zero e = absurd (omega (arith, e))
take_over (x ∷ xs) ys m (suc k) e = ap (λ zs. x ∷ zs) (take_over xs ys m k (omega (arith, e)))

-- those between the gap and it move to before the gap
pub moved_down : (p gap n : ℕ) (xs : List Reservation) → gap ≤ p → p + n < length xs → around p (n + 1) (copy_within xs (gap + n) (p + n) gap) ≡ remove (around gap n xs) p
moved_down p gap n xs more h =
    let m = p + n - (gap + n) in
    let back = drop (gap + n) xs in
    let front = length-take-le gap xs (omega (arith, more, h)) in
    let long = length-drop (gap + n) xs in
    let place : p ≡ gap + m = omega (arith, more) in
    let short : m ≤ length back = omega (arith, long, more, h) in
    let first : take p (copy_within xs (gap + n) (p + n) gap) ≡ take gap xs ++ take m back =
    ap (λ k. take k (copy_within xs (gap + n) (p + n) gap)) place ∙ take-paste xs gap back m (omega (arith, more, h)) short in
    let on : p + (n + 1) ≡ gap + m + (n + 1) = omega (arith, place) in
    let last : drop (p + (n + 1)) (copy_within xs (gap + n) (p + n) gap) ≡ drop (gap + m + (n + 1)) xs =
    ap (λ k. drop k (copy_within xs (gap + n) (p + n) gap)) on ∙ sym (drop-drop (n + 1) (gap + m) _) ∙ ap (drop (n + 1)) (drop-paste xs gap back m (omega (arith, more, h)) short) ∙ drop-drop (n + 1) (gap + m) xs in
    let left : take p (take gap xs ++ back) ≡ take gap xs ++ take m back = take_over (take gap xs) back m p (omega (arith, place, front)) in
    let next : suc p ≡ gap + suc m = omega (arith, place) in
    let to : gap + n + suc m ≡ gap + m + (n + 1) = omega arith in
    let right : drop (suc p) (take gap xs ++ back) ≡ drop (gap + m + (n + 1)) xs =
    ap (λ k. drop k (take gap xs ++ back)) next ∙ sym (drop-drop (suc m) gap _) ∙ ap (drop (suc m)) (drop_at (take gap xs) back gap front) ∙ drop-drop (suc m) (gap + n) xs ∙ ap (λ k. drop k xs) to in
    ap₂ (λ ys zs. ys ++ zs) (first ∙ sym left) (last ∙ sym right)

-- the first that goes leaves a gap
pub first_gone : (p gap : ℕ) (xs : List Reservation) → around p (0 + 1) xs ≡ remove (around gap 0 xs) p
first_gone p gap xs =
    let next : p + (0 + 1) ≡ suc p = omega arith in
    ap (λ k. take p xs ++ drop k xs) next ∙ ap (λ ys. remove ys p) (sym (around_none gap xs))

-- ---- no gap

pub closed_one : (gap : ℕ) (xs : List Reservation) → remove xs gap ≡ around gap 1 xs
closed_one gap xs = let next : suc gap ≡ gap + 1 = omega arith in ap (λ k. take gap xs ++ drop k xs) next

pub closed : (gap n : ℕ) (xs : List Reservation) → gap + n ≤ length xs → take (length xs - n) (copy_within xs (gap + n) (length xs) gap) ≡ around gap n xs
closed gap n xs h =
    let m = length xs - (gap + n) in
    let back = drop (gap + n) xs in
    let long = length-drop (gap + n) xs in
    let all : length xs - n ≡ gap + m = omega (arith, h) in
    ap (λ k. take k (copy_within xs (gap + n) (length xs) gap)) all ∙ take-paste xs gap back m (omega (arith, h)) (omega (arith, long)) ∙ ap (λ ys. take gap xs ++ ys) (take_all m back (omega (arith, long)))

-- ---- parts in order

-- what holds of all of two joined lists holds of all of each
first_all : (P : Reservation → Type 0) (xs ys : List Reservation) → AllByRecursion P (xs ++ ys) → AllByRecursion P xs
first_all P [] ys a = tt
first_all P (x ∷ xs) ys a = (a.0, first_all P xs ys a.1)

pub order_before : (xs ys : List Reservation) → AreInOrder (xs ++ ys) → AreInOrder xs
order_before [] ys o = tt
order_before (x ∷ xs) ys o = (first_all (λ y. is_before y x ≡ false) xs ys o.0, order_before xs ys o.1)

pub order_behind : (xs ys : List Reservation) → AreInOrder (xs ++ ys) → AreInOrder ys
order_behind [] ys o = o
order_behind (x ∷ xs) ys o = order_behind xs ys o.1

-- the end is that of the first part if it is inside it, else that of the second part
pub end_before : (h : Reservation) (xs ys : List Reservation) → end_in h xs < length xs → end_in h (xs ++ ys) ≡ end_in h xs
end_before h [] ys less = absurd (omega (arith, less))
end_before h (x ∷ xs) ys less =
    elim (cases_Bool (is_before h x)) [
      | inl after ↦ rw after refl
      | inr other ↦ (let rest : suc (end_in h xs) < suc (length xs) = rw other at less in rw other (ap suc (end_before h xs ys (omega (arith, rest)))))
    ]

pub end_behind : (h : Reservation) (xs ys : List Reservation) → length xs ≤ end_in h xs → end_in h (xs ++ ys) ≡ length xs + end_in h ys
end_behind h [] ys all = omega arith
end_behind h (x ∷ xs) ys all =
    elim (cases_Bool (is_before h x)) [
      | inl after ↦ absurd (let none : suc (length xs) ≤ 0 = rw after at all in omega (arith, none))
      | inr other ↦ (
          let rest : suc (length xs) ≤ suc (end_in h xs) = rw other at all in
          let ih = end_behind h xs ys (omega (arith, rest)) in
          rw other (omega (arith, ih)))
    ]
