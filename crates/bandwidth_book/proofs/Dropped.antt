-- The order in which reservations and paths go makes no difference.
use Rattle.std.proofs.Common.{◌≡◌, ◌<◌, ◌+◌, ℕ, zero, suc, List, [], ◌∷◌, ◌++◌, length, slice_get, get_or, take, drop, drop-cons, add-one, append_assoc, sum_by, option_to_list, IsPermutation, refl, sym, ap, ◌∙◌, arith, inl, inr}
use Rattle.std.proofs.lemmas.Bool.{cases_Bool}
use Rattle.std.proofs.lemmas.List.{append-nil}
use Rattle.std.proofs.lemmas.List.Sums.{sum_by-cons}
use Rattle.std.proofs.lemmas.List.Sorted.{sum_by-IsPermutation}
use Rattle.lsp_base.specs.declared.path.Path.{Path}
use Rattle.lsp_base.specs.declared.tunnel.Tunnel.{Tunnel}
use Rattle.bandwidth_book.specs.Reservation.{Reservation, same_held, times, without_all, without_one}
use Rattle.bandwidth_book.specs.Paths.{held_by, picked}
use Rattle.bandwidth_book.proofs.Counts.{same_self, times_append, times_without_one}
use Rattle.bandwidth_book.proofs.Order.{same_is}
use Rattle.bandwidth_book.proofs.Stands.{held_by_append}

-- ---- reservations

without_both : (x y : Reservation) (hs : List Reservation) → without_one x (without_one y hs) ≡ without_one y (without_one x hs)
without_both x y [] = refl
without_both x y (z ∷ hs) =
    elim (cases_Bool (same_held x z)) [
      | inl first ↦ elim (cases_Bool (same_held y z)) [
        | inl second ↦ (let same : x ≡ y = same_is x z first ∙ sym (same_is y z second) in rw (second, first) (ap (λ (r : Reservation). without_one r hs) same))
        | inr apart ↦ rw (apart, first) refl
      ]
      | inr other ↦ elim (cases_Bool (same_held y z)) [
        | inl second ↦ rw (second, other) (rw second refl)
        | inr apart ↦ rw (apart, other) (rw apart (ap (λ (t : List Reservation). z ∷ t) (without_both x y hs)))
      ]
    ]

-- one of them may go first
goes_first : (x : Reservation) (hs ys : List Reservation) → 0 < times x ys → without_all hs ys ≡ without_all (without_one x hs) (without_one x ys)
goes_first x hs [] n = absurd (omega (arith, n))
goes_first x hs (y ∷ ys) n =
    elim (cases_Bool (same_held x y)) [
      | inl same ↦ rw same (ap (λ (r : Reservation). without_all (without_one r hs) ys) (sym (same_is x y same)))
      | inr other ↦ (
          let rest : 0 < 0 + times x ys = rw other at n in
          rw other (goes_first x (without_one y hs) ys (omega (arith, rest)) ∙ ap (λ (r : List Reservation). without_all r (without_one x ys)) (without_both x y hs)))
    ]

pub without_same : (hs xs ys : List Reservation) → ((h : Reservation) → times h xs ≡ times h ys) → without_all hs xs ≡ without_all hs ys
without_same hs [] [] same = refl
without_same hs [] (y ∷ ys) same = absurd (let one = same y in let self = same_self y in let none : 0 ≡ 1 + times y ys = rw self at one in omega (arith, none))
without_same hs (x ∷ xs) ys same =
    let one = same x in
    let self = same_self x in
    let some : 1 + times x xs ≡ times x ys = rw self at one in
    without_same (without_one x hs) xs (without_one x ys) (λ h. let all = same h in let less = times_without_one h x ys in omega (arith, all, less))
    ∙ sym (goes_first x hs ys (omega (arith, some)))

pub without_append : (hs xs ys : List Reservation) → without_all hs (xs ++ ys) ≡ without_all (without_all hs xs) ys
without_append hs [] ys = refl
without_append hs (x ∷ xs) ys = without_append (without_one x hs) xs ys

-- ---- paths

times_picked : (l : ℕ) (t : Tunnel) (h : Reservation) (is : List ℕ) (xs : List Path) → times h (held_by l t (picked is xs)) ≡ sum_by (λ i. times h (held_by l t (option_to_list (slice_get xs i)))) is
times_picked l t h [] xs = refl
times_picked l t h (i ∷ is) xs =
    let one = option_to_list (slice_get xs i) in
    ap (times h) (held_by_append l t one (picked is xs)) ∙ times_append h (held_by l t one) (held_by l t (picked is xs))
    ∙ ap (λ n. times h (held_by l t one) + n) (times_picked l t h is xs) ∙ sym (sum_by-cons (λ k. times h (held_by l t (option_to_list (slice_get xs k)))) i is)

-- places in another order have the same paths
pub picked_permuted : (l : ℕ) (t : Tunnel) (h : Reservation) (is js : List ℕ) (xs : List Path) → IsPermutation is js → picked is xs ≡ xs → times h (held_by l t (picked js xs)) ≡ times h (held_by l t xs)
picked_permuted l t h is js xs same all =
    times_picked l t h js xs ∙ sum_by-IsPermutation (λ i. times h (held_by l t (option_to_list (slice_get xs i)))) is js same
    ∙ sym (times_picked l t h is xs) ∙ ap (λ (ps : List Path). times h (held_by l t ps)) all

pub picked_append : (is : List ℕ) (i : ℕ) (xs : List Path) → picked (is ++ i ∷ []) xs ≡ picked is xs ++ option_to_list (slice_get xs i)
picked_append [] i xs = append-nil (option_to_list (slice_get xs i))
picked_append (k ∷ is) i xs =
    let first = option_to_list (slice_get xs k) in
    ap (λ (ps : List Path). first ++ ps) (picked_append is i xs) ∙ sym (append_assoc first (picked is xs) (option_to_list (slice_get xs i)))

pub take_one_more : (i : ℕ) (xs : List Path) → i < length xs → take (suc i) xs ≡ take i xs ++ option_to_list (slice_get xs i)
take_one_more i [] h = absurd (omega (arith, h))
take_one_more zero (x ∷ xs) h = refl
take_one_more (suc i) (x ∷ xs) h = ap (λ (ps : List Path). x ∷ ps) (take_one_more i xs (omega (arith, h)))

pub picked_more : (is : List ℕ) (i : ℕ) (xs : List Path) → picked is xs ≡ take i xs → i < length xs → picked (is ++ i ∷ []) xs ≡ take (i + 1) xs
picked_more is i xs e h =
    picked_append is i xs ∙ ap (λ (ps : List Path). ps ++ option_to_list (slice_get xs i)) e ∙ sym (take_one_more i xs h) ∙ ap (λ (n : ℕ). take n xs) (sym (add-one i))

next_picked : (is : List ℕ) (i : ℕ) (xs : List Path) → i < length is → picked (drop i is) xs ≡ option_to_list (slice_get xs (get_or is i 0)) ++ picked (drop (i + 1) is) xs
next_picked is i xs h = rw (add-one, drop-cons is i 0) refl

-- one goes, and then the rest
pub next_dropped : (l : ℕ) (t : Tunnel) (is : List ℕ) (i : ℕ) (xs one : List Path) (old mid : List Reservation) → i < length is → one ≡ option_to_list (slice_get xs (get_or is i 0)) → mid ≡ without_all old (held_by l t one)
    → without_all mid (held_by l t (picked (drop (i + 1) is) xs)) ≡ without_all old (held_by l t (picked (drop i is) xs))
next_dropped l t is i xs one old mid h is_one gone =
    let rest = picked (drop (i + 1) is) xs in
    let all : picked (drop i is) xs ≡ one ++ rest = next_picked is i xs h ∙ ap (λ (ps : List Path). ps ++ rest) (sym is_one) in
    ap (λ (hs : List Reservation). without_all hs (held_by l t rest)) gone ∙ sym (without_append old (held_by l t one) (held_by l t rest))
    ∙ ap (λ (hs : List Reservation). without_all old hs) (sym (held_by_append l t one rest)) ∙ ap (λ (ps : List Path). without_all old (held_by l t ps)) (sym all)
