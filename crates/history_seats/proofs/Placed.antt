-- A seat's places, and what they say of its receipts.
use Rattle.std.proofs.Common.{◌≡◌, ◌∙◌, ap, sym, refl, ℕ, zero, suc, ◌+◌, ◌<◌, ◌≤◌, ◌==◌, List, [], ◌∷◌, ◌++◌, length, All, set, get_or, arith}
use Rattle.std.specs.Prelude.{map, take, drop, sum_by, if◌then◌else◌}
use mathlib.Core.Bool.{cond}
use Rattle.std.proofs.lemmas.Bool.Decides.{nat_tests}
use Rattle.std.proofs.lemmas.List.{length-set}
use Rattle.std.proofs.lemmas.List.Sums.{sum_by-cons, sum_by-append, sum_by-set}
use Rattle.std.proofs.lemmas.List.Elements.{All-cons, All-head, All-tail}
use Rattle.place_tokens.specs.Drawing.{RiseFrom, once_below}
use Rattle.place_tokens.specs.Drawing as drawing
use Rattle.history_core.specs.Briefs.{is_grant}
use Rattle.history_core.specs.Histories.{Content, steps_of}
use Rattle.history_seats.specs.declared.receipt.Receipt.{Receipt}
use Rattle.history_seats.specs.Receipts.{SeatContent, IsPlaced, Placed, past_last, granted_in, floor_after}
use Rattle.history_seats.specs.Audits.{times, times_in, RisesFrom, SeatAgrees, AllAgree, AllDistinct}

-- ---- places that rise

past_least : (floor : ℕ) (xs : List ℕ) → RiseFrom floor xs → floor ≤ past_last floor xs
past_least floor [] h = omega arith
past_least floor (x ∷ xs) h = omega (arith, h.0, past_least (x + 1) xs h.1)

other_none : (x p : ℕ) → x < p → cond {A = ℕ} (x == p) 1 0 ≡ 0
other_none x p lt = grind (arith, nat_tests)

-- the place past the last isn't one of them, nor is any place above it
none_past : (p floor : ℕ) (xs : List ℕ) → RiseFrom floor xs → past_last floor xs ≤ p → drawing.times p xs ≡ 0
none_past p floor [] h le = refl
none_past p floor (x ∷ xs) h le =
    omega (arith, none_past p (x + 1) xs h.1 le, other_none x p (omega (arith, le, past_least (x + 1) xs h.1)), sum_by-cons (λ (y : ℕ). cond (y == p) 1 0) x xs)

rise-take : (k floor : ℕ) (xs : List ℕ) → RiseFrom floor xs → RiseFrom floor (take k xs)
rise-take zero floor xs h = tt
rise-take (suc k) floor [] h = tt
rise-take (suc k) floor (x ∷ xs) h = (h.0, rise-take k (x + 1) xs h.1)

rise-drop : (k floor : ℕ) (xs : List ℕ) → RiseFrom floor xs → RiseFrom (past_last floor (take k xs)) (drop k xs)
rise-drop zero floor xs h = h
rise-drop (suc k) floor [] h = tt
rise-drop (suc k) floor (x ∷ xs) h = rise-drop k (x + 1) xs h.1

times-split : (p k : ℕ) (xs : List ℕ) → drawing.times p (take k xs) + drawing.times p (drop k xs) ≡ drawing.times p xs
times-split p zero xs = omega arith
times-split p (suc k) [] = refl
times-split p (suc k) (x ∷ xs) =
    let f : ℕ → ℕ = λ y. cond (y == p) 1 0 in
    omega (arith, times-split p k xs, sum_by-cons f x xs, sum_by-cons f x (take k xs))

-- ---- one seat

times-map : (p : ℕ) (rs : List Receipt) → drawing.times p (map (λ r. r.place) rs) ≡ times p rs
times-map p [] = refl
times-map p (r ∷ rs) =
    omega (arith, times-map p rs, sum_by-cons (λ (q : Receipt). cond (q.place == p) 1 0) r rs, sum_by-cons (λ (y : ℕ). cond (y == p) 1 0) r.place (map (λ (r : Receipt). r.place) rs))

rises-map : (floor : ℕ) (rs : List Receipt) → RiseFrom floor (map (λ r. r.place) rs) → RisesFrom floor rs
rises-map floor [] h = tt
rises-map floor (r ∷ rs) h = (h.0, rises-map (r.place + 1) rs h.1)

seat_rises : (s : SeatContent) → IsPlaced s → RisesFrom s.floor s.receipts
seat_rises s h = rises-map s.floor s.receipts (rw (h.1.kept, h.1.floor_is) (rise-drop s.folded 0 s.places h.0))

-- a kept place occurs in a seat's receipts as often as in its places
seat_times : (d : Content) (s : SeatContent) (p : ℕ) → IsPlaced s → SeatAgrees d s → d.rolled ≤ p → times p s.receipts ≡ drawing.times p s.places
seat_times d s p h agree le =
    let none = none_past p 0 (take s.folded s.places) (rise-take s.folded 0 s.places h.0) (omega (arith, sym h.1.floor_is, agree.0, le)) in
    omega (arith, none, times-split p s.folded s.places, sym (times-map p s.receipts) ∙ ap (drawing.times p) h.1.kept)

-- ---- all seats

seats_times : (d : Content) (seats : List SeatContent) (p : ℕ) → All IsPlaced seats → AllAgree d seats → d.rolled ≤ p → times_in p seats ≡ sum_by (λ s. drawing.times p s.places) seats
seats_times d [] p h agree le = refl
seats_times d (s ∷ ss) p h agree le =
    let P : SeatContent → Type 0 = SeatAgrees d in
    let first = seat_times d s p (All-head IsPlaced s ss h) (All-head P s ss agree) le in
    let rest = seats_times d ss p (All-tail IsPlaced s ss h) (All-tail P s ss agree) le in
    omega (arith, first, rest, sum_by-cons (λ (v : SeatContent). times p v.receipts) s ss, sum_by-cons (λ (v : SeatContent). drawing.times p v.places) s ss)

pub seats_rise : (seats : List SeatContent) → All IsPlaced seats → All (λ s. RisesFrom s.floor s.receipts) seats
seats_rise [] h = λ k d lt. absurd (omega (arith, lt))
seats_rise (s ∷ ss) h = All-cons (λ (v : SeatContent). RisesFrom v.floor v.receipts) s ss (seat_rises s (All-head IsPlaced s ss h)) (seats_rise ss (All-tail IsPlaced s ss h))

-- each kept place occurs in the receipts once
pub kept_once : (d : Content) (seats : List SeatContent) (p : ℕ) → All IsPlaced seats → AllAgree d seats → AllDistinct (steps_of d) seats → d.rolled ≤ p → times_in p seats ≡ once_below p (steps_of d)
kept_once d seats p h agree distinct le = seats_times d seats p h agree le ∙ distinct p

-- ---- a step and a fold

past-append : (floor : ℕ) (xs ys : List ℕ) → past_last floor (xs ++ ys) ≡ past_last (past_last floor xs) ys
past-append floor [] ys = refl
past-append floor (x ∷ xs) ys = past-append (x + 1) xs ys

floor-map : (floor : ℕ) (rs : List Receipt) → floor_after floor rs ≡ past_last floor (map (λ r. r.place) rs)
floor-map floor [] = refl
floor-map floor (r ∷ rs) = floor-map (r.place + 1) rs

past-split : (k floor : ℕ) (xs : List ℕ) → past_last (past_last floor (take k xs)) (drop k xs) ≡ past_last floor xs
past-split zero floor xs = refl
past-split (suc k) floor [] = refl
past-split (suc k) floor (x ∷ xs) = past-split k (x + 1) xs

take-whole : (xs : List ℕ) → take (length xs) xs ≡ xs
take-whole [] = refl
take-whole (x ∷ xs) = ap (λ (zs : List ℕ). x ∷ zs) (take-whole xs)

take-more : (k : ℕ) (xs ys : List ℕ) → k ≤ length xs → take k (xs ++ ys) ≡ take k xs
take-more zero xs ys le = refl
take-more (suc k) [] ys le = absurd (omega (arith, le))
take-more (suc k) (x ∷ xs) ys le = ap (λ (zs : List ℕ). x ∷ zs) (take-more k xs ys (omega (arith, le)))

drop-whole : (xs : List ℕ) → drop (length xs) xs ≡ []
drop-whole [] = refl
drop-whole (x ∷ xs) = drop-whole xs

drop-more : (k : ℕ) (xs ys : List ℕ) → k ≤ length xs → drop k (xs ++ ys) ≡ drop k xs ++ ys
drop-more zero xs ys le = refl
drop-more (suc k) [] ys le = absurd (omega (arith, le))
drop-more (suc k) (x ∷ xs) ys le = drop-more k xs ys (omega (arith, le))

map-more : (rs : List Receipt) (r : Receipt) → map (λ (q : Receipt). q.place) (rs ++ r ∷ []) ≡ map (λ (q : Receipt). q.place) rs ++ r.place ∷ []
map-more [] r = refl
map-more (q ∷ rs) r = ap (λ (ps : List ℕ). q.place ∷ ps) (map-more rs r)

length-more : (ps : List ℕ) (p : ℕ) → length (ps ++ p ∷ []) ≡ length ps + 1
length-more [] p = refl
length-more (x ∷ ps) p = omega (arith, length-more ps p)

length-more-of : (rs : List Receipt) (r : Receipt) → length (rs ++ r ∷ []) ≡ length rs + 1
length-more-of [] r = refl
length-more-of (x ∷ rs) r = omega (arith, length-more-of rs r)

pub placed_none : Placed 0 0 [] []
placed_none = record { received = refl; kept = refl; floor_is = refl }

-- all receipts are folded
pub placed_folded : (k f : ℕ) (rs : List Receipt) (ps : List ℕ) (received after : ℕ) → Placed k f rs ps → received ≡ k + length rs → after ≡ floor_after f rs → Placed received after [] ps
placed_folded k f rs ps received after h is floor =
    let n : received ≡ length ps = is ∙ sym h.received in
    record {
      received = omega (arith, n);
      kept = sym (ap (λ (i : ℕ). drop i ps) n ∙ drop-whole ps);
      floor_is = floor ∙ floor-map f rs ∙ (λ i. past_last (h.floor_is i) (h.kept i)) ∙ past-split k 0 ps ∙ ap (past_last 0) (sym (ap (λ (i : ℕ). take i ps) n ∙ take-whole ps));
    }

-- one more receipt, at the place that was drawn for it
pub placed_more : (k f : ℕ) (rs new : List Receipt) (ps drawn : List ℕ) (r : Receipt) (p : ℕ) → Placed k f rs ps → new ≡ rs ++ r ∷ [] → drawn ≡ ps ++ p ∷ [] → p ≡ r.place → Placed k f new drawn
placed_more k f rs new ps drawn r p h new_is drawn_is here =
    let le : k ≤ length ps = omega (arith, h.received) in
    rw (new_is, drawn_is, here) (record {
      received = omega (arith, h.received, length-more ps r.place, length-more-of rs r);
      kept = map-more rs r ∙ ap (λ (qs : List ℕ). qs ++ r.place ∷ []) h.kept ∙ sym (drop-more k ps (r.place ∷ []) le);
      floor_is = h.floor_is ∙ ap (past_last 0) (sym (take-more k ps (r.place ∷ []) le));
    })

-- one more receipt, which counts exactly if it is of a grant
pub granted_more : (rs new : List Receipt) (r : Receipt) (n : ℕ) → new ≡ rs ++ r ∷ [] → n ≡ (if is_grant r.brief then 1 else 0) → granted_in new ≡ granted_in rs + n
granted_more rs new r n new_is n_is = rw (new_is, n_is) (omega (arith, sum_by-append (λ (q : Receipt). cond (is_grant q.brief) 1 0) rs (r ∷ [])))

-- another receipt in the place of one; neither is of a grant
pub granted_set : (rs new : List Receipt) (i : ℕ) (r d : Receipt) (n m : ℕ) → i < length rs → new ≡ set rs i r → n ≡ (if is_grant r.brief then 1 else 0) → m ≡ (if is_grant (get_or rs i d).brief then 1 else 0) → n + m ≤ 0 → granted_in new ≡ granted_in rs
granted_set rs new i r d n m lt new_is n_is m_is none =
    rw new_is (omega (arith, n_is, m_is, none, sum_by-set (λ (q : Receipt). cond (is_grant q.brief) 1 0) rs i r d lt))

map-set : (rs : List Receipt) (i : ℕ) (r d : Receipt) → r.place ≡ (get_or rs i d).place → map (λ (q : Receipt). q.place) (set rs i r) ≡ map (λ (q : Receipt). q.place) rs
map-set [] i r d same = refl
map-set (q ∷ rs) zero r d same = ap (λ (p : ℕ). p ∷ map (λ (q : Receipt). q.place) rs) same
map-set (q ∷ rs) (suc i) r d same = ap (λ (ps : List ℕ). q.place ∷ ps) (map-set rs i r d same)

-- one receipt replaced by another of the same place
pub placed_set : (k f : ℕ) (rs new : List Receipt) (ps : List ℕ) (i : ℕ) (r d : Receipt) → Placed k f rs ps → new ≡ set rs i r → r.place ≡ (get_or rs i d).place → Placed k f new ps
placed_set k f rs new ps i r d h new_is same =
    rw new_is (record {
      received = h.received ∙ ap (λ (n : ℕ). k + n) (sym (length-set rs i r));
      kept = map-set rs i r d same ∙ h.kept;
      floor_is = h.floor_is;
    })

-- what holds of all holds of those in the first list
pub front : {X : Type 0} (P : X → Type 0) (xs ys : List X) → All P (xs ++ ys) → All P xs
front P [] ys a = λ k d lt. absurd (omega (arith, lt))
front P (x ∷ xs) ys a = All-cons P x xs (All-head P x (xs ++ ys) a) (front P xs ys (All-tail P x (xs ++ ys) a))
