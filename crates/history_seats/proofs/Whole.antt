-- If the receipts agree and each kept place has one, then as many receipts are of rolled places as steps were rolled.
use Rattle.std.proofs.Common.{◌≡◌, ◌⊎◌, inl, inr, ℕ, zero, suc, ◌+◌, ◌-◌, ◌<◌, ◌≤◌, ◌==◌, nat_lt, Bool, true, false, List, [], ◌∷◌, length, All, sum_by, refl, sym, ap, ◌∙◌, arith}
use mathlib.Core.Bool.{cond}
use Rattle.std.proofs.lemmas.Bool.Decides.{nat_tests}
use Rattle.std.proofs.lemmas.List.Sums.{sum_by-cons}
use Rattle.std.proofs.lemmas.List.Elements.{All-head, All-tail}
use Rattle.history_seats.specs.declared.receipt.Receipt.{Receipt}
use Rattle.history_core.specs.Histories.{Content, steps_of}
use Rattle.place_tokens.specs.Drawing.{once_below}
use Rattle.place_tokens.specs.Drawing as drawing
use Rattle.history_seats.specs.Receipts.{SeatContent, IsPlaced}
use Rattle.history_seats.specs.Audits.{times, times_in, steps_received, late, late_received, AllAgree, AllOnce, AllRise, AllDistinct, IsAudited, SeatAgrees}
use Rattle.history_seats.proofs.Places.{all_within}
use Rattle.history_seats.proofs.Placed.{kept_once, seats_rise}

-- f of each number below n, added up
below : (ℕ → ℕ) → ℕ → ℕ
below f zero = 0
below f (suc n) = below f n + f n

below-plus : (f g h : ℕ → ℕ) (n : ℕ) → ((p : ℕ) → f p ≡ g p + h p) → below f n ≡ below g n + below h n
unfolding below
below-plus f g h zero e = refl
below-plus f g h (suc n) e = omega (arith, below-plus f g h n e, e n)

below-none : (f : ℕ → ℕ) (n : ℕ) → ((p : ℕ) → f p ≡ 0) → below f n ≡ 0
unfolding below
below-none f zero e = refl
below-none f (suc n) e = omega (arith, below-none f n e, e n)

below-ones : (f : ℕ → ℕ) (n : ℕ) → ((p : ℕ) → p < n → f p ≡ 1) → below f n ≡ n
unfolding below
below-ones f zero e = refl
below-ones f (suc n) e = omega (arith, below-ones f n (λ p lt. e p (omega (arith, lt))), e n (omega arith))

-- 1 if the place is this one, p past the rolled ones, else 0
is_at : ℕ → ℕ → ℕ → ℕ
is_at q k p = cond (q == k + p) 1 0

at_other : (q k p : ℕ) → (q < k + p) ⊎ (k + p < q) → is_at q k p ≡ 0
unfolding is_at
at_other q k p (inl lt) = grind (arith, nat_tests)
at_other q k p (inr lt) = grind (arith, nat_tests)

at_same : (q k p : ℕ) → q ≡ k + p → is_at q k p ≡ 1
unfolding is_at
at_same q k p e = grind (arith, nat_tests)

below-before : (q k n : ℕ) → q < k → below (is_at q k) n ≡ 0
below-before q k n lt = below-none (is_at q k) n (λ p. at_other q k p (inl (omega (arith, lt))))

below-past : (q k n : ℕ) → k + n ≤ q → below (is_at q k) n ≡ 0
unfolding below
below-past q k zero le = refl
below-past q k (suc n) le = omega (arith, below-past q k n (omega arith), at_other q k n (inr (omega arith)))

below-one : (q k n : ℕ) (b : Bool) → nat_lt q (k + n) ≡ b → q < k + suc n → (q < k + n → below (is_at q k) n ≡ 1) → below (is_at q k) (suc n) ≡ 1
unfolding below
below-one q k n true is lt earlier = let less : q < k + n = grind (arith, nat_tests) in omega (arith, earlier less, at_other q k n (inl less))
below-one q k n false is lt earlier = let here : q ≡ k + n = grind (arith, nat_tests) in omega (arith, below-past q k n (omega arith), at_same q k n here)

below-step : (q k n : ℕ) → k ≤ q → q < k + n → below (is_at q k) n ≡ 1
below-step q k zero le lt = absurd (omega arith)
below-step q k (suc n) le lt = below-one q k n (nat_lt q (k + n)) refl lt (below-step q k n le)

-- a receipt's place is rolled or one of the kept
either-way : (q k n : ℕ) (b : Bool) → nat_lt q k ≡ b → q < k + n → below (is_at q k) n + cond b 1 0 ≡ 1
either-way q k n true is lt = omega (arith, below-before q k n (grind (arith, nat_tests)))
either-way q k n false is lt = omega (arith, below-step q k n (grind (arith, nat_tests)) lt)

below-times : (rs : List Receipt) (k n : ℕ) → All (λ r. r.place < k + n) rs → below (λ p. times (k + p) rs) n + late k rs ≡ length rs
unfolding is_at
below-times [] k n all = omega (arith, below-none (λ p. times (k + p) []) n (λ p. refl))
below-times (r ∷ rs) k n all =
    let P : Receipt → Type 0 = λ q. q.place < k + n in
    let first = either-way r.place k n (nat_lt r.place k) refl (All-head P r rs all) in
    let rest = below-times rs k n (All-tail P r rs all) in
    let split = below-plus (λ p. times (k + p) (r ∷ rs)) (is_at r.place k) (λ p. times (k + p) rs) n (λ p. sum_by-cons (λ (q : Receipt). cond (q.place == k + p) 1 0) r rs) in
    omega (arith, first, rest, split, sum_by-cons (λ (q : Receipt). cond (nat_lt q.place k) 1 0) r rs)

below-seats : (d : Content) (seats : List SeatContent) → AllAgree d seats → below (λ p. times_in (d.rolled + p) seats) (length d.history) + late_received d.rolled seats ≡ steps_received seats
below-seats d [] all = omega (arith, below-none (λ p. times_in (d.rolled + p) []) (length d.history) (λ p. refl))
below-seats d (s ∷ ss) all =
    let P : SeatContent → Type 0 = SeatAgrees d in
    let first = below-times s.receipts d.rolled (length d.history) (all_within d s.receipts (All-head P s ss all).1) in
    let rest = below-seats d ss (All-tail P s ss all) in
    let split = below-plus (λ p. times_in (d.rolled + p) (s ∷ ss)) (λ p. times (d.rolled + p) s.receipts) (λ p. times_in (d.rolled + p) ss) (length d.history) (λ p. sum_by-cons (λ (v : SeatContent). times (d.rolled + p) v.receipts) s ss) in
    omega (arith, first, rest, split, sum_by-cons (λ (v : SeatContent). v.folded + length v.receipts) s ss, sum_by-cons (λ (v : SeatContent). v.folded + late d.rolled v.receipts) s ss)

below-le : (f : ℕ → ℕ) (n : ℕ) → ((p : ℕ) → f p ≤ 1) → below f n ≤ n
unfolding below
below-le f zero le = omega arith
below-le f (suc n) le = omega (arith, below-le f n le, le n)

least-by : (f : ℕ → ℕ) (n p : ℕ) (b : Bool) → nat_lt p n ≡ b → ((q : ℕ) → f q ≤ 1) → p < suc n → (p < n → below f n + 1 ≤ n + f p) → below f (suc n) + 1 ≤ suc n + f p
unfolding below
least-by f n p true is le lt earlier = let less : p < n = grind (arith, nat_tests) in omega (arith, earlier less, le n)
least-by f n p false is le lt earlier = let same : p ≡ n = grind (arith, nat_tests) in omega (arith, below-le f n le, ap f same)

below-least : (f : ℕ → ℕ) (n p : ℕ) → ((q : ℕ) → f q ≤ 1) → p < n → below f n + 1 ≤ n + f p
below-least f zero p le lt = absurd (omega arith)
below-least f (suc n) p le lt = least-by f n p (nat_lt p n) refl le lt (below-least f n p le)

once_le : (p n : ℕ) → once_below p n ≤ 1
once_le p n = grind (arith, nat_tests)

once_is : (p n : ℕ) → p < n → once_below p n ≡ 1
once_is p n lt = grind (arith, nat_tests)

-- each kept step has one receipt
pub one_each : (n : ℕ) (d : Content) (seats : List SeatContent) → IsAudited n d seats → (place : ℕ) → d.rolled ≤ place → place < steps_of d → times_in place seats ≡ 1
one_each n d seats a place le lt =
    let p = place - d.rolled in
    let here : d.rolled + p ≡ place = omega (arith, le) in
    let least = below-least (λ q. times_in (d.rolled + q) seats) (length d.history) p (λ q. a.once (d.rolled + q) (omega arith)) (omega (arith, lt, here)) in
    let once = a.once (d.rolled + p) (omega arith) in
    rw (sym here) (omega (arith, least, once, below-seats d seats a.agree, a.steps, a.late))

-- if each kept step has one receipt, the other receipts are as many as the rolled steps
pub late_same : (d : Content) (seats : List SeatContent) → AllAgree d seats → steps_received seats ≡ steps_of d → ((p : ℕ) → p < length d.history → times_in (d.rolled + p) seats ≡ 1) → late_received d.rolled seats ≡ d.rolled
late_same d seats agree summed ones = omega (arith, below-seats d seats agree, summed, below-ones (λ p. times_in (d.rolled + p) seats) (length d.history) ones)

-- if the receipts agree, no test of the seats' places fails
pub all_placed : (d : Content) (seats : List SeatContent) → steps_received seats ≡ steps_of d → AllDistinct (steps_of d) seats → All IsPlaced seats → AllAgree d seats → AllOnce d seats × (late_received d.rolled seats ≡ d.rolled) × AllRise seats
all_placed d seats summed distinct placed agree = (
  (λ place le. omega (arith, kept_once d seats place placed agree distinct le, once_le place (steps_of d))),
  late_same d seats agree summed (λ p lt. kept_once d seats (d.rolled + p) placed agree distinct (omega arith) ∙ once_is (d.rolled + p) (steps_of d) (omega (arith, lt))),
  seats_rise seats placed,
)

-- each step that was ever taken was received by one seat, once
pub received_once : (n : ℕ) (d : Content) (seats : List SeatContent) → IsAudited n d seats → (place : ℕ) → place < steps_of d → sum_by (λ s. drawing.times place s.places) seats ≡ 1
received_once n d seats a place lt = a.distinct place ∙ once_is place (steps_of d) lt
