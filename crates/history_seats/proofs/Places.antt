-- Items that were looked at, and the places of receipts.
use Rattle.std.proofs.Common.{subst, All, ◌≡◌, inl, inr, ℕ, zero, suc, ◌+◌, ◌-◌, ◌<◌, ◌≤◌, List, [], ◌∷◌, length, take, get_or, arith}
use Rattle.std.specs.Prelude.{Some, None, Option, IfSome, slice_get}
use Rattle.std.proofs.lemmas.List.{take_all}
use Rattle.std.proofs.lemmas.List.Elements.{All-more, All-weaker}
use Rattle.history_seats.specs.declared.receipt.Receipt.{Receipt}
use Rattle.history_core.specs.declared.step.Step.{Step}
use Rattle.history_core.specs.Histories.{Content, steps_of}
use Rattle.history_seats.specs.Audits.{Agrees}

-- P holds of one more item
pub more : {X : Type 0} (P : X → Type 0) (xs : List X) (i : ℕ) (x : X) → i < length xs → x ≡ get_or xs i x → All P (take i xs) → P x → All P (take (i + 1) xs)
more P xs i x lt is all here = All-more P xs i x lt all (subst P is here)

-- if all items were looked at, P holds of the whole list
pub whole : {X : Type 0} (P : X → Type 0) (xs : List X) (i : ℕ) → length xs ≤ i → All P (take i xs) → All P xs
whole P xs i le all = subst (All P) (take_all i xs le) all

-- a receipt that agrees has a place below the number of steps
within : (h : List Step) (k : ℕ) (x : Step) → slice_get h k ≡ Some x → k < length h
within [] k x e = absurd cc
within (y ∷ ys) zero x e = omega arith
within (y ∷ ys) (suc k) x e = omega (arith, within ys k x e)

within_agrees : (d : Content) (r : Receipt) → Agrees d r → r.place < steps_of d
within_agrees d r (inl lt) = omega (arith, lt)
within_agrees d r (inr e) = omega (arith, within d.history (r.place - d.rolled) _ e)

pub all_within : (d : Content) (rs : List Receipt) → All (Agrees d) rs → All (λ r. r.place < steps_of d) rs
all_within d rs all = All-weaker (Agrees d) (λ (r : Receipt). r.place < steps_of d) (λ r a. within_agrees d r a) rs all

-- if Q follows from P, it holds of the answer too
pub if_more : (P Q : ℕ → Type 0) (o : Option ℕ) → ((n : ℕ) → P n → Q n) → IfSome o P → IfSome o Q
if_more P Q None f h = tt
if_more P Q (Some n) f h = f n h
