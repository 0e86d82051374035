-- Of two connections the one that outweighs the other is kept; on a tie, the older one.
use Rattle.std.proofs.Common.{◌≡◌, ℕ, ◌+◌, ◌<◌, ◌≤◌, List, length, nat_lt, slice_index_or, true, false, arith}
use Rattle.std.specs.List.{IsFirstBest}
use Rattle.std.specs.Cmp.{IsStrictWeakOrder}
use Rattle.std.proofs.lemmas.List.{get_or_default}
use Rattle.std.proofs.lemmas.List.MinMax.{IsStrictWeakOrder-by_number, IsStrictWeakOrder-flip, IsFirstBest-keeps, IsFirstBest-takes}
use Rattle.std.proofs.lemmas.Bool.Decides.{nat_tests}
use Rattle.server_rules.specs.declared.entrance.Taken.{Taken}
use Rattle.server_rules.specs.Places.{weight_of, outweighs}
use Rattle.server_rules.proofs.entrance.first_to_end.Goals.{then-weight_of, else-weight_of}
use Rattle.server_rules.proofs.entrance.first_to_end.Goals as goal

order : (taken : List Taken) → IsStrictWeakOrder (outweighs taken)
order taken = IsStrictWeakOrder-flip (λ (x y : Taken). nat_lt (weight_of taken x) (weight_of taken y)) (IsStrictWeakOrder-by_number (weight_of taken))

tests_more : (m n : ℕ) → m < n → nat_lt m n ≡ true
tests_more m n more = grind (arith, nat_tests)

tests_less : (m n : ℕ) → n ≤ m → nat_lt m n ≡ false
tests_less m n less = grind (arith, nat_tests)

takes : (taken : List Taken) (at first : ℕ) (d : Taken) (m n : ℕ) → m ≡ weight_of taken (slice_index_or taken first d) → n ≡ weight_of taken (slice_index_or taken at d)
    → IsFirstBest (outweighs taken) taken at first → at < length taken → m < n → IsFirstBest (outweighs taken) taken (at + 1) at
takes taken at first d m n is_m is_n best within more =
    let x = slice_index_or taken at d in
    let y = slice_index_or taken first d in
    let below : first < length taken = omega (arith, best.0) in
    let heavier : weight_of taken y < weight_of taken x = rw (← is_m, ← is_n) more in
    IsFirstBest-takes (order taken) taken at first x y best within (get_or_default taken at d x within) (get_or_default taken first d y below) (tests_more (weight_of taken y) (weight_of taken x) heavier)

keeps : (taken : List Taken) (at first : ℕ) (d : Taken) (m n : ℕ) → m ≡ weight_of taken (slice_index_or taken first d) → n ≡ weight_of taken (slice_index_or taken at d)
    → IsFirstBest (outweighs taken) taken at first → at < length taken → n ≤ m → IsFirstBest (outweighs taken) taken (at + 1) first
keeps taken at first d m n is_m is_n best within less =
    let x = slice_index_or taken at d in
    let y = slice_index_or taken first d in
    let below : first < length taken = omega (arith, best.0) in
    let lighter : weight_of taken x ≤ weight_of taken y = rw (← is_n, ← is_m) less in
    IsFirstBest-keeps (order taken) taken at first x y best within (get_or_default taken at d x within) (get_or_default taken first d y below) (tests_less (weight_of taken y) (weight_of taken x) lighter)

pub loop-at-preserved : goal.loop-at-preserved
loop-at-preserved c =
    let within : c.loop-at.at < length c.args.taken.now = omega arith in
    elim c.if-weight_of.branch [
      | then-weight_of w ↦ rw w.first-is (takes _ _ _ _ _ _ c.weight_of.ensures c.weight_of-in-loop-at.ensures c.loop-at.invariant within w.if-weight_of.true)
      | else-weight_of w ↦ rw w.first-is (keeps _ _ _ _ _ _ c.weight_of.ensures c.weight_of-in-loop-at.ensures c.loop-at.invariant within w.if-weight_of.false)
    ]
