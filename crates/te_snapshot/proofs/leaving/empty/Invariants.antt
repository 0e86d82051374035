use Rattle.std.proofs.Common.{◌≡◌, ℕ, [], length}
use Rattle.te_snapshot.specs.Leaving.{listed}
use Rattle.te_snapshot.proofs.leaving.empty.Given as goal

abbrev pub invariant-loop : goal.invariant-loop
invariant-loop l = record {
  count : length l.lists.items ≡ l.counter;
  empty : (v : ℕ) → listed l.lists.items v ≡ [];
}
