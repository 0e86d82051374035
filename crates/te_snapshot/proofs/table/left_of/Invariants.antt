use Rattle.std.proofs.Common.{◌≡◌, ◌<◌, ◌-ℤ◌, pos, ℕ, length, slice_index, slice_index_or}
use Rattle.te_snapshot.proofs.table.left_of.Given as goal

abbrev pub invariant-loop-priority : goal.invariant-loop-priority
invariant-loop-priority l = record {
  long : length l.left ≡ 8;
  done : (p : ℕ) → p < l.priority → slice_index_or l.left p (pos 0) ≡ pos l.amount -ℤ pos (slice_index l.sums p);
}
