use Rattle.std.proofs.Common.{◌≡◌, ◌<◌, ℕ, length}
use Rattle.bandwidth_book.specs.Tunnels.{sum_at}
use Rattle.bandwidth_book.proofs.tunnels.empty_sums.Given as goal

abbrev pub invariant-loop : goal.invariant-loop
invariant-loop l = record {
  long : length l.sums.items ≡ l.counter;
  nothing : (n p : ℕ) → p < 8 → sum_at l.sums.items n p ≡ 0;
}
