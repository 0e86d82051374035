use Rattle.std.proofs.Common.{◌≡◌, drop}
use Rattle.server_base.specs.Counting.{all_counted}
use Rattle.server_base.proofs.counting.count_calls.Given as goal

abbrev pub invariant-loop-call : goal.invariant-loop-call
invariant-loop-call l = all_counted (drop l.call-index l.calls) l.counters ≡ all_counted l.calls l.fn.counters
