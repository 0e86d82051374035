use Rattle.std.proofs.Common.{◌-ℤ◌, pos, slice_index, arith}
use Rattle.std.proofs.lemmas.List.FromFn.{fill_by_all}
use Rattle.te_snapshot.proofs.table.left_of.Goals as goal

pub returns : goal.returns
returns c = fill_by_all (λ p. pos c.args.amount -ℤ pos (slice_index c.args.sums.now p)) c.loop-priority.left 8 (pos 0) c.loop-priority.invariant.long (λ p less. c.loop-priority.invariant.done p (omega (arith, less)))
