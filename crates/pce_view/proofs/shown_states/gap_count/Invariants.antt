use Rattle.std.proofs.Common.{◌≡◌, ◌≤◌, length, take}
use Rattle.std.specs.Prelude.{filter, is_some}
use Rattle.pce_view.proofs.shown_states.gap_count.Given as goal

abbrev pub invariant-loop-gap : goal.invariant-loop-gap
invariant-loop-gap l = record {
  counted : l.count ≡ length (filter (λ g. is_some g) (take l.gap-index l.gaps));
  few : l.count ≤ l.gap-index;
}
