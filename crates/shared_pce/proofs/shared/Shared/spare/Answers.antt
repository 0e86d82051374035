use Rattle.history_core.specs.Histories.{Content}
use Rattle.shared_pce.specs.declared.due.RollAt.{RollAt}
use Rattle.shared_pce.specs.Rolls.{is_due}
use Rattle.shared_pce.proofs.Seeing.{rolled_seen}
use Rattle.shared_pce.proofs.shared.Shared.spare.Goals as goal

pub returns : goal.returns
returns g c =
    let at : RollAt = record { steps = 18446744073709551615; bytes = 1048576 } in
    rolled_seen (λ (d : Content). is_due at d) g.B.StepNumbers.text c.args.seat.now c.roll_if.new.seat c.roll_if.result c.roll_if.ensures.rolled c.roll_if.ensures.unchanged_without_memory
