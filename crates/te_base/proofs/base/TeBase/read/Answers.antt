use Rattle.std.proofs.Common.{ap}
use Rattle.te_base.specs.LinkText.{placed_base}
use Rattle.te_base.specs.Places.{unplaced}
use Rattle.te_base.proofs.Places.{unplaced_fails}
use Rattle.te_base.proofs.base.TeBase.read.Goals as goal

pub returns-in-Ok : goal.returns-in-Ok
returns-in-Ok c = ap unplaced c.in-Ok.ensures

pub returns-in-Err : goal.returns-in-Err
returns-in-Err c =
    let found = c.in-Err.found in
    unplaced_fails found.fault found.place found.key found.other (placed_base c.args.text.now) c.in-Err.ensures
