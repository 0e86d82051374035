use Rattle.step_core.proofs.Standing.{link-there, next-values, no-values}
use Rattle.step_core.proofs.state.over.with_values.Goals as goal

pub loop-link-init : goal.loop-link-init
loop-link-init c = no-values c.args.te

pub set_values-requires : goal.set_values-requires
set_values-requires c = link-there c.args.te c.loop-link.te c.args.values.now c.loop-link.link c.loop-link-test.true c.requires c.loop-link.invariant

pub loop-link-preserved : goal.loop-link-preserved
loop-link-preserved c = next-values c.args.te c.loop-link.te c.set_values.new.self c.args.values.now c.loop-link.link c.index-values-link.result c.loop-link-test.true c.requires c.loop-link.invariant c.index-values-link.is c.set_values.ensures
