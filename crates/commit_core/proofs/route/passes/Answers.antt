use Rattle.std.proofs.Common.{drop, ◌∙◌}
use Rattle.commit_core.proofs.Nodes.{passes_start}
use Rattle.commit_core.proofs.route.passes.Goals as goal

pub returns-then-here-node : goal.returns-then-here-node
returns-then-here-node c =
    passes_start c.args.te.now.links c.loop-number.here (drop c.loop-number.number-index c.args.path.now) c.args.node c.if-here-node.true ∙ c.loop-number.invariant
