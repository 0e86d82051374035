use Rattle.std.proofs.Common.{ap, arith}
use Rattle.atomic_table.specs.Table.{Me}
use Rattle.place_tokens.specs.declared.rule.View.{View}
use Rattle.place_tokens.proofs.Moves.{learns}
use Rattle.place_tokens.proofs.source.learn.Goals as goal

pub load-requires : goal.load-requires
load-requires c =
    (c.requires.table.0, omega (arith, c.requires.table.1), learns _ _ _ c.args.keeper.now.me (ap (λ (m : Me (Unit {0}) View). m.0.keeps) c.requires.keeper) c.requires.all)
