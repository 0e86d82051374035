use Rattle.std.proofs.Common.{ap, refl, arith}
use Rattle.atomic_table.specs.Table.{Me}
use Rattle.place_tokens.specs.declared.rule.View.{View}
use Rattle.place_tokens.proofs.Moves.{part_at}
use Rattle.place_tokens.proofs.source.Unopened.open.Goals as goal

pub split_seat-token-requires : goal.split_seat-token-requires
split_seat-token-requires g c =
    let i = c.loop-i.invariant in
    (i.table, omega arith, part_at _ _ 1 _ 0 _ c.loop-i.keeper.me.0 (omega (arith, c.loop-i-test.true)) (λ _. refl) (ap (λ (m : Me (Unit {0}) View). m.0) i.parts))
