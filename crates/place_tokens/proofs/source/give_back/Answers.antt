use Rattle.std.proofs.Common.{ap, ◌∙◌, arith}
use Rattle.atomic_table.specs.Table.{Me}
use Rattle.place_tokens.specs.declared.rule.View.{View}
use Rattle.place_tokens.proofs.Moves.{pops_at, takes_at}
use Rattle.place_tokens.proofs.source.give_back.Goals as goal

pub split_seat-newest-requires : goal.split_seat-newest-requires
split_seat-newest-requires c = (c.requires.table.0, omega (arith, c.requires.table.2), pops_at _ _ _ _ _ c.args.keeper.now.me.0 c.requires.keeper.0 (ap (λ (m : Me (Unit {0}) View). m.0) c.requires.keeper.1))

pub join_seat-requires : goal.join_seat-requires
join_seat-requires c =
    let s = c.split_seat-newest.ensures in
    let tv = ap (λ (m : Me (Unit {0}) View). m.0) s.4 in
    let pv = ap (λ (m : Me (Unit {0}) View). m.0) c.requires.token in (
      c.requires.table.1,
      s.3 ∙ c.requires.table.0,
      ap (λ (m : Me (Unit {0}) View). m.1) s.4,
      omega (arith, c.requires.table.2),
      takes_at _ _ _ _ _ (omega (arith, ap (λ (v : View). v.parts) tv)) (λ _. omega (arith, ap (λ (v : View). v.next) tv, ap (λ (v : View). v.next) pv)),
    )
