use Rattle.std.proofs.Common.{ap, ◌∙◌, arith}
use Rattle.atomic_table.specs.Table.{Me}
use Rattle.place_tokens.specs.declared.rule.View.{View}
use Rattle.place_tokens.proofs.Moves.{all_at, stacks_at}
use Rattle.place_tokens.proofs.source.lend.Goals as goal

pub split_seat-all-requires : goal.split_seat-all-requires
split_seat-all-requires c = (c.requires.table.1, omega (arith, c.requires.table.2), all_at _ _ _ c.args.token.now.me.0 (ap (λ (m : Me (Unit {0}) View). m.0) c.requires.token))

pub join_seat-requires : goal.join_seat-requires
join_seat-requires c =
    let s = c.split_seat-all.ensures in
    let tv = ap (λ (m : Me (Unit {0}) View). m.0) s.4 in
    let pv = ap (λ (m : Me (Unit {0}) View). m.0) c.requires.token in
    let kv = ap (λ (m : Me (Unit {0}) View). m.0) c.requires.keeper in (
      c.requires.table.0,
      s.3 ∙ c.requires.table.1,
      ap (λ (m : Me (Unit {0}) View). m.1) s.4,
      omega (arith, c.requires.table.2),
      stacks_at _ _ _ _ _ (omega (arith, ap (λ (v : View). v.parts) tv, ap (λ (v : View). v.parts) pv)) (λ z. absurd (omega (arith, z, ap (λ (v : View). v.keeps) kv))),
    )
