use Rattle.std.proofs.Common.{◌+◌, ◌-◌, arith}
use Rattle.std.proofs.lemmas.Nat.{shl_whole}
use Rattle.pcep_word.proofs.Spelling.{normal_low, normal_high}
use Rattle.pcep_word.proofs.metric.leading_bits.Goals as goal

pub returns-then-top-le23 : goal.returns-then-top-le23
returns-then-top-le23 c =
    let n = (normal_low c.args.value c.args.top c.if-top-le23.true c.requires.low c.requires.high).0 in
    rw (shl_whole c.args.value (c.args.top + 1) (23 - c.args.top) 64 c.requires.high (omega arith)) (record { normal = n.normal; fits = n.fits; covers = n.covers; tight = n.tight })

pub returns-else-top-le23 : goal.returns-else-top-le23
returns-else-top-le23 c =
    let n = normal_high c.args.value c.args.top c.divided_up.result c.if-top-le23.false c.requires.low c.requires.high c.divided_up.ensures.covers c.divided_up.ensures.tight in
    record { normal = n.normal; fits = n.fits; covers = n.covers; tight = n.tight }
