use Rattle.std.proofs.Common.{◌≡◌, ◌+◌, ◌*◌, ◌<◌, ◌%◌, arith}
use Rattle.pcep_word.proofs.Spelling.{top_below, word_zero, word_is}
use Rattle.pcep_word.proofs.metric.least_word.Goals as goal

pub returns-then-value-eq0 : goal.returns-then-value-eq0
returns-then-value-eq0 c = word_zero c.args.value c.if-value-eq0.true

pub leading_bits-mantissa-requires-clause-top : goal.leading_bits-mantissa-requires-clause-top
leading_bits-mantissa-requires-clause-top c = top_below c.args.value _ c.ilog2-top.ensures.power_le c.requires

pub returns : goal.returns
returns c =
    let t = c.ilog2-top.result in
    let small : t < 48 = top_below c.args.value t c.ilog2-top.ensures.power_le c.requires in
    let n = c.leading_bits-mantissa.ensures in
    let same : (t + 126) * 8388608 % 4294967296 ≡ (t + 126) * 8388608 = omega (arith, small) in
    rw same (word_is c.args.value t c.leading_bits-mantissa.result small c.ilog2-top.ensures.power_le (record { normal = n.normal; fits = n.fits; covers = n.covers; tight = n.tight }))
