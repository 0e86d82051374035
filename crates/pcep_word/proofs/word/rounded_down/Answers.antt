use Rattle.std.proofs.Common.{◌-◌, ◌*◌, ◌^◌, arith}
use Rattle.std.proofs.lemmas.Nat.{shl_whole}
use Rattle.pcep_word.proofs.Rounding.{down_of, nearer, shift_is, shift_small, shift_large, units_le, units_mono}
use Rattle.pcep_word.proofs.word.rounded_down.Goals as goal

pub returns-then-scale-lt150 : goal.returns-then-scale-lt150
returns-then-scale-lt150 c =
    down_of c.args.mantissa (150 - c.args.scale) c.min.result c.args.scale c.requires.small (nearer (150 - c.args.scale) c.min.result c.min.ensures) (omega arith)

pub returns-then-scale-gt174 : goal.returns-then-scale-gt174
returns-then-scale-gt174 c =
    let e = shift_is c.args.mantissa (c.args.scale - 150) c.args.scale (omega arith) in
    let a = shift_large c.args.mantissa (c.args.scale - 150) (c.requires.normal (omega arith)) (omega arith) in
    let b = units_mono 281474976710655 (c.args.mantissa * 2 ^ (c.args.scale - 150)) (omega (arith, a)) in
    record { holds = (omega arith, omega (arith, e, b)); greatest = λ u h. h.0 }

pub returns : goal.returns
returns c =
    let e = shift_is c.args.mantissa (c.args.scale - 150) c.args.scale (omega arith) in
    let s = shift_small c.args.mantissa (c.args.scale - 150) c.requires.small (omega arith) in
    rw (shl_whole c.args.mantissa 24 (c.args.scale - 150) 64 c.requires.small (omega arith)) (record { holds = (omega (arith, s), omega (arith, e)); greatest = λ u h. units_le u _ (omega (arith, e, h.1)) })
