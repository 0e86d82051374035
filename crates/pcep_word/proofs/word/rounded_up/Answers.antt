use Rattle.std.proofs.Common.{◌-◌, ◌*◌, ◌^◌, arith}
use Rattle.std.proofs.lemmas.Nat.{shl_whole}
use Rattle.pcep_word.proofs.Rounding.{up_is, nearer, shift_is, shift_small, shift_large, units_le}
use Rattle.pcep_word.proofs.word.rounded_up.Goals as goal

pub returns-then-scale-lt150-clause-found : goal.returns-then-scale-lt150-clause-found
returns-then-scale-lt150-clause-found c =
    up_is c.args.mantissa (150 - c.args.scale) c.min.result c.divided_up.result c.args.scale c.requires.small (nearer (150 - c.args.scale) c.min.result c.min.ensures) (omega arith) c.divided_up.ensures.covers c.divided_up.ensures.tight

pub returns-then-scale-gt174-clause-none : goal.returns-then-scale-gt174-clause-none
returns-then-scale-gt174-clause-none c = λ u small h.
    let e = shift_is c.args.mantissa (c.args.scale - 150) c.args.scale (omega arith) in
    let a = shift_large c.args.mantissa (c.args.scale - 150) (c.requires.normal (omega arith)) (omega arith) in
    let b = units_le (c.args.mantissa * 2 ^ (c.args.scale - 150)) u (omega (arith, e)) in
    omega (arith, a, b)

pub returns-clause-found : goal.returns-clause-found
returns-clause-found c =
    let e = shift_is c.args.mantissa (c.args.scale - 150) c.args.scale (omega arith) in
    rw (shl_whole c.args.mantissa 24 (c.args.scale - 150) 64 c.requires.small (omega arith)) (record { holds = omega (arith, e); least = λ u h. units_le _ u (omega (arith, e)) })

pub returns-clause-fits : goal.returns-clause-fits
returns-clause-fits c =
    rw (shl_whole c.args.mantissa 24 (c.args.scale - 150) 64 c.requires.small (omega arith)) (shift_small c.args.mantissa (c.args.scale - 150) c.requires.small (omega arith))
