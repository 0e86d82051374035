use Rattle.std.proofs.Common.{◌<◌, ◌*◌, arith}
use Rattle.asks.specs.Rates.{top_of}
use Rattle.asks.proofs.Parts.{quotient_is_least}
use Rattle.asks.proofs.rates.bytes_of.Goals as goal

pub returns-clause-least : goal.returns-clause-least
returns-clause-least c =
    let positive : 0 < 8 * c.args.number.parts = omega (arith, c.requires.parts) in
    rw (c.div_ceil-bytes.ensures, c.from.ensures, c.from-2.ensures, c.from-bits.ensures, c.from-parts.ensures)
    (quotient_is_least (top_of c.args.number c.args.bits) (8 * c.args.number.parts) positive)
