use Rattle.std.proofs.Common.{sym, ◌∙◌}
use Rattle.asks.proofs.Hex.{plus_is_none, by_parse}
use Rattle.asks.proofs.limits.hex_number_in.Goals as goal

pub returns-then-has_plus : goal.returns-then-has_plus
returns-then-has_plus c =
    plus_is_none c.args.word.now (rw c.as_bytes.ensures.value at (sym c.has_plus.ensures ∙ c.if-has_plus.true))

pub returns : goal.returns
returns c =
    c.ok.ensures.value ∙ by_parse c.args.word.now c.from_str_radix.result (rw c.as_bytes.ensures.value at (sym c.has_plus.ensures ∙ c.if-has_plus.false)) c.from_str_radix.ensures.value
