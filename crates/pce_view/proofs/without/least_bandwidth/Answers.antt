use Rattle.std.proofs.Common.{ap, sym, ◌∙◌}
use Rattle.pce_view.proofs.Movers.{number_in, one_byte}
use Rattle.pce_view.proofs.without.least_bandwidth.Goals as goal

pub returns-in-Some : goal.returns-in-Some
returns-in-Some c = ap number_in (sym c.in-Some.is ∙ c.of_word.ensures.value ∙ one_byte)

pub returns-in-None : goal.returns-in-None
returns-in-None c = c.zero.ensures ∙ ap number_in (sym c.in-None.is ∙ c.of_word.ensures.value ∙ one_byte)
