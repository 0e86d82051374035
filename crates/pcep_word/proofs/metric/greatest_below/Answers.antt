use Rattle.pcep_word.specs.Word.{IsNumber}
use Rattle.std.proofs.Common.{rules}
use Rattle.pcep_word.proofs.Reading.{bound_is}
use Rattle.pcep_word.proofs.metric.greatest_below.Goals as goal

pub returns-clause-found : goal.returns-clause-found
returns-clause-found c =
    let number : IsNumber c.args.word = search rules in
    bound_is c.args.word _ _ _ number c.mantissa_and_scale-mantissa.ensures.mantissa c.mantissa_and_scale-mantissa.ensures.scale c.rounded_down.ensures
