use Rattle.std.proofs.Common.{rules}
use Rattle.pcep_word.specs.Word.{IsNumber}
use Rattle.pcep_word.proofs.Reading.{reads_is, not_reads}
use Rattle.pcep_word.proofs.bandwidth.Bandwidth.least_above.Goals as goal

pub returns-in_default-clause-none : goal.returns-in_default-clause-none
returns-in_default-clause-none c = λ v r.
    not_reads c.args.word c.mantissa_and_scale-mantissa.result.0 c.mantissa_and_scale-mantissa.result.1 v c.mantissa_and_scale-mantissa.ensures.mantissa c.mantissa_and_scale-mantissa.ensures.scale c.in_default.ensures.none r

pub invariant_of-result : goal.invariant_of-result
invariant_of-result c =
    let number : IsNumber c.args.word = search rules in
    record {
      word = c.args.word;
      reads = reads_is c.args.word c.mantissa_and_scale-mantissa.result.0 c.mantissa_and_scale-mantissa.result.1 c.in-Some.value number c.mantissa_and_scale-mantissa.ensures.mantissa c.mantissa_and_scale-mantissa.ensures.scale c.in-Some.ensures.found c.in-Some.ensures.fits;
    }

pub returns-clause-found : goal.returns-clause-found
returns-clause-found c =
    let number : IsNumber c.args.word = search rules in
    reads_is c.args.word c.mantissa_and_scale-mantissa.result.0 c.mantissa_and_scale-mantissa.result.1 c.in-Some.value number c.mantissa_and_scale-mantissa.ensures.mantissa c.mantissa_and_scale-mantissa.ensures.scale c.in-Some.ensures.found c.in-Some.ensures.fits
