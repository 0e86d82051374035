use Rattle.std.proofs.Common.{◌≡◌, ◌<◌, length, true, false, ap, rules}
use Rattle.std.specs.Prelude.{option_copied}
use Rattle.std.proofs.lemmas.Result.{err_from_is_err_and}
use Rattle.pcep_objects.specs.Tlvs.{value_in, may_have}
use Rattle.pcep_objects.proofs.Walking.{walked, other_type, first_one, later_one, wrong_size, value_ends, value_done}
use Rattle.pcep_objects.proofs.tlvs.value_in.Goals as goal

pub returns-in_err-tlv-clause-value : goal.returns-in_err-tlv-clause-value
returns-in_err-tlv-clause-value c =
    let some : 0 < length c.loop-rest.rest.now = search rules in
    let p = err_from_is_err_and c.from_residual.result c.from_residual.ensures.1 in
    rw (p.1, p.2, c.in_err-tlv.ensures.fault)
    (value_ends c.args.number c.args.size (option_copied c.loop-rest.found) c.loop-rest.rest.now (value_in c.args.number c.args.size c.args.bytes.now) some c.in_err-tlv.ensures.not_there c.loop-rest.invariant.0)

pub returns-then-not-may_have-clause-value : goal.returns-then-not-may_have-clause-value
returns-then-not-may_have-clause-value c =
    let rest = c.loop-rest.rest.now in
    let after = c.in_ok-tlv.after.now in
    let tlv = c.in_ok-tlv.tlv in
    let one = walked rest after tlv.number tlv.value.now c.in_ok-tlv.ensures.size c.in_ok-tlv.ensures.number c.in_ok-tlv.ensures.value c.in_ok-tlv.ensures.rest in
    let wrong : may_have c.args.size (length tlv.value.now) ≡ false = search rules in
    wrong_size c.args.number c.args.size (option_copied c.loop-rest.found) rest after tlv.number tlv.value.now (value_in c.args.number c.args.size c.args.bytes.now) one c.if-tlv-number.true wrong c.loop-rest.invariant.0

pub loop-rest-preserved-in-None : goal.loop-rest-preserved-in-None
loop-rest-preserved-in-None c =
    let rest = c.loop-rest.rest.now in
    let after = c.in_ok-tlv.after.now in
    let tlv = c.in_ok-tlv.tlv in
    let one = walked rest after tlv.number tlv.value.now c.in_ok-tlv.ensures.size c.in_ok-tlv.ensures.number c.in_ok-tlv.ensures.value c.in_ok-tlv.ensures.rest in
    let sized : may_have c.args.size (length tlv.value.now) ≡ true = search rules in
    (first_one c.args.number c.args.size (option_copied c.loop-rest.found) rest after tlv.number tlv.value.now (value_in c.args.number c.args.size c.args.bytes.now) (ap option_copied c.in-None.is) one c.if-tlv-number.true sized c.loop-rest.invariant.0, sized)

pub loop-rest-preserved-in-Some : goal.loop-rest-preserved-in-Some
loop-rest-preserved-in-Some c =
    let rest = c.loop-rest.rest.now in
    let after = c.in_ok-tlv.after.now in
    let tlv = c.in_ok-tlv.tlv in
    let one = walked rest after tlv.number tlv.value.now c.in_ok-tlv.ensures.size c.in_ok-tlv.ensures.number c.in_ok-tlv.ensures.value c.in_ok-tlv.ensures.rest in
    let sized : may_have c.args.size (length tlv.value.now) ≡ true = search rules in
    (later_one c.args.number c.args.size (option_copied c.loop-rest.found) _ rest after tlv.number tlv.value.now (value_in c.args.number c.args.size c.args.bytes.now) (ap option_copied c.in-Some.is) one c.if-tlv-number.true sized c.loop-rest.invariant.0, c.loop-rest.invariant.1)

pub loop-rest-preserved : goal.loop-rest-preserved
loop-rest-preserved c =
    let rest = c.loop-rest.rest.now in
    let after = c.in_ok-tlv.after.now in
    let tlv = c.in_ok-tlv.tlv in
    let one = walked rest after tlv.number tlv.value.now c.in_ok-tlv.ensures.size c.in_ok-tlv.ensures.number c.in_ok-tlv.ensures.value c.in_ok-tlv.ensures.rest in
    (other_type c.args.number c.args.size (option_copied c.loop-rest.found) rest after tlv.number tlv.value.now (value_in c.args.number c.args.size c.args.bytes.now) one c.if-tlv-number.false c.loop-rest.invariant.0, c.loop-rest.invariant.1)

pub returns-clause-value : goal.returns-clause-value
returns-clause-value c =
    let none : length c.loop-rest.rest.now ≡ 0 = search rules in
    value_done c.args.number c.args.size (option_copied c.loop-rest.found) c.loop-rest.rest.now (value_in c.args.number c.args.size c.args.bytes.now) none c.loop-rest.invariant.0
