use Rattle.std.proofs.Common.{◌≡◌, ◌<◌, length, ap, rules}
use Rattle.std.specs.Prelude.{option_copied}
use Rattle.std.proofs.lemmas.Result.{err_from_is_err_and}
use Rattle.pcep_objects.specs.Tlvs.{fitting_in}
use Rattle.pcep_objects.proofs.Walking.{walked, first_fits, later_fits, other_fits, fitting_ends, fitting_done}
use Rattle.pcep_objects.proofs.lsp_errors.fitting_in.Goals as goal
use Rattle.pcep_objects.proofs.lsp_errors.fitting_in.Goals.{else-tlv-number-via-then-tlv-number+else-tlv-size, else-tlv-number-via-else-tlv-number}

pub returns-in_err-tlv-clause-value : goal.returns-in_err-tlv-clause-value
returns-in_err-tlv-clause-value c =
    let some : 0 < length c.loop-rest.rest.now = search rules in
    let p = err_from_is_err_and c.from_residual.result c.from_residual.ensures.1 in
    rw (p.1, p.2, c.in_err-tlv.ensures.fault)
    (fitting_ends c.args.number c.args.size (option_copied c.loop-rest.found) c.loop-rest.rest.now (fitting_in c.args.number c.args.size c.args.bytes.now) some c.in_err-tlv.ensures.not_there c.loop-rest.invariant.0)

pub loop-rest-preserved-in-None : goal.loop-rest-preserved-in-None
loop-rest-preserved-in-None c =
    let rest = c.loop-rest.rest.now in
    let after = c.in_ok-tlv.after.now in
    let tlv = c.in_ok-tlv.tlv in
    let one = walked rest after tlv.number tlv.value.now c.in_ok-tlv.ensures.size c.in_ok-tlv.ensures.number c.in_ok-tlv.ensures.value c.in_ok-tlv.ensures.rest in
    (first_fits c.args.number c.args.size (option_copied c.loop-rest.found) rest after tlv.number tlv.value.now (fitting_in c.args.number c.args.size c.args.bytes.now) (ap option_copied c.in-None.is) one c.if-tlv-number.true c.if-tlv-size.true c.loop-rest.invariant.0, c.if-tlv-size.true)

pub loop-rest-preserved-in-Some : goal.loop-rest-preserved-in-Some
loop-rest-preserved-in-Some c =
    let rest = c.loop-rest.rest.now in
    let after = c.in_ok-tlv.after.now in
    let tlv = c.in_ok-tlv.tlv in
    let one = walked rest after tlv.number tlv.value.now c.in_ok-tlv.ensures.size c.in_ok-tlv.ensures.number c.in_ok-tlv.ensures.value c.in_ok-tlv.ensures.rest in
    (later_fits c.args.number c.args.size (option_copied c.loop-rest.found) _ rest after tlv.number tlv.value.now (fitting_in c.args.number c.args.size c.args.bytes.now) (ap option_copied c.in-Some.is) one c.if-tlv-number.true c.if-tlv-size.true c.loop-rest.invariant.0, c.loop-rest.invariant.1)

pub loop-rest-preserved : goal.loop-rest-preserved
loop-rest-preserved c =
    let rest = c.loop-rest.rest.now in
    let after = c.in_ok-tlv.after.now in
    let tlv = c.in_ok-tlv.tlv in
    let one = walked rest after tlv.number tlv.value.now c.in_ok-tlv.ensures.size c.in_ok-tlv.ensures.number c.in_ok-tlv.ensures.value c.in_ok-tlv.ensures.rest in
    let other : (tlv.number ≡ c.args.number → length tlv.value.now ≡ c.args.size → ⊥) = λ n l. elim c.else-tlv-number.branch [
      | else-tlv-number-via-then-tlv-number+else-tlv-size w ↦ w.if-tlv-size.false l
      | else-tlv-number-via-else-tlv-number w ↦ w.if-tlv-number.false n
    ] in
    (other_fits c.args.number c.args.size (option_copied c.loop-rest.found) rest after tlv.number tlv.value.now (fitting_in c.args.number c.args.size c.args.bytes.now) one other c.loop-rest.invariant.0, c.loop-rest.invariant.1)

pub returns-clause-value : goal.returns-clause-value
returns-clause-value c =
    let none : length c.loop-rest.rest.now ≡ 0 = search rules in
    fitting_done c.args.number c.args.size (option_copied c.loop-rest.found) c.loop-rest.rest.now (fitting_in c.args.number c.args.size c.args.bytes.now) none c.loop-rest.invariant.0
