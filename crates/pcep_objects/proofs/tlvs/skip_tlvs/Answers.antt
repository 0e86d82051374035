use Rattle.std.proofs.Common.{◌≡◌, ◌<◌, length, rules}
use Rattle.std.proofs.lemmas.Result.{err_from_is_err_and}
use Rattle.pcep_objects.specs.Tlvs.{skipped_tlvs}
use Rattle.pcep_objects.proofs.Walking.{walked, skips, skip_ends, skip_done}
use Rattle.pcep_objects.proofs.tlvs.skip_tlvs.Goals as goal

pub returns-in_err-after : goal.returns-in_err-after
returns-in_err-after c =
    let some : 0 < length c.loop-rest.rest.now = search rules in
    let p = err_from_is_err_and c.from_residual.result c.from_residual.ensures.1 in
    rw (p.1, p.2, c.in_err-after.ensures.fault) (skip_ends c.loop-rest.rest.now (skipped_tlvs c.args.bytes.now) some c.in_err-after.ensures.not_there c.loop-rest.invariant)

pub loop-rest-preserved : goal.loop-rest-preserved
loop-rest-preserved c =
    let rest = c.loop-rest.rest.now in
    let after = c.in_ok-after.after.now in
    let number = c.in_ok-after.field-0-0.number in
    let value = c.in_ok-after.field-0-0.value.now in
    let one = walked rest after number value c.in_ok-after.ensures.size c.in_ok-after.ensures.number c.in_ok-after.ensures.value c.in_ok-after.ensures.rest in
    skips rest after number value (skipped_tlvs c.args.bytes.now) one c.loop-rest.invariant

pub returns : goal.returns
returns c =
    let none : length c.loop-rest.rest.now ≡ 0 = search rules in
    skip_done c.loop-rest.rest.now (skipped_tlvs c.args.bytes.now) none c.loop-rest.invariant
