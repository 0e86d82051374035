use Rattle.std.proofs.Common.{◌≡◌, ◌<◌, length, rules, arith, sym, ◌∙◌}
use Rattle.pcep_objects.specs.Objects.{body_of}
use Rattle.pcep_messages.proofs.Finding.{is_object, is_skipped, is_bad, is_end, is_within}
use Rattle.pcep_messages.proofs.objects.next_object.Goals as goal

pub returns-in-Ok : goal.returns-in-Ok
returns-in-Ok c =
    let some : 0 < length c.loop-rest.rest.now = search rules in
    let front = c.in-Ok.front in
    let one = is_object c.args.checks_p c.loop-rest.rest.now (body_of front.kind front.p front.body.now) front.size some (omega (arith, c.in-Ok.ensures.least)) c.in-Ok.ensures.reads in
    (rw c.split_at.ensures.back (sym c.loop-rest.invariant.0 ∙ one), omega (arith, c.split_at.ensures.back_len, c.in-Ok.ensures.least, c.loop-rest.invariant.1))

pub loop-rest-preserved : goal.loop-rest-preserved
loop-rest-preserved c =
    let some : 0 < length c.loop-rest.rest.now = search rules in
    let is = sym c.skipped.ensures ∙ c.in-Some.is in
    let size = is_within c.args.checks_p c.in-Err.fault (length c.loop-rest.rest.now) c.in-Some.size c.in-Err.ensures.may_be_skipped is in
    let one = is_skipped c.args.checks_p c.loop-rest.rest.now c.in-Err.fault c.in-Some.size some (omega (arith, size.0)) c.in-Err.ensures.first_fault is in
    (rw c.split_at-in-Some.ensures.back (one ∙ c.loop-rest.invariant.0), omega (arith, c.split_at-in-Some.ensures.back_len, c.loop-rest.invariant.1))

pub returns-in-None : goal.returns-in-None
returns-in-None c =
    let some : 0 < length c.loop-rest.rest.now = search rules in
    sym c.loop-rest.invariant.0 ∙ is_bad c.args.checks_p c.loop-rest.rest.now c.in-Err.fault some c.in-Err.ensures.first_fault (sym c.skipped.ensures ∙ c.in-None.is)

pub returns : goal.returns
returns c =
    let none : length c.loop-rest.rest.now ≡ 0 = search rules in
    sym c.loop-rest.invariant.0 ∙ is_end c.args.checks_p c.loop-rest.rest.now none
