use Rattle.std.proofs.Common.{◌≡◌, rules, ◌∙◌}
use Rattle.pcep_objects.specs.Objects.{body_of}
use Rattle.pcep_objects.specs.declared.fault.BodyFault.TheVariants as body
use Rattle.pcep_messages.specs.Objects.{found_in}
use Rattle.pcep_messages.proofs.Parting.{begins, takes_body, stops, ends}
use Rattle.pcep_messages.proofs.Finding.{own_stops}
use Rattle.pcep_messages.proofs.parts.parts_in.Goals as goal

pub loop-front-init : goal.loop-front-init
loop-front-init c = rw c.no_parts-parts.ensures (begins (found_in c.args.bytes.now))

pub loop-front-preserved : goal.loop-front-preserved
loop-front-preserved c =
    let front = c.in-Object.front in
    takes_body c.loop-front.parts c.take_front.new.parts _ _ _ (body_of front.kind front.p front.body.now) c.in-Object.ensures.0 c.in-Ok.ensures.taken c.loop-front.invariant

pub returns-in-Err : goal.returns-in-Err
returns-in-Err c =
    let front = c.in-Object.front in
    let other : c.in-Err.own ≡ body.OutOfMemory → ⊥ = search rules in
    let own = own_stops (body_of front.kind front.p front.body.now) c.in-Err.own _ c.in-Err.ensures.own_fault other in
    rw (c.in-Err.ensures.unchanged, c.into.ensures) (stops c.loop-front.parts _ _ _ (c.in-Object.ensures.0 ∙ own) c.loop-front.invariant)

pub returns-in-Bad : goal.returns-in-Bad
returns-in-Bad c = stops c.loop-front.parts _ _ c.in-Bad.fault c.in-Bad.ensures c.loop-front.invariant

pub returns-in-End : goal.returns-in-End
returns-in-End c = ends c.loop-front.parts _ _ c.in-End.ensures c.loop-front.invariant
