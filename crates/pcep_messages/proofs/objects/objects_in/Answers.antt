use Rattle.std.proofs.Common.{◌≡◌, rules, ◌∙◌}
use Rattle.pcep_objects.specs.Objects.{body_of}
use Rattle.pcep_objects.specs.declared.fault.BodyFault.TheVariants as body
use Rattle.pcep_messages.proofs.Finding.{adds, stops, ends, own_stops}
use Rattle.pcep_messages.proofs.objects.objects_in.Goals as goal

pub loop-front-preserved : goal.loop-front-preserved
loop-front-preserved c =
    rw c.in_ok-push-in-Ok.ensures.items (adds c.loop-front.objects.items _ _ _ _ c.in-Ok.object c.in-Object.ensures.0 c.in-Ok.ensures c.loop-front.invariant)

pub returns-in-Err : goal.returns-in-Err
returns-in-Err c =
    let other : c.in-Err.own ≡ body.OutOfMemory → ⊥ = search rules in
    let front = c.in-Object.front in
    let own = own_stops (body_of front.kind front.p front.body.now) c.in-Err.own _ c.in-Err.ensures other in
    rw c.into.ensures (stops c.loop-front.objects.items _ _ _ (c.in-Object.ensures.0 ∙ own) c.loop-front.invariant)

pub returns-in-Bad : goal.returns-in-Bad
returns-in-Bad c = stops c.loop-front.objects.items _ _ c.in-Bad.fault c.in-Bad.ensures c.loop-front.invariant

pub returns-in-End : goal.returns-in-End
returns-in-End c = ends c.loop-front.objects.items _ _ c.in-End.ensures c.loop-front.invariant
