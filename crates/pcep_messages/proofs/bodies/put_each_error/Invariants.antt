use Rattle.std.proofs.Common.{◌≡◌, ◌++◌, take}
use Rattle.pcep_objects.specs.declared.object.Object.TheVariants as objects
use Rattle.pcep_messages.proofs.ErrorObjects.{each_spelled}
use Rattle.pcep_messages.proofs.bodies.put_each_error.Given as goal

abbrev pub invariant-loop-error : goal.invariant-loop-error
invariant-loop-error l = l.out.items ≡ l.fn.out.items ++ each_spelled (λ error. objects.Error error) (take l.error-index l.errors)
