use Rattle.std.proofs.Common.{◌<◌, ◌-◌, length, ap, ◌∙◌, arith}
use Rattle.server_counts.specs.declared.stream.MessageStream.TheVariants.{Body}
use Rattle.server_counts.proofs.Passing.{passes}
use Rattle.server_counts.proofs.stream.passable.Goals as goal

pub returns-in-Body-clause-same : goal.returns-in-Body-clause-same
returns-in-Body-clause-same c = λ bs way c' long.
    let body = c.in-Body in
    let less : length bs < body.left = omega (arith, long, c.min.ensures, c.if-left-gt1.true) in
    rw body.is (passes body.kind body.left body.last way c' bs c.if-kind-ne-ERROR.true less ∙ ap (λ n. (Body body.kind (body.left - n) body.last, c')) long)
