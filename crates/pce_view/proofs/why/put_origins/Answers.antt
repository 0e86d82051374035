use Rattle.json.specs.Json.{array}
use Rattle.pce_view.specs.Why.{traced_items}
use Rattle.pce_view.proofs.Objects.{ends_object}
use Rattle.pce_view.proofs.why.put_origins.Goals as goal

pub returns-clause-written : goal.returns-clause-written
returns-clause-written c =
    let last = array (traced_items c.args.now_ms c.args.marks.now c.args.residuals.now c.args.seen.now.paths.items) in
    ends_object _ _ _ _ last (c.in_ok-begin_with.ensures.written last) (rw c.deref.ensures.value at c.in_ok-put_each_traced.ensures.written) c.in_ok-end_object.ensures.ok
