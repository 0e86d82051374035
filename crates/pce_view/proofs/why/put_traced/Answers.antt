use Rattle.pce_view.specs.Why.{left_rows_or_null, traced_json}
use Rattle.pce_view.proofs.Objects.{ends_object}
use Rattle.pce_view.proofs.why.put_traced.Goals as goal

pub returns-clause-written : goal.returns-clause-written
unfolding traced_json
returns-clause-written c =
    let last = left_rows_or_null c.args.left.now in
    ends_object _ _ _ _ last (c.in_ok-begin_with.ensures.written last) c.in_ok-put_rows_or.ensures.written c.in_ok-end_object.ensures.ok
