use Rattle.json.specs.Json.{array}
use Rattle.pce_view.specs.Without.{move_items}
use Rattle.pce_view.proofs.Objects.{ends_object}
use Rattle.pce_view.proofs.without.put_run.Goals as goal

pub returns-clause-written : goal.returns-clause-written
returns-clause-written c =
    let last = array (move_items c.args.moves.now) in
    ends_object _ _ _ _ last (c.in_ok-begin_with.ensures.written last) c.in_ok-put_moves.ensures.written c.in_ok-end_object.ensures.ok
