use Rattle.json.specs.Json.{array}
use Rattle.pce_view.specs.Better.{better_items}
use Rattle.pce_view.proofs.Objects.{ends_object}
use Rattle.pce_view.proofs.better.put_better_page.Goals as goal

pub returns-clause-written : goal.returns-clause-written
returns-clause-written c =
    let last = array (better_items c.args.found.now) in
    ends_object _ _ _ _ last (c.in_ok-begin_with.ensures.written last) c.in_ok-put_each_better.ensures.written c.in_ok-end_object.ensures.ok
