use Rattle.json.specs.Json.{array}
use Rattle.pce_view.specs.Link.{held_items, use_json}
use Rattle.pce_view.proofs.Objects.{ends_object}
use Rattle.pce_view.proofs.link.put_use.Goals as goal

pub returns-clause-written : goal.returns-clause-written
unfolding use_json
returns-clause-written c =
    let last = array (held_items c.args.tunnels.now) in
    ends_object _ _ _ _ last (c.in_ok-begin_with.ensures.written last) c.in_ok-put_each_held.ensures.written c.in_ok-end_object.ensures.ok
