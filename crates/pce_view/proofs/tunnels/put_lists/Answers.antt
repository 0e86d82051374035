use Rattle.json.specs.Json.{array}
use Rattle.pce_view.specs.Tunnels.{held_items, path_items}
use Rattle.pce_view.proofs.Objects.{ends_with_two}
use Rattle.pce_view.proofs.tunnels.put_lists.Goals as goal

pub returns-clause-written : goal.returns-clause-written
returns-clause-written c =
    ends_with_two _ _ _ _ _ _ _ _ (array (path_items c.args.paths.now)) (array (held_items c.args.own.now))
    c.in_ok-key.ensures.ok
    c.in_ok-put_paths.ensures.written
    c.in_ok-key-2.ensures.ok
    c.in_ok-put_each_held.ensures.written
    c.in_ok-end_object.ensures.ok
