use Rattle.json.specs.Json.{array}
use Rattle.pce_view.specs.Tunnels.{tunnel_items}
use Rattle.pce_view.proofs.Objects.{ends_object}
use Rattle.pce_view.proofs.tunnels.put_page.Goals as goal

pub returns-clause-written : goal.returns-clause-written
returns-clause-written c =
    let last = array (tunnel_items c.args.seen.now.own.items 0 c.args.seen.now.page.lsps.items) in
    ends_object _ _ _ _ last (c.in_ok-begin_with.ensures.written last) (cc (c.deref.ensures.value, c.deref-2.ensures.value, c.in_ok-put_tunnels.ensures.written)) c.in_ok-end_object.ensures.ok
