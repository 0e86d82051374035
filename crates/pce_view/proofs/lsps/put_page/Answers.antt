use Rattle.json.specs.Json.{array}
use Rattle.pce_view.specs.Lsps.{lsp_items}
use Rattle.pce_view.proofs.Objects.{ends_object}
use Rattle.pce_view.proofs.lsps.put_page.Goals as goal

pub returns-clause-written : goal.returns-clause-written
returns-clause-written c =
    let last = array (lsp_items c.args.heard.now c.args.placed.now.gaps.items 0 c.args.placed.now.page.lsps.items) in
    ends_object _ _ _ _ last (c.in_ok-begin_with.ensures.written last) (cc (c.deref.ensures.value, c.deref-2.ensures.value, c.in_ok-put_lsps.ensures.written)) c.in_ok-end_object.ensures.ok
