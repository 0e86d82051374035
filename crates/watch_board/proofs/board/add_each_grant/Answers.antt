use Rattle.std.proofs.Common.{◌∙◌, ap, map, sym}
use Rattle.serde_json.specs.View.{view}
use Rattle.watch_board.specs.Boards.{list_of, row_of_grant}
use Rattle.watch_board.specs.Rows.{grant_row}
use Rattle.watch_board.proofs.Adding.{said}
use Rattle.watch_board.proofs.Listing.{front_left, list-items, next}
use Rattle.watch_board.proofs.board.add_each_grant.Goals as goal

pub loop-grant-preserved : goal.loop-grant-preserved
loop-grant-preserved c =
    let grant = view c.grant-item.result in
    let links = list-items (map view c.items_in.result.now) in
    next row_of_grant c.loop-grant.text c.add_grant.new.text grant _ _ _
    (front_left view c.args.grants.now c.loop-grant.grant-index c.grant-item.result c.loop-grant-test.true c.grant-item.is)
    (said c.loop-grant.text _ _ _ (ap (λ ds. grant_row ds grant) (sym links ∙ ap list_of c.items_in.ensures)) c.in_ok-add_grant.ensures)
    c.loop-grant.invariant
