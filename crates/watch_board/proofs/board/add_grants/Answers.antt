use Rattle.std.proofs.Common.{ap}
use Rattle.std.specs.List.{flat_map}
use Rattle.serde_json.specs.View.{view}
use Rattle.watch_board.specs.Boards.{grant_rows, row_of_grant}
use Rattle.watch_board.proofs.Adding.{added_last, said}
use Rattle.watch_board.proofs.Listing.{first_ones}
use Rattle.watch_board.proofs.board.add_grants.Goals as goal

pub returns : goal.returns
unfolding grant_rows
returns c = added_last c.add_each_grant.result c.args.text.now _ _ _ c.add_each_grant.ensures (λ last.
    said c.args.text.now _ _ _ (ap (flat_map row_of_grant) (first_ones view c.args.grants.now c.min-count.result c.args.most c.min-count.ensures)) last)
