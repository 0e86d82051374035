use Rattle.std.proofs.Common.{map, pos, sym}
use Rattle.std.proofs.lemmas.List.{append-nil, drop_more}
use Rattle.serde_json.specs.View.{view}
use Rattle.watch_board.specs.Rows.{row_at}
use Rattle.watch_board.specs.declared.shares.LinkShare.{LinkShare}
use Rattle.watch_board.proofs.Adding.{said}
use Rattle.watch_board.proofs.Listing.{next}
use Rattle.watch_board.proofs.Links.{no_row, row_found}
use Rattle.watch_board.proofs.board.add_links.Goals as goal
use Rattle.watch_board.proofs.board.add_links.Goals.{in-Some+in_ok-add_link, in_default}

abbrev none : LinkShare
none = record { place = 0; reservable = 0; left = pos 0 }

pub loop-share-preserved : goal.loop-share-preserved
loop-share-preserved c =
    let links = c.args.links.now in
    let text = c.loop-share.text in
    let left = drop_more c.args.shares.now c.loop-share.share-index none c.loop-share-test.true in
    elim c.match-get.branch [
      | in-Some+in_ok-add_link w ↦
          let found = w.in-Some.ensures.lookup in
          rw w.text-is (next (row_at (map view links)) text w.add_link.new.text _ _ _ _ left
          (said text _ _ _ (sym (row_found links _ w.in-Some.link.now found.3.0 found.1)) w.in_ok-add_link.ensures) c.loop-share.invariant)
      | in_default w ↦
          rw w.text-is (next (row_at (map view links)) text text _ _ _ _ left
          (said text _ _ _ (sym (no_row links _ w.in_default.ensures.lookup.3)) (sym (append-nil _))) c.loop-share.invariant)
    ]
