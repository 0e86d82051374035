use Rattle.bandwidth_book.proofs.LinkLists.{none_at_end, none_at_place}
use Rattle.bandwidth_book.proofs.link_entries.find.Goals as goal
use Rattle.bandwidth_book.proofs.link_entries.find.Goals.{else-place-entries-via-then-place-entries+else-entries-place, else-place-entries-via-else-place-entries}

pub returns-else-place-entries-clause-none : goal.returns-else-place-entries-clause-none
returns-else-place-entries-clause-none c =
    elim c.else-place-entries.branch [
      | else-place-entries-via-then-place-entries+else-entries-place w ↦
          none_at_place c.args.link w.index-entries-place.result c.args.entries.now c.place_of-place.result c.place_of-place.ensures.place c.requires w.if-entries-place.false
      | else-place-entries-via-else-place-entries w ↦
          none_at_end c.args.link c.args.entries.now c.place_of-place.result c.place_of-place.ensures.place c.requires w.if-place-entries.false
    ]
