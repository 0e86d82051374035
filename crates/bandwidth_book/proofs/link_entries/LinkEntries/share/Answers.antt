use Rattle.std.proofs.Common.{◌≡◌, Some, get_or}
use Rattle.bandwidth_book.specs.Entries.{entry_on}
use Rattle.bandwidth_book.proofs.LinkLists.{entry_lent}
use Rattle.bandwidth_book.proofs.link_entries.LinkEntries.share.Goals as goal

pub returns-in-Some : goal.returns-in-Some
returns-in-Some c =
    let found = entry_lent c.args.link c.index-deref-place.result c.self.inside.entries.items c.deref.result.now c.in-Some.place c.self.invariant.rising (rw c.as_slice.ensures at c.in-Some.ensures.found) c.deref.ensures c.index-deref-place.is in
    let same : entry_on c.args.link c.args.self.now ≡ Some (get_or c.deref.result.now c.in-Some.place c.index-deref-place.result).entry = rw (← c.self.view_is) found in
    rw same (c.maxima.ensures c.args.priority c.requires)
