use Rattle.std.proofs.Common.{◌≡◌, length}
use Rattle.smallvec.specs.SmallVec.{HasRoomFor}
use Rattle.bandwidth_book.specs.Entries.{joined_with}
use Rattle.bandwidth_book.proofs.many_links.move_all.Given as goal

abbrev pub invariant-loop-rest : goal.invariant-loop-rest
invariant-loop-rest l = record {
  joined : joined_with l.joined.items l.rest.items ≡ joined_with l.fn.joined.items l.fn.rest.items;
  room : HasRoomFor l.joined (length l.rest.items);
}

abbrev pub decreases-loop-rest : goal.decreases-loop-rest
decreases-loop-rest l = length l.rest.items
