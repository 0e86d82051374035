use Rattle.std.proofs.Common.{ℕ, length}
use Rattle.smallvec.specs.SmallVec.{HasRoomFor}
use Rattle.bandwidth_book.specs.Entries.{AreRising, IsSame, entry_on, joined_with}
use Rattle.bandwidth_book.proofs.many_links.join.Given as goal

abbrev pub invariant-loop-link : goal.invariant-loop-link
invariant-loop-link l = record {
  rising : AreRising (joined_with l.joined.items l.rest.items);
  same : (n : ℕ) → IsSame (entry_on n (joined_with l.fn.joined.items l.fn.rest.items)) (entry_on n (joined_with l.joined.items l.rest.items));
  room : HasRoomFor l.joined (length l.rest.items);
}
