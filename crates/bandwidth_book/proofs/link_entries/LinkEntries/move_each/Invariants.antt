use Rattle.std.proofs.Common.{◌≡◌, ◌<◌, ◌≤◌, ◌+◌, ◌^◌, ℕ, Option, length, drop}
use Rattle.bandwidth_book.specs.Reservation.{most, promised_after, room_for}
use Rattle.bandwidth_book.specs.Holdings.{Holdings}
use Rattle.bandwidth_book.specs.Entries.{IsShifted, entry_on, kept, promised_to}
use Rattle.bandwidth_book.specs.Tunnels.{held_by_links, sum_at}
use Rattle.bandwidth_book.proofs.link_entries.LinkEntries.move_each.Given as goal

abbrev pub invariant-loop-link : goal.invariant-loop-link
invariant-loop-link l = record {
  sums : (n p : ℕ) → n < length l.fn.sums → p < 8 → sum_at l.sums n p + most (kept n l.fn.self) p ≡ sum_at l.fn.sums n p + most (kept n l.self) p;
  moved : (n : ℕ) (end : Option Holdings) → n < length l.fn.sums → IsShifted l.op (held_by_links l.held n (drop l.link-index l.links)) (entry_on n l.self) end → IsShifted l.op (held_by_links l.held n l.links) (entry_on n l.fn.self) end;
  past : (n : ℕ) → length l.fn.sums ≤ n → kept n l.self ≡ kept n l.fn.self;
  least : (n p : ℕ) → n < length l.fn.sums → most (kept n l.self) p < 2 ^ 48;
  room : (n : ℕ) → n < length l.fn.sums → room_for l.op (length (held_by_links l.held n (drop l.link-index l.links))) ≤ promised_to n l.self;
  after : (n : ℕ) → n < length l.fn.sums → promised_after l.op (length (held_by_links l.held n l.links)) (promised_to n l.fn.self) ≤ promised_after l.op (length (held_by_links l.held n (drop l.link-index l.links))) (promised_to n l.self);
}
