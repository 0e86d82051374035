use Rattle.std.proofs.Common.{◌≡◌, ◌<◌, ◌≤◌, ℕ, Option, length, drop}
use Rattle.lsp_base.specs.declared.tunnel.Tunnel.{Tunnel}
use Rattle.bandwidth_book.specs.Entries.{IsMoved}
use Rattle.bandwidth_book.specs.Reservation.{promised_after, room_for}
use Rattle.bandwidth_book.specs.Holdings.{Holdings}
use Rattle.bandwidth_book.specs.Ledgers.{count, entry_at, held_at, promised_on}
use Rattle.bandwidth_book.specs.Paths.{held_by}
use Rattle.bandwidth_book.proofs.paths.move_paths.Given as goal

abbrev pub invariant-loop-path : goal.invariant-loop-path
invariant-loop-path l = record {
  same : count l.ledgers ≡ count l.fn.ledgers;
  moved : (n : ℕ) (k : Tunnel) (end : Option Holdings) → n < count l.fn.ledgers → IsMoved l.op (held_by n k (drop l.path-index l.paths)) (entry_at l.ledgers n k) end → IsMoved l.op (held_by n k l.paths) (entry_at l.fn.ledgers n k) end;
  past : (n : ℕ) (k : Tunnel) → count l.fn.ledgers ≤ n → held_at l.ledgers n k ≡ held_at l.fn.ledgers n k;
  room : (n : ℕ) (k : Tunnel) → n < count l.fn.ledgers → room_for l.op (length (held_by n k (drop l.path-index l.paths))) ≤ promised_on l.ledgers n k;
  after : (n : ℕ) (k : Tunnel) → n < count l.fn.ledgers → promised_after l.op (length (held_by n k l.paths)) (promised_on l.fn.ledgers n k) ≤ promised_after l.op (length (held_by n k (drop l.path-index l.paths))) (promised_on l.ledgers n k);
}
