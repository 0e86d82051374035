use Rattle.std.proofs.Common.{◌≡◌, ◌<◌, ℕ, drop}
use Rattle.lsp_base.specs.declared.tunnel.Tunnel.{Tunnel}
use Rattle.bandwidth_book.specs.Ledgers.{count, held_at, promised_on}
use Rattle.bandwidth_book.specs.Paths.{held_by, picked}
use Rattle.bandwidth_book.specs.Reservation.{without_all}
use Rattle.bandwidth_book.proofs.drops.drop_picked.Given as goal

abbrev pub invariant-loop-place : goal.invariant-loop-place
invariant-loop-place l = record {
  same : count l.ledgers ≡ count l.fn.ledgers;
  kept : (n : ℕ) (k : Tunnel) → n < count l.fn.ledgers → without_all (held_at l.ledgers n k) (held_by n k (picked (drop l.place-index l.places) l.paths)) ≡ without_all (held_at l.fn.ledgers n k) (held_by n k (picked l.places l.paths));
  promised : (n : ℕ) (k : Tunnel) → n < count l.fn.ledgers → promised_on l.ledgers n k ≡ promised_on l.fn.ledgers n k;
}
