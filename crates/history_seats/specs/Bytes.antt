-- How many bytes steps take in memory.
use Rattle.std.specs.Prelude.{ℕ, ◌-◌, ◌^◌, min, List}
use Rattle.std.specs.List.{sum_by}
use Rattle.event_bytes.specs.Bytes.{bytes_of}
use Rattle.history_core.specs.Histories.{Content}
use Rattle.history_seats.specs.declared.receipt.Receipt.{Receipt}

-- the bytes of the kept steps, each with its receipt and all that its event holds; at most 2^64 - 1
unfoldable pub kept_bytes : Content → ℕ
kept_bytes d = min (sum_by (λ s. bytes_of s.event) d.history) (2 ^ 64 - 1)

-- the same for the steps that receipts are of, kept or rolled
unfoldable pub receipt_bytes : List Receipt → ℕ
receipt_bytes receipts = min (sum_by (λ r. bytes_of r.event) receipts) (2 ^ 64 - 1)
