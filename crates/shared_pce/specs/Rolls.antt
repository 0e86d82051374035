-- When a history is rolled.
use Rattle.std.specs.Prelude.{ℕ, Bool, ◌||◌, ◌&&◌, ◌+◌, ◌-◌, ◌*◌, ◌/◌, nat_le, length, max, min}
use Rattle.history_core.specs.Histories.{Content, steps_of}
use Rattle.history_seats.specs.Bytes.{kept_bytes}
use Rattle.shared_pce.specs.declared.due.RollAt.{RollAt}

-- this many steps are kept, or steps of this many bytes
abbrev pub is_due : RollAt → Content → Bool
is_due at d = nat_le at.steps (length d.history) || nat_le at.bytes (kept_bytes d)

-- when a roll waits for a journal no longer
abbrev pub late : RollAt → RollAt
late at = record { steps = min (at.steps + 40000) 18446744073709551615; bytes = min (at.bytes * 2) 18446744073709551615 }

-- A roll is due, and a journal of `written` steps has all of them. Or the history takes twice what it may: then the roll
-- waits no longer.
abbrev pub is_let_go : ℕ → RollAt → RollAt → Content → Bool
is_let_go written whole at d = is_due at d && (nat_le (steps_of d) written || is_due (late whole) d)

-- When a seat's own steps take a sixteenth of what the history may take, its thread rolls the history and folds the
-- seat. So it doesn't have to wait later for receipts that only it can drop.
abbrev pub of_seat : RollAt → RollAt
of_seat at = record { steps = 18446744073709551615; bytes = max (at.bytes / 16) 1048576 }

-- The limit at which a history is rolled earlier, given how many bytes the rolled steps take whose receipts seats
-- haven't folded. A history that is rolled at half of what it may take is then rolled when its kept steps take half of
-- what those leave. A roll drops only kept steps, so there is at least a megabyte of them.
abbrev pub beside : ℕ → RollAt → RollAt
beside unfolded at = record at { bytes = max (at.bytes - unfolded / 2) 1048576 }
