-- How often a session gives something before it waits.
use Rattle.std.specs.Prelude.{◌≡◌, ℕ, zero, suc, ◌+◌, ◌≤◌, Bool, true, false, length, None, is_some, if◌then◌else◌}
use Rattle.pcep_session.specs.Turns.{due_in, next}
use Rattle.pcep_session.specs.Runs.{Call, Feed, Tick, after_call, inputs_of}
use Rattle.pcep_session.specs.declared.contents.Contents.{Contents}
use Rattle.pcep_session.specs.declared.table.State.{State}
use Rattle.pcep_session.specs.declared.table.State.TheVariants.{Closed}

-- how many turns at most give something until more bytes or a later moment come: each handles a message of at least one
-- byte, except for a Keepalive that is due and a Down
abbrev pub most_turns : Contents → ℕ
most_turns c = length c.bytes + 2

-- the session after n turns
abbrev pub after_turns : ℕ → Contents → Contents
after_turns zero c = c
after_turns (suc n) c = after_turns n (next c).after

-- After `most_turns` turns nothing is left to handle.
abbrev pub TurnsEnd : Type 0
TurnsEnd = (c : Contents) → (next (after_turns (most_turns c) c)).input ≡ None

-- How many turns are left at most: one for each byte, one for a timer that is due, and one for the Down that a session
-- may still come to.
abbrev pub turns_left_in : State → Contents → ℕ
turns_left_in Closed c = if c.down_pending then 1 else 0
turns_left_in state c = length c.bytes + (if is_some (due_in c) then 2 else 1)

abbrev pub turns_left : Contents → ℕ
turns_left c = turns_left_in c.state c

-- the call brings more bytes or a later moment
abbrev pub brings_more : Call → Bool
brings_more (Feed piece now_ms) = true
brings_more (Tick now_ms) = true
brings_more call = false

-- Each input that `next` gives uses up one of the turns that are left. Of the other calls only `feed` and `tick` add
-- turns.
abbrev pub TurnsRunOut : Type 0
TurnsRunOut =
    (c : Contents) → (turns_left c ≤ most_turns c)
    × ((call : Call) → brings_more call ≡ false → turns_left (after_call call c) + length (inputs_of call c) ≤ turns_left c)
