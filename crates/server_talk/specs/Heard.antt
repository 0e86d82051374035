-- What a turn's read gives.
use Rattle.std.specs.Prelude.{◌≡◌, ℕ, ◌≤◌, ◌-◌, min, Bool, ◌||◌, List, [], length, take, ⊤, Option, None, Some}
use Rattle.std.specs.declared.io.ErrorKind.{ErrorKind}
use Rattle.std.specs.declared.io.ErrorKind.TheVariants.{WouldBlock, TimedOut, Interrupted}
use Rattle.std.specs.Io.KnownBytes.{Consumes, Keeps, IsAtEnd}
use Rattle.pcep_session.specs.Timers.{is_due_at, IsNextDue}
use Rattle.pcep_session.specs.declared.contents.Contents.{Contents}
use Rattle.server_talk.specs.declared.talk.Heard.{Heard}
use Rattle.server_talk.specs.declared.talk.Heard.TheVariants.{Bytes, Nothing, Ended}
use Rattle.server_talk.specs.declared.talk.Ended.TheVariants.{PeerClosed, ReadFault}

-- at most as many bytes as the buffer has room for
abbrev pub IsWithin : Heard → List ℕ → Type 0
IsWithin (Bytes count) buffer = count ≤ length buffer
IsWithin Nothing buffer = ⊤
IsWithin (Ended end) buffer = ⊤

-- the bytes at the front of the buffer are those that the reader gave; if the peer closed, the reader has no more
abbrev pub Hears : Heard → Option (List ℕ) → Option (List ℕ) → List ℕ → Type 0
Hears (Bytes count) old new buffer = Consumes old new (take count buffer)
Hears Nothing old new buffer = Keeps old new
Hears (Ended PeerClosed) old new buffer = Consumes old new [] × IsAtEnd new
Hears (Ended ReadFault) old new buffer = Keeps old new
Hears (Ended end) old new buffer = ⊥

-- the longest wait, in milliseconds
abbrev pub longest_wait_ms : ℕ
longest_wait_ms = 10000

-- how long to wait for bytes: until the session's next timer is due, but no longer than the longest wait
abbrev pub wait_until : Option ℕ → ℕ → ℕ
wait_until None now_ms = longest_wait_ms
wait_until (Some due_ms) now_ms = min (due_ms - now_ms) longest_wait_ms

-- the reader waits until the session's next timer is due, judged at a moment that is shown, and no longer
abbrev pub WaitsUntilDue : (ℕ → Type 0) → (ℕ → Type 0) → Contents → Type 0
WaitsUntilDue may_wait may_show c = (next : Option ℕ) × (now_ms : ℕ) × IsNextDue next c × may_show now_ms × may_wait (wait_until next now_ms)

-- a read that failed because there were no bytes, or that was interrupted, is tried again
abbrev pub heard_of_fault : ErrorKind → Heard
heard_of_fault WouldBlock = Nothing
heard_of_fault TimedOut = Nothing
heard_of_fault Interrupted = Nothing
heard_of_fault kind = Ended ReadFault

-- a write that was interrupted took nothing; None: it failed
abbrev pub taken_of_fault : ErrorKind → Option ℕ
taken_of_fault Interrupted = Some 0
taken_of_fault kind = None

-- A session is served without bytes if messages are said to wait for its peer, or if a timer is due at a moment that is
-- shown.
abbrev pub IsDue : (Bool → Type 0) → (ℕ → Type 0) → Contents → Bool → Type 0
IsDue queues may_show c due = (is_queued : Bool) × (now_ms : ℕ) × queues is_queued × may_show now_ms × (due ≡ (is_queued || is_due_at now_ms c))
