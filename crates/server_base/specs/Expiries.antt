-- What is noted about a peer: what its sessions' calls say, that a connection of it ended, and what was submitted for
-- it.
use Rattle.std.specs.Prelude.{◌≡◌, ℕ, Bool, true, false, List, [], ◌∷◌, Option, Some, None}
use Rattle.lsp_base.specs.Whys.{number_of}
use Rattle.step_core.specs.declared.event.Event.{Event}
use Rattle.step_core.specs.declared.event.Event.TheVariants as event
use Rattle.step_core.specs.declared.event.Reply.{Reply}
use Rattle.step_core.specs.declared.event.Reply.TheVariants as reply
use Rattle.engine_core.specs.Joining.{joined_after}
use Rattle.engine_core.specs.declared.store.Call.{Call}
use Rattle.server_rules.specs.declared.expiry.Due.{Due}
use Rattle.server_rules.specs.declared.expiry.Expiry.{Expiry}
use Rattle.server_rules.specs.declared.known.Happening.{Happening}
use Rattle.server_rules.specs.declared.known.Happening.TheVariants.{Up, Down, Owed, Submitted, Gone, Forgotten, Kept}
use Rattle.server_rules.specs.declared.known.Owing.{Owing}
use Rattle.server_rules.specs.declared.known.Owing.TheVariants as owing
use Rattle.server_rules.specs.Peers.{Knows}
use Rattle.server_base.specs.declared.expiry.Settled.{Settled}
use Rattle.server_base.specs.declared.expiry.Settled.TheVariants as settled
use Rattle.server_base.specs.declared.standing.Standing.{Standing}

-- What a session's call says happened to its peer by this moment: after an accepted Up a session of the peer came up,
-- after an accepted Down the session went down. That holds no matter who submits the Down, and how the session ended.
abbrev pub happened : Event → Reply → ℕ → Option (ℕ × Happening)
happened (event.Up peer capabilities) reply.Done now_ms = Some (peer, Up)
happened (event.Down peer) (reply.Refused why) now_ms = None
happened (event.Down peer) r now_ms = Some (peer, Down now_ms)
happened e r now_ms = None

abbrev pub past_with : Option (ℕ × Happening) → List (ℕ × Happening) → List (ℕ × Happening)
past_with None past = past
past_with (Some h) past = h ∷ past

-- what a call says has happened is noted, and nothing else is
abbrev pub NotesHappened : Option (ℕ × Happening) → Expiry → Expiry → Type 0
NotesHappened h old new = (past : List (ℕ × Happening)) → Knows old past → Knows new (past_with h past)

-- the value says whether a connection's session is up after these calls
abbrev pub Stands : Standing → List Call → Type 0
Stands standing calls = standing.is_joined ≡ joined_after false calls

-- if the session of a connection that ends is still up, its Down couldn't be submitted, and is owed
abbrev pub past_owed : Bool → ℕ → List (ℕ × Happening) → List (ℕ × Happening)
past_owed true peer past = (peer, Owed) ∷ past
past_owed false peer past = past

abbrev pub NotesOwed : Bool → ℕ → Expiry → Expiry → Type 0
NotesOwed joined peer old new = (past : List (ℕ × Happening)) → Knows old past → Knows new (past_owed joined peer past)

-- the owed Down is noted, and that the connection is gone
abbrev pub NotesGone : Bool → ℕ → Expiry → Expiry → Type 0
NotesGone joined peer old new = (past : List (ℕ × Happening)) → Knows old past → Knows new ((peer, Gone) ∷ past_owed joined peer past)

-- the end of a connection is noted; its session made these calls
abbrev pub NotesEnd : List Call → ℕ → Expiry → Expiry → Type 0
NotesEnd calls peer old new = NotesGone (joined_after false calls) peer old new

abbrev pub event_by : Owing → ℕ → Event
event_by owing.Down peer = event.Down peer
event_by owing.Expire peer = event.Expire peer

-- the event that is submitted for a peer for which something is due
abbrev pub event_of : Due → Event
event_of due = event_by due.what due.peer

-- what has happened after that event was submitted and got this reply, by this moment
abbrev pub happening_by : Owing → Reply → ℕ → Happening
happening_by owing.Down r now_ms = Submitted now_ms
happening_by owing.Expire (reply.Refused why) now_ms = Kept
happening_by owing.Expire r now_ms = Forgotten

abbrev pub happening_of : Due → Reply → ℕ → Happening
happening_of due r now_ms = happening_by due.what r now_ms

-- what is reported about it
abbrev pub settled_by : Owing → ℕ → Reply → Settled
settled_by owing.Down peer r = settled.WentDown peer
settled_by owing.Expire peer (reply.Refused why) = settled.Kept peer (number_of why)
settled_by owing.Expire peer r = settled.Forgotten peer

abbrev pub settled_of : Due → Reply → Settled
settled_of due r = settled_by due.what due.peer r
