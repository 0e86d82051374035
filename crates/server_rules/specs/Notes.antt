-- What a connection notes about its session.
use Rattle.std.specs.Prelude.{◌+◌, min, true, false, List, [], ◌∷◌, Some, None}
use Rattle.server_rules.specs.declared.connection_notes.ConnectionNotes.{ConnectionNotes}
use Rattle.server_rules.specs.declared.connection_notes.SessionHappening.{SessionHappening}
use Rattle.server_rules.specs.declared.connection_notes.SessionHappening.TheVariants.{CameUp, Refused, WentDown, Paused, TurnEnded}

abbrev pub blank : ConnectionNotes
blank = record { up_ms = 0; refused = None; pauses = 0; is_up = false }

-- A session is up from its accepted Up until its Down. Pauses are counted up to 100, starting again in each turn.
abbrev pub after : SessionHappening → ConnectionNotes → ConnectionNotes
after (CameUp now_ms) n = record n { up_ms = now_ms; is_up = true }
after (Refused number) n = record n { refused = Some number }
after WentDown n = record n { is_up = false }
after Paused n = record n { pauses = min (n.pauses + 1) 100 }
after TurnEnded n = record n { pauses = 0 }

-- what is noted about a session, given all that happened, the latest first
abbrev pub notes_from : List SessionHappening → ConnectionNotes
notes_from [] = blank
notes_from (h ∷ past) = after h (notes_from past)
