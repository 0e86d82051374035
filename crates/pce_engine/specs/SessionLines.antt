-- The lines that speak for a peer: its session begins, takes bytes, or ends.
use Rattle.std.specs.Prelude.{ℕ, false, List, Option, Some, None, is_some, Result, Ok, Err, if◌then◌else◌}
use Rattle.engine_core.specs.Engine.{new_client}
use Rattle.engine_core.specs.declared.client.Client.{Client}
use Rattle.pce_engine.specs.Sessions.{session_of, kept, placed}
use Rattle.pce_engine.specs.Talks.{Talk, talked, hung, left_text, sent_out, router_opening}
use Rattle.script_lines.specs.LineAnswer.{LineAnswer, line_answer, ◌>>=◌}
use Rattle.script_lines.specs.declared.fault.CommandFault.{CommandFault}
use Rattle.script_lines.specs.declared.fault.CommandFault.TheVariants.{BadLine}
use Rattle.pce_engine.specs.declared.standing.Standing.{Standing}

-- the open session; without one the line is bad
abbrev pub live_or_bad : Option Client → Result Client CommandFault
live_or_bad None = Err BadLine
live_or_bad (Some c) = Ok c

-- after a line, the session of a peer goes on or has ended
abbrev pub after_talk : ℕ → Standing → LineAnswer Talk → LineAnswer Standing
after_talk peer s t = line_answer t.text (record s { database = t.after.database; sessions = kept peer t.after.client s.sessions })

-- `msg PEER HEX`
unfoldable pub message_line : ℕ → List ℕ → Standing → Result (LineAnswer Standing) CommandFault
message_line peer piece s = do
  c ← live_or_bad (session_of peer s.sessions)
  t ← talked peer piece s.moment_ms c s.database
  Ok (after_talk peer s t)

-- `end PEER`
unfoldable pub end_line : ℕ → Standing → Result (LineAnswer Standing) CommandFault
end_line peer s = do
  c ← live_or_bad (session_of peer s.sessions)
  t ← hung peer c s.database
  Ok (after_talk peer s t)

-- a new session, which sends its Open
abbrev pub with_new : ℕ → Standing → Client → LineAnswer Standing
with_new peer s c = line_answer (left_text peer false c) (record s { sessions = placed peer (sent_out c) s.sessions })

-- `open PEER`
unfoldable pub open_line : ℕ → Standing → Result (LineAnswer Standing) CommandFault
open_line peer s = if is_some (session_of peer s.sessions) then Err BadLine else Ok (with_new peer s (new_client s.moment_ms))

-- a new session after its first bytes
abbrev pub after_first : ℕ → Standing → LineAnswer Talk → LineAnswer Standing
after_first peer s t = line_answer t.text (record s { database = t.after.database; sessions = placed peer t.after.client s.sessions })

-- `up PEER`
unfoldable pub up_line : ℕ → Standing → Result (LineAnswer Standing) CommandFault
up_line peer s =
    if is_some (session_of peer s.sessions) then Err BadLine else talked peer router_opening s.moment_ms (new_client s.moment_ms) s.database >>= λ t. Ok (after_first peer s t)
