-- A session in one line: what the engine does with it, and what is printed about it.
use Rattle.std.specs.Prelude.{ℕ, Bool, List, [], ◌∷◌, ◌++◌, codes, Result, Ok, Err, if◌then◌else◌}
use Rattle.std.specs.Fmt.{decimal}
use Rattle.hex.specs.Hex.{encode_lower}
use Rattle.pcep_session.specs.Calls.{own_open, output_taken}
use Rattle.pcep_session.specs.Turns.{is_up}
use Rattle.pcep_session.specs.declared.table.State.{State}
use Rattle.pcep_session.specs.declared.table.State.TheVariants.{Up, Closed}
use Rattle.history_core.specs.Histories.{Content}
use Rattle.history_core.specs.declared.fault.Fault.{Fault}
use Rattle.engine_core.specs.Engine.{served, hung_up}
use Rattle.engine_core.specs.Performed.{performed}
use Rattle.engine_core.specs.declared.client.Client.{Client}
use Rattle.script_lines.specs.LineAnswer.{LineAnswer, line_answer, ◌>>=◌}
use Rattle.script_lines.specs.declared.fault.CommandFault.{CommandFault}
use Rattle.script_lines.specs.declared.fault.CommandFault.TheVariants.{Store}

-- ---- what is printed

-- the text of bytes that are to be sent, if there are any
abbrev pub output_text : ℕ → List ℕ → List ℕ
output_text peer [] = []
output_text peer (b ∷ bs) = codes "out " ++ decimal peer ++ codes " " ++ encode_lower (b ∷ bs) ++ codes "\n"

-- the text for a session that has ended, or has come up
abbrev pub change_text : ℕ → Bool → State → List ℕ
change_text peer was_up Closed = codes "down " ++ decimal peer ++ codes "\n"
change_text peer was_up Up = if was_up then [] else codes "up " ++ decimal peer ++ codes "\n"
change_text peer was_up state = []

-- what a session leaves to be printed
abbrev pub left_text : ℕ → Bool → Client → List ℕ
left_text peer was_up c = output_text peer c.session.output ++ change_text peer was_up c.session.state

-- the session after its bytes were sent
abbrev pub sent_out : Client → Client
sent_out c = record c { session = output_taken c.session }

-- ---- what is done

-- a session and the database
pub record Talk : Type 0 where
  pub client : Client
  pub database : Content

abbrev pub talk : Client → Content → Talk
talk client database = record { client = client; database = database }

abbrev pub talk_of : Result (Client × Content) Fault → Result Talk CommandFault
talk_of (Ok done) = Ok (talk done.0 done.1)
talk_of (Err fault) = Err (Store fault)

-- what is printed of a session, and the session after its bytes were sent
abbrev pub talk_answer : ℕ → Bool → Talk → LineAnswer Talk
talk_answer peer was_up done = line_answer (left_text peer was_up done.client) (talk (sent_out done.client) done.database)

-- bytes of the peer come at a moment
unfoldable pub talked : ℕ → List ℕ → ℕ → Client → Content → Result (LineAnswer Talk) CommandFault
talked peer piece now_ms c d = do
  done ← talk_of (performed (served peer piece now_ms c) d)
  Ok (talk_answer peer (is_up c.session.state) done)

-- the transport of the peer has ended
unfoldable pub hung : ℕ → Client → Content → Result (LineAnswer Talk) CommandFault
hung peer c d = do
  done ← talk_of (performed (hung_up peer c) d)
  Ok (talk_answer peer (is_up c.session.state) done)

-- what a router sends to open a session as this server does, and to accept this server's Open: an Open and a Keepalive
abbrev pub router_opening : List ℕ
router_opening = own_open ++ 0x20 ∷ 2 ∷ 0 ∷ 4 ∷ []
