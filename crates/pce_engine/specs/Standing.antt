-- A script after its link text: the database, the open sessions, and the moment.
use Rattle.std.specs.Prelude.{◌≡◌, ℕ, Bool, true, false, List, [], Option, Some, None, Result, Ok, Err, if◌then◌else◌}
use Rattle.std.specs.Map.{keys_of}
use Rattle.history_core.specs.Histories.{Content, nothing_happened}
use Rattle.te_base.specs.Ted.{Ted}
use Rattle.step_core.specs.declared.event.Event.{Event}
use Rattle.step_core.specs.declared.event.Event.TheVariants.{Commit, Return, Delete}
use Rattle.step_core.specs.declared.event.Event.TheVariants as event
use Rattle.step_core.specs.Steps.{step}
use Rattle.script_lines.specs.Orders.{order_of}
use Rattle.pce_engine.specs.SessionLines.{message_line, end_line, open_line, up_line}
use Rattle.script_lines.specs.Submits.{report_line, event_line}
use Rattle.script_lines.specs.Rolls.{roll_line}
use Rattle.step_core.specs.Searches.{MayAnswerTo}
use Rattle.script_lines.specs.Takes.{take_line}
use Rattle.script_lines.specs.Book.{book_text}
use Rattle.script_lines.specs.Texts.{history_text}
use Rattle.script_lines.specs.LineAnswer.{LineAnswer, line_answer, ◌>>=◌, behind, each, Fails}
use Rattle.script_lines.specs.declared.fault.CommandFault.{CommandFault}
use Rattle.script_lines.specs.declared.fault.CommandFault.TheVariants.{BadLine}
use Rattle.script_lines.specs.declared.orders.Order.{Order}
use Rattle.script_lines.specs.declared.orders.Order.TheVariants.{Report, Book, History, Open, Up, Bytes, End, Tick, Submit, Take, Roll}
use Rattle.pce_engine.specs.declared.standing.Standing.{Standing}

-- the link text has ended; there are no sessions yet
abbrev pub at_start : Ted → Standing
at_start te = record { database = nothing_happened te; sessions = []; moment_ms = 0 }

-- a line that changes only the database
abbrev pub with_database : Standing → LineAnswer Content → LineAnswer Standing
with_database s t = line_answer t.text (record s { database = t.after })

-- the sessions of these peers are served with no bytes, in turn
abbrev pub served_in_turn : List ℕ → Standing → Result (LineAnswer Standing) CommandFault
served_in_turn peers s = each (λ peer. message_line peer []) peers s

-- every open session is served, in rising order of their peers
unfoldable pub all_served : Standing → Result (LineAnswer Standing) CommandFault
all_served s = served_in_turn (keys_of s.sessions) s

-- `tick MS`: the moment is set, and every session is served with no bytes
unfoldable pub tick_line : ℕ → Standing → Result (LineAnswer Standing) CommandFault
tick_line now_ms s = all_served (record s { moment_ms = now_ms })

-- an operator's event after which messages may wait to be sent
abbrev pub may_queue : Event → Bool
may_queue (Commit ticket offer) = true
may_queue (Return peer plsp) = true
may_queue (Delete peer plsp) = true
may_queue event = false

-- after such an event every session is served, and what that prints follows
abbrev pub served_if : Bool → LineAnswer Standing → Result (LineAnswer Standing) CommandFault
served_if queues t = if queues then behind t.text (all_served t.after) else Ok t

-- an operator's line
unfoldable pub operator_line : Event → Standing → Result (LineAnswer Standing) CommandFault
operator_line event s = event_line event s.database >>= λ t. served_if (may_queue event) (with_database s t)

-- what a line prints, and the script after it, if its search answers this
unfoldable pub obeyed : Option (List ℕ) → Order → Standing → Result (LineAnswer Standing) CommandFault
obeyed answer (Report peer reports) s = report_line s.database peer reports >>= λ t. Ok (with_database s t)
obeyed answer Book s = Ok (line_answer (book_text s.database.state) s)
obeyed answer History s = Ok (line_answer (history_text s.database) s)
obeyed answer (Open peer) s = open_line peer s
obeyed answer (Up peer) s = up_line peer s
obeyed answer (Bytes peer piece) s = message_line peer piece s
obeyed answer (End peer) s = end_line peer s
obeyed answer (Tick now_ms) s = tick_line now_ms s
obeyed answer (Submit event) s = operator_line event s
obeyed answer Take s = take_line answer s.database >>= λ t. Ok (with_database s t)
obeyed answer Roll s = roll_line s.database >>= λ t. Ok (with_database s t)

abbrev pub ordered : Option (List ℕ) → Standing → Option Order → Result (LineAnswer Standing) CommandFault
ordered answer s None = Err BadLine
ordered answer s (Some order) = obeyed answer order s

unfoldable pub standing_line : Option (List ℕ) → Standing → List ℕ → Result (LineAnswer Standing) CommandFault
standing_line answer s line = ordered answer s (order_of line)

-- the search of an order may answer this: only `take` makes one
abbrev pub MaySearch : Option (List ℕ) → Standing → Option Order → Type 0
MaySearch answer s (Some Take) = MayAnswerTo (step s.database.state event.Take).reply answer
MaySearch answer s order = Unit {0}

-- what a call answers and leaves, for some answer that the search may give; a fault comes before the search
abbrev pub AnswersSearched : {X : Type 0} → (X → List ℕ) → Result X CommandFault → Option Order → (Option (List ℕ) → Result (LineAnswer Standing) CommandFault) → Standing → Standing → Type 0
AnswersSearched view (Ok x) order line old new = (answer : Option (List ℕ)) × MaySearch answer old order × (line answer ≡ Ok (line_answer (view x) new))
AnswersSearched view (Err fault) order line old new = Fails fault (line None)
