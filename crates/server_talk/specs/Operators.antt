-- An operator's lines to a running server: what each line leads to, and what all lead to together.
use Rattle.std.specs.Prelude.{◌≡◌, ℕ, ◌+◌, ◌-◌, ◌^◌, min, ℤ, Bool, true, false, List, [], ◌∷◌, ◌++◌, length, codes, All, ⊤, Option, Some, None, IsSome, Result, Ok, Err}
use Rattle.std.specs.Fmt.{decimal}
use Rattle.std.specs.Io.KnownBytes.{Consumes, IsAtEnd}
use Rattle.std.specs.declared.io.ErrorKind.{ErrorKind}
use Rattle.std.specs.declared.io.ErrorKind.TheVariants.{Interrupted, WouldBlock, TimedOut}
use Rattle.te_base.specs.Values.{Values}
use Rattle.te_base.specs.declared.fault.TeFault.{TeFault}
use Rattle.te_base.specs.declared.fault.TeFault.TheVariants as te
use Rattle.te_base.specs.Faults.{fault_number}
use Rattle.step_core.specs.declared.event.Event.{Event}
use Rattle.step_core.specs.declared.event.Event.TheVariants as event
use Rattle.link_reload.specs.declared.entry.LinkReload.{LinkReload}
use Rattle.step_core.specs.declared.event.Reply.{Reply}
use Rattle.history_core.specs.Faults.{fault_text}
use Rattle.history_core.specs.declared.fault.Fault.TheVariants.{OutOfMemory, HistoryFull}
use Rattle.engine_core.specs.Calls.{called}
use Rattle.engine_core.specs.Deeds.{Deed}
use Rattle.engine_core.specs.Deeds as deeds
use Rattle.script_lines.specs.Book.{table_text}
use Rattle.script_lines.specs.declared.views.ViewLine.{ViewLine}
use Rattle.script_lines.specs.Lines.{cut}
use Rattle.script_lines.specs.Texts.{reply_text}
use Rattle.server_talk.specs.declared.operator.OperatorEnd.{OperatorEnd}
use Rattle.server_talk.specs.declared.operator.OperatorEnd.TheVariants.{InputEnded, EndAsked, RunEnding, ReadFault, WriteFault, FlushFault}
use Rattle.server_talk.specs.declared.plan.PlanFault.{PlanFault}
use Rattle.server_talk.specs.declared.plan.PlanFault.TheVariants.{Device, Te}
use Rattle.server_talk.specs.declared.requests.Request.TheVariants.{Book, Check, End, Reload, Submit, View}
use Rattle.server_talk.specs.Goings.{Goes}
use Rattle.server_talk.specs.Servers.{Server}
use Rattle.server_talk.specs.ReloadChecks.{check_text}
use Rattle.server_talk.specs.Naming.{StandsFor, is_named}
use Rattle.server_talk.specs.Notes.{IsNote, note_text}
use Rattle.server_talk.specs.Requests.{asks_reading, asks_step, explained_in, is_operators, request_of}
use Rattle.server_talk.specs.Connections.{TakesAll}

-- the answer to a bad line, by its number
abbrev pub bad_line : ℕ → List ℕ
bad_line number = codes "bad line " ++ (decimal number ++ codes "\n")

-- the fault of a link text
abbrev pub te_line : TeFault → List ℕ
te_line te.OutOfMemory = codes "out of memory\n"
te_line fault = codes "te fault " ++ (decimal (fault_number fault) ++ codes "\n")

-- why a link text gave no values
abbrev pub unread_line : PlanFault → List ℕ
unread_line Device = codes "device fault\n"
unread_line (Te fault) = te_line fault

-- the number of the line after these, from 1 on; it stops at the greatest of 64 bits
abbrev pub number_behind : List (List ℕ) → ℕ
number_behind lines = min (length lines + 1) (2 ^ 64 - 1)

-- an operator's event is submitted; an operator shows nothing
abbrev pub IsOperators : Deed → Type 0
IsOperators (deeds.Called call) = is_operators call.event ≡ true
IsOperators (deeds.Shown sight) = ⊥

abbrev pub AreOperators : List Deed → Type 0
AreOperators made = All IsOperators made

-- ---- what a line leads to

-- The line with this number leads from `old` to these deeds, to these bytes as its answer, and to a store.
pub data IsAnswered {S : Type 0} (server : Server S) (number : ℕ) (line : List ℕ) (old : S) : List Deed → List ℕ → S → Type 0 where
  -- it asks for an event: the event is submitted once, and the answer is the text of its reply
  Obeyed : (of : Event) (reply : Reply) (new : S) → request_of line ≡ Some (Submit of) → server.ways.moves old (called of reply ∷ []) new
      → IsAnswered server number line old (called of reply ∷ []) (reply_text reply ++ codes "\n") new
  -- it asks for the book: the answer is what is left of each link
  Shown : (table : List (List ℤ)) (new : S) → request_of line ≡ Some Book → server.ways.moves old [] new → server.is_left new table → IsAnswered server number line old [] (table_text 0 table) new
  -- it asks for a reload: the values that the link text gives are submitted once, or the answer is why there are none
  Reloaded : (links : List LinkReload) (reply : Reply) (new : S) → request_of line ≡ Some Reload → server.reads (Ok links) → server.ways.moves old (called (event.Reload links) reply ∷ []) new
      → IsAnswered server number line old (called (event.Reload links) reply ∷ []) (reply_text reply ++ codes "\n") new
  Unread : (fault : PlanFault) → asks_reading (request_of line) ≡ true → server.reads (Err fault) → IsAnswered server number line old [] (unread_line fault) old
  -- it asks what a reload would change: the answer is that for the values that the link text gives, and nothing is done
  Checked : (links : List LinkReload) (values : List Values) (left : List (List ℤ)) (new : S) → request_of line ≡ Some Check → server.reads (Ok links) → server.ways.moves old [] new → server.has_links new values left
      → IsAnswered server number line old [] (check_text values left links) new
  -- it asks to see something: that is the answer, and nothing is done
  Viewed : (view : ViewLine) (text : List ℕ) (new : S) → request_of line ≡ Some (View view) → server.ways.moves old [] new → server.shows old view text new → IsAnswered server number line old [] text new
  -- it asks for nothing: nothing is done
  Refused : request_of line ≡ None → IsAnswered server number line old [] (bad_line number) old
  -- it asks for something, and memory runs out
  Starved : (new : S) → IsSome (request_of line) → server.ways.moves old [] new → IsAnswered server number line old [] (fault_text OutOfMemory ++ codes "\n") new
  -- it asks for an event, and the history is full even after it was rolled
  StillFull : (steps : ℕ) (a b new : S) → asks_step (request_of line) ≡ true → server.ways.moves old [] a → server.ways.is_full a → server.ways.rolls a steps b → server.ways.moves b [] new → server.ways.is_full new
      → IsAnswered server number line old [] (fault_text HistoryFull ++ codes "\n") new

-- An operator's lines from `start` on, heard so far: the lines, the deeds that they led to and the bytes that were
-- said, each in order, and the store as it is now.
pub data Listens {S : Type 0} (server : Server S) (start : S) : List (List ℕ) → List Deed → List ℕ → S → Type 0 where
  Begins : Listens server start [] [] [] start
  -- one more line: the one that it stands for is answered, and what the answer means may follow
  Hears : (lines : List (List ℕ)) (calls made : List Deed) (said text line plain : List ℕ) (note : Option (List ℕ)) (named a b : S)
      → Listens server start lines calls said a → Goes server.ways named [] a → StandsFor server named line plain → IsAnswered server (number_behind lines) plain a made text b → IsNote note (explained_in line) text
      → Listens server start (lines ++ line ∷ []) (calls ++ made) (said ++ (text ++ note_text note)) b
  -- one more line, which has names, and memory runs out for what they stand for
  Lacks : (lines : List (List ℕ)) (calls : List Deed) (said line : List ℕ) (note : Option (List ℕ)) (a b : S)
      → Listens server start lines calls said a → is_named line ≡ true → server.ways.moves a [] b → IsNote note (explained_in line) (fault_text OutOfMemory ++ codes "\n")
      → Listens server start (lines ++ line ∷ []) calls (said ++ ((fault_text OutOfMemory ++ codes "\n") ++ note_text note)) b
  -- in between, the store goes on without a call: its list is emptied, or its history rolled
  Waits : (lines : List (List ℕ)) (calls : List Deed) (said : List ℕ) (a b : S)
      → Listens server start lines calls said a → Goes server.ways a [] b → Listens server start lines calls said b

-- ---- how it ends

-- a read that gave nothing and may be repeated
abbrev pub is_quiet : ErrorKind → Bool
is_quiet Interrupted = true
is_quiet WouldBlock = true
is_quiet TimedOut = true
is_quiet kind = false

-- A failed read ends it, unless the read may be repeated; in that case the run may be closing.
abbrev pub FailsAs : Option OperatorEnd → ErrorKind → Type 0 → Type 0
FailsAs None kind may_close = is_quiet kind ≡ true
FailsAs (Some ReadFault) kind may_close = is_quiet kind ≡ false
FailsAs (Some RunEnding) kind may_close = may_close
FailsAs (Some end) kind may_close = ⊥

-- the writer took all that was said
abbrev pub is_out : OperatorEnd → Bool
is_out WriteFault = false
is_out end = true

-- Why no more is heard of what was read after the answered lines: the reader has no more, and there is no whole line;
-- the first line there asks for the end; or the run may be closing.
abbrev pub IsOver : OperatorEnd → Type 0 → Option (List ℕ) → List ℕ → Type 0
IsOver InputEnded may_close left rest = IsAtEnd left × ((cut rest).0 ≡ [])
IsOver EndAsked may_close left rest = (line : List ℕ) × (request_of line ≡ Some End) × (more : List ℕ) × (rest ≡ line ++ 10 ∷ more)
IsOver RunEnding may_close left rest = may_close
IsOver ReadFault may_close left rest = ⊤
IsOver WriteFault may_close left rest = ⊤
IsOver FlushFault may_close left rest = ⊤

-- An operator from `start` on, until nothing more is heard. It gives the known bytes of the reader and of the writer,
-- at the start and now. The lines of `front` were answered, each ended by a line break; a line without one does
-- nothing. What was said to them went out, or a part of it if the writer failed.
pub record Operated {S : Type 0} (server : Server S) (start : S) (unread blank : Option (List ℕ)) (end : OperatorEnd) (may_close : Type 0) (now : S) (left written : Option (List ℕ)) : Type 0 where
  pub front : List ℕ
  pub rest : List ℕ
  pub calls : List Deed
  pub said : List ℕ
  pub read : Consumes unread left (front ++ rest)
  pub whole : (cut front).1 ≡ []
  pub listens : Listens server start (cut front).0 calls said now
  pub out : TakesAll (is_out end) blank written said
  pub over : IsOver end may_close left rest

-- How a call ends: in this way, or because memory ran out before anything was done.
abbrev pub EndsAs : {E : Type 0} → Result OperatorEnd E → (OperatorEnd → Type 0) → Type 0 → Type 0
EndsAs (Ok end) operated undone = operated end
EndsAs (Err fault) operated undone = undone
