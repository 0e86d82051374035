-- An operator's lines, step by step.
use Rattle.std.specs.Prelude.{◌≡◌, ℕ, ◌<◌, ◌≤◌, Bool, true, false, List, [], ◌∷◌, ◌++◌, length, codes, string_bytes, vec_capacity, Option, Some, None, Result, Ok, Err, ⊤}
use Rattle.std.specs.Io.KnownBytes.{Appends, Consumes}
use Rattle.history_core.specs.Faults.{fault_text}
use Rattle.history_core.specs.declared.fault.Fault.TheVariants.{HistoryFull}
use Rattle.engine_core.specs.Deeds.{Deed}
use Rattle.script_lines.specs.Lines.{cut}
use Rattle.script_lines.specs.declared.fault.CommandFault.{CommandFault}
use Rattle.script_lines.specs.declared.fault.CommandFault.TheVariants.{BadLine, Store}
use Rattle.server_talk.specs.declared.commands.Answer.{Answer}
use Rattle.server_talk.specs.declared.commands.Answer.TheVariants as answers
use Rattle.server_talk.specs.declared.operator.OperatorEnd.{OperatorEnd}
use Rattle.server_talk.specs.declared.operator.OperatorEnd.TheVariants.{EndAsked, WriteFault, FlushFault}
use Rattle.server_talk.specs.declared.pending.OpenLine.{OpenLine}
use Rattle.server_talk.specs.declared.requests.Request.{Request}
use Rattle.server_talk.specs.declared.requests.Request.TheVariants.{End}
use Rattle.server_talk.specs.Servers.{Server}
use Rattle.server_talk.specs.Operators.{IsAnswered, Listens, Operated, bad_line, is_out, number_behind, unread_line}
use Rattle.server_talk.specs.Notes.{IsNote, note_text}
use Rattle.server_talk.specs.Requests.{asks_step, explained_in, line_limit, request_of}
use Rattle.server_talk.specs.Connections.{TakesAll, TakesPart}

-- ---- a line that has ended

-- what is kept of a line: its bytes, or that there are too many of them
abbrev pub AreKept : Bool → List ℕ → List ℕ → Type 0
AreKept false bytes line = (bytes ≡ line) × (length line ≤ line_limit)
AreKept true bytes line = line_limit < length line

-- the line is kept, and there is room for as many bytes as a line may have
pub record IsKept (pending : OpenLine) (line : List ℕ) : Type 0 where
  pub room : line_limit ≤ vec_capacity pending.bytes
  pub kept : AreKept pending.is_long pending.bytes.items line

-- what the line asks for; only a line that asks for something can run out of memory
abbrev pub Asks : {E : Type 0} → Result (Option Request) E → Option Request → Type 0
Asks (Ok request) asked = request ≡ asked
Asks (Err fault) None = ⊥
Asks (Err fault) (Some request) = ⊤

-- what is written as the answer to the line with this number
abbrev pub said_of : ℕ → Result Answer CommandFault → List ℕ
said_of number (Ok (answers.Reply text)) = string_bytes text ++ codes "\n"
said_of number (Ok (answers.Table text)) = string_bytes text
said_of number (Ok (answers.Viewed text)) = text.items
said_of number (Ok (answers.Unread fault)) = unread_line fault
said_of number (Ok answers.End) = []
said_of number (Err BadLine) = bad_line number
said_of number (Err (Store fault)) = fault_text fault ++ codes "\n"

-- the first line of the rest asks for the end, or the writer failed
abbrev pub StopsAt : OperatorEnd → List ℕ → Type 0
StopsAt EndAsked rest = (line : List ℕ) × (request_of line ≡ Some End) × (more : List ℕ) × (rest ≡ line ++ 10 ∷ more)
StopsAt WriteFault rest = ⊤
StopsAt FlushFault rest = ⊤
StopsAt end rest = ⊥

-- What a writer took that should take these bytes and hand them on: all of them; a part; or all, but it failed to hand
-- them on.
abbrev pub HandsOn : Option OperatorEnd → Option (List ℕ) → Option (List ℕ) → List ℕ → Type 0
HandsOn None old new bytes = Appends old new bytes
HandsOn (Some WriteFault) old new bytes = TakesPart old new bytes
HandsOn (Some FlushFault) old new bytes = Appends old new bytes
HandsOn (Some end) old new bytes = ⊥

module _ {S : Type 0} (server : Server S) where
  -- What a line leads to at once: it is answered, it asks for the end, or a full history takes nothing.
  abbrev pub Comes : Result Answer CommandFault → ℕ → List ℕ → S → S → Type 0
  Comes (Ok answers.End) number line old new = (request_of line ≡ Some End) × (new ≡ old)
  Comes (Err (Store HistoryFull)) number line old new = (asks_step (request_of line) ≡ true) × server.ways.moves old [] new × server.ways.is_full new
  Comes answer number line old new = (calls : List Deed) × IsAnswered server number line old calls (said_of number answer) new

  -- these lines were answered so far, and this is what was said
  pub record Answered (start : S) (lines : List (List ℕ)) (said : List ℕ) (now : S) : Type 0 where
    pub calls : List Deed
    pub listens : Listens server start lines calls said now

  -- what was said went out, or some of it did
  pub record AnswersLines (start : S) (lines : List (List ℕ)) (blank : Option (List ℕ)) (goes_out : Bool) (now : S) (written : Option (List ℕ)) : Type 0 where
    pub said : List ℕ
    pub answered : Answered start lines said now
    pub out : TakesAll goes_out blank written said

  -- one more line is answered, whatever is said of what its answer means; or it asks for the end
  abbrev pub Answers : Result Answer CommandFault → S → List (List ℕ) → List ℕ → List ℕ → S → Type 0
  Answers (Ok answers.End) start lines said line now = (request_of line ≡ Some End) × Answered start lines said now
  Answers answer start lines said line now = (note : Option (List ℕ)) → IsNote note (explained_in line) (said_of (number_behind lines) answer)
      → Answered start (lines ++ line ∷ []) (said ++ (said_of (number_behind lines) answer ++ note_text note)) now

  -- the line was taken, and more may be heard, or not
  abbrev pub TakesLine : Option OperatorEnd → S → List (List ℕ) → Option (List ℕ) → List ℕ → S → Option (List ℕ) → Type 0
  TakesLine None start lines blank line now written = AnswersLines start (lines ++ line ∷ []) blank true now written
  TakesLine (Some EndAsked) start lines blank line now written = (request_of line ≡ Some End) × AnswersLines start lines blank true now written
  TakesLine (Some WriteFault) start lines blank line now written = AnswersLines start (lines ++ line ∷ []) blank false now written
  TakesLine (Some FlushFault) start lines blank line now written = AnswersLines start (lines ++ line ∷ []) blank true now written
  TakesLine (Some end) start lines blank line now written = ⊥

  -- ---- bytes

  -- All whole lines of the bytes that were heard are answered; what comes after the last line break is kept.
  pub record SoFar (start : S) (blank : Option (List ℕ)) (heard : List ℕ) (pending : OpenLine) (now : S) (written : Option (List ℕ)) : Type 0 where
    pub answers : AnswersLines start (cut heard).0 blank true now written
    pub kept : IsKept pending (cut heard).1
    pub number : pending.number ≡ number_behind (cut heard).0

  -- the lines of a front are answered, and the rest isn't looked at
  pub record Stopped (end : OperatorEnd) (start : S) (blank : Option (List ℕ)) (heard : List ℕ) (now : S) (written : Option (List ℕ)) : Type 0 where
    pub front : List ℕ
    pub rest : List ℕ
    pub whole : heard ≡ front ++ rest
    pub ended : (cut front).1 ≡ []
    pub answers : AnswersLines start (cut front).0 blank (is_out end) now written
    pub cause : StopsAt end rest

  -- more may be heard, or listening has stopped
  abbrev pub HearsOn : Option OperatorEnd → S → Option (List ℕ) → List ℕ → OpenLine → S → Option (List ℕ) → Type 0
  HearsOn None start blank heard pending now written = SoFar start blank heard pending now written
  HearsOn (Some end) start blank heard pending now written = Stopped end start blank heard now written

  -- What a turn leaves that began when all lines heard so far were answered.
  abbrev pub Turns : Option OperatorEnd → S → Option (List ℕ) → Option (List ℕ) → Type 0 → OpenLine → S → Option (List ℕ) → Option (List ℕ) → Type 0
  Turns None start unread blank may_close pending now left written = (heard : List ℕ) × Consumes unread left heard × SoFar start blank heard pending now written
  Turns (Some end) start unread blank may_close pending now left written = Operated server start unread blank end may_close now left written
