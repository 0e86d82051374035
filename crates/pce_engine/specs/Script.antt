-- What a script prints: a link text, a line `---`, and lines.
use Rattle.std.specs.Prelude.{ℕ, ◌+◌, List, [], ◌∷◌, ◌++◌, length, codes, Option, Some, None, Result, Ok, Err, IfOk, if◌then◌else◌}
use Rattle.std.specs.Str.{bytes_eq, is_utf8}
use Rattle.te_base.specs.declared.fault.TeFault.{TeFault}
use Rattle.te_base.specs.declared.fault.TeFault.TheVariants.{NotToml}
use Rattle.te_base.specs.Ted.{Ted}
use Rattle.te_base.specs.LinkText.{base_of}
use Rattle.pce_engine.specs.Faults.{numbered, te_numbered}
use Rattle.pce_engine.specs.Standing.{at_start, standing_line, MaySearch}
use Rattle.script_lines.specs.Lines.{cut, lines_of}
use Rattle.script_lines.specs.Orders.{order_of}
use Rattle.script_lines.specs.declared.fault.CommandFault.{CommandFault}
use Rattle.pce_engine.specs.declared.standing.Standing.{Standing}
use Rattle.pce_engine.specs.declared.fault.ScriptFault.{ScriptFault}
use Rattle.pce_engine.specs.declared.fault.ScriptFault.TheVariants.{BadLine}
use Rattle.script_lines.specs.LineAnswer.{LineAnswer, line_answer, ◌>>=◌}

-- ---- one line

-- the number of the next line, the link text so far, and, once the link text has ended, the database and sessions
pub record Stage : Type 0 where
  pub number : ℕ
  pub header : List ℕ
  pub standing : Option Standing

abbrev pub start : Stage
start = record { number = 1; header = []; standing = None }

-- a link text that isn't UTF-8 isn't TOML
unfoldable pub base_in : List ℕ → Result Ted TeFault
base_in text = if is_utf8 text then base_of text else Err NotToml

-- `---` ends the link text; any other line belongs to it
unfoldable pub header_line : Stage → List ℕ → Result (LineAnswer Stage) TeFault
header_line s line =
    if bytes_eq line (codes "---") then (base_in s.header >>= λ base. Ok (line_answer [] (record s { standing = Some (at_start base) })))
    else Ok (line_answer [] (record s { header = (s.header ++ line) ++ 10 ∷ [] }))

-- the result of a line of the link text; its fault gets the line's number
abbrev pub numbered_header : Stage → Result (LineAnswer Stage) TeFault → Result (LineAnswer Stage) ScriptFault
numbered_header s (Ok t) = Ok t
numbered_header s (Err fault) = Err (te_numbered s.number fault)

-- the result of a line after the link text; its fault gets the line's number
abbrev pub numbered_line : Stage → Result (LineAnswer Standing) CommandFault → Result (LineAnswer Stage) ScriptFault
numbered_line s (Ok t) = Ok (line_answer t.text (record s { standing = Some t.after }))
numbered_line s (Err fault) = Err (numbered s.number fault)

abbrev pub answered_at : Option (List ℕ) → Stage → List ℕ → Option Standing → Result (LineAnswer Stage) ScriptFault
answered_at answer s line None = numbered_header s (header_line s line)
answered_at answer s line (Some standing) = numbered_line s (standing_line answer standing line)

-- what the line of the stage's number prints, and what it leaves, if its search answers this
unfoldable pub answered : Option (List ℕ) → Stage → List ℕ → Result (LineAnswer Stage) ScriptFault
answered answer s line = answered_at answer s line s.standing

-- the line after the one with this number is the next
abbrev pub counted : ℕ → Stage → Stage
counted number s = record s { number = number + 1 }

-- what a line prints, and the stage after it, or its fault
unfoldable pub answer_of_line : Option (List ℕ) → Stage → List ℕ → Result (LineAnswer Stage) ScriptFault
answer_of_line answer s line = answered answer s line >>= λ t. Ok (line_answer t.text (counted s.number t.after))

-- the search of a line may answer this; a line of the link text makes none
abbrev pub MayFind : Option (List ℕ) → Option Standing → List ℕ → Type 0
MayFind answer None line = Unit {0}
MayFind answer (Some standing) line = MaySearch answer standing (order_of line)

-- ---- the whole script

-- what the search of each line answers, by the line's number: the links of a path, or None if there is none
abbrev pub Searches : Type 0
Searches = ℕ → Option (List ℕ)

-- what is written, and the fault that ends it
pub record Outcome : Type 0 where
  pub text : List ℕ
  pub fault : Option ScriptFault

-- a script without `---` has a bad line, one past the last
abbrev pub ending : ℕ → Option Standing → Option ScriptFault
ending number None = Some (BadLine number)
ending number (Some standing) = None

-- goes on after a line, adding its text to what was written before it
abbrev pub on_line_answer : List ℕ → Result (LineAnswer Stage) ScriptFault → (List ℕ → Stage → Outcome) → Outcome
on_line_answer text (Ok t) go = go (text ++ t.text) t.after
on_line_answer text (Err fault) go = record { text = text; fault = Some fault }

abbrev pub printed : Searches → List (List ℕ) → List ℕ → Stage → Outcome
printed answers [] text s = record { text = text; fault = ending s.number s.standing }
printed answers (line ∷ lines) text s = on_line_answer text (answer_of_line (answers s.number) s line) (printed answers lines)

-- what a script prints, and how it ends, if the searches of its lines answer this
abbrev pub script : Searches → List ℕ → Outcome
script answers bytes = printed answers (lines_of bytes) [] start

-- what the whole lines of the bytes print
abbrev pub text_of_lines : Searches → List ℕ → List ℕ
text_of_lines answers bytes = (printed answers (cut bytes).0 [] start).text

-- each search of these lines may answer this, from this stage on; a line that meets a fault searches for nothing
abbrev pub Allowed : Searches → List (List ℕ) → Stage → Type 0
Allowed answers [] s = Unit {0}
Allowed answers (line ∷ lines) s = IfOk (answer_of_line (answers s.number) s line) (λ t. MayFind (answers s.number) s.standing line × Allowed answers lines t.after)

-- the number of the line that follows the whole lines of the bytes
abbrev pub next_number : List ℕ → ℕ
next_number bytes = length (cut bytes).0 + 1
