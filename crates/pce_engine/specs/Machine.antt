-- What a script prints, byte by byte, as the reader's pieces come.
use Rattle.std.specs.Prelude.{◌≡◌, ℕ, ◌==◌, List, [], ◌∷◌, ◌++◌, Option, Some, None, Result, Ok, Err, IfOk, if◌then◌else◌}
use Rattle.pce_engine.specs.declared.fault.ScriptFault.{ScriptFault}
use Rattle.pce_engine.specs.declared.fault.ScriptFault.TheVariants.{ReadFault, WriteFault, OutOfMemory}
use Rattle.pce_engine.specs.declared.stage.Stage as code
use Rattle.script_lines.specs.LineAnswer.{LineAnswer, line_answer}
use Rattle.pce_engine.specs.Script.{Searches, Stage, start, answered, answer_of_line, MayFind, Outcome, ending, on_line_answer}

abbrev pub stage_of : code.Stage → Stage
stage_of s = record { number = s.number; header = s.header.items; standing = s.standing }

-- the stage, and the bytes of the unfinished line
pub record Machine : Type 0 where
  pub stage : Stage
  pub pending : List ℕ

abbrev pub started : Machine
started = record { stage = start; pending = [] }

-- what was written, where the machine is, and the fault that stopped it
pub record Fed : Type 0 where
  pub text : List ℕ
  pub machine : Machine
  pub fault : Option ScriptFault

abbrev pub after_line : Result (LineAnswer Stage) ScriptFault → Result (LineAnswer Machine) ScriptFault
after_line (Ok t) = Ok (line_answer t.text (record { stage = t.after; pending = [] }))
after_line (Err fault) = Err fault

-- one byte more, if the search of the line that it ends answers this
abbrev pub took : Option (List ℕ) → Machine → ℕ → Result (LineAnswer Machine) ScriptFault
took answer m byte = if byte == 10 then after_line (answer_of_line answer m.stage m.pending) else Ok (line_answer [] (record { stage = m.stage; pending = m.pending ++ byte ∷ [] }))

abbrev pub fed_on : List ℕ → Machine → Result (LineAnswer Machine) ScriptFault → (List ℕ → Machine → Fed) → Fed
fed_on text m (Ok t) go = go (text ++ t.text) t.after
fed_on text m (Err fault) go = record { text = text; machine = m; fault = Some fault }

abbrev pub fed : Searches → List ℕ → List ℕ → Machine → Fed
fed answers [] text m = record { text = text; machine = m; fault = None }
fed answers (b ∷ bs) text m = fed_on text m (took (answers m.stage.number) m b) (fed answers bs)

-- the search of the line that a byte ends may answer this
abbrev pub MayTake : Option (List ℕ) → Machine → ℕ → Type 0
MayTake answer m byte = byte ≡ 10 → MayFind answer m.stage.standing m.pending

-- each search of the lines that these bytes end may answer this
abbrev pub AllowedBytes : Searches → List ℕ → Machine → Type 0
AllowedBytes answers [] m = Unit {0}
AllowedBytes answers (b ∷ bs) m = IfOk (took (answers m.stage.number) m b) (λ t. MayTake (answers m.stage.number) m b × AllowedBytes answers bs t.after)

-- all of the bytes were taken
abbrev pub Leads : Searches → List ℕ → List ℕ → Machine → List ℕ → Machine → Type 0
Leads answers bytes text m new n = fed answers bytes text m ≡ record { text = new; machine = n; fault = None }

-- the same, for answers that the searches may give
abbrev pub Goes : Searches → List ℕ → List ℕ → Machine → List ℕ → Machine → Type 0
Goes answers bytes text m new n = Leads answers bytes text m new n × AllowedBytes answers bytes m

-- What a call on the line with this number answers and leaves, if the script has this fault. If memory ran out, the
-- fault names the line. A line meets no fault of a reader or a writer.
abbrev pub Fails : {Y : Type 0} → ℕ → ScriptFault → Result Y ScriptFault → Type 0
Fails number (OutOfMemory line) given = line ≡ number
Fails number ReadFault given = ⊥
Fails number WriteFault given = ⊥
Fails number fault given = given ≡ Err fault

-- What a call on a line answers and leaves, for some answer that its search may give. A fault comes before the search.
abbrev pub AnswersLine : {X : Type 0} → (X → List ℕ) → Result X ScriptFault → List ℕ → Stage → Stage → Type 0
AnswersLine view (Ok x) line s t = (answer : Option (List ℕ)) × MayFind answer s.standing line × (answered answer s line ≡ Ok (line_answer (view x) t))
AnswersLine view (Err e) line s t = Fails s.number e (answered None s line)

-- A fault at the line with this number, or at a byte of it: nothing was added. If memory ran out, the fault names the
-- line; any other fault is the script's.
abbrev pub Halts : {A : Type 0} → ℕ → ScriptFault → Result A ScriptFault → List ℕ → List ℕ → Type 0
Halts number (OutOfMemory line) given old new = (new ≡ old) × (line ≡ number)
Halts number ReadFault given old new = ⊥
Halts number WriteFault given old new = ⊥
Halts number e given old new = (given ≡ Err e) × (new ≡ old)

-- What a call on one line leaves, for an answer that its search may give.
abbrev pub Adds : {X : Type 0} → Result X ScriptFault → List ℕ → List ℕ → Stage → List ℕ → Stage → Type 0
Adds (Ok x) line old s new t = (answer : Option (List ℕ)) × (text : List ℕ) × MayFind answer s.standing line × (answer_of_line answer s line ≡ Ok (line_answer text t)) × (new ≡ old ++ text)
Adds (Err e) line old s new t = Halts s.number e (answer_of_line None s line) old new

-- What a call on one byte leaves, for an answer that the search of the line may give.
abbrev pub Takes : {X : Type 0} → Result X ScriptFault → ℕ → List ℕ → Machine → List ℕ → Machine → Type 0
Takes (Ok x) byte old m new n = (answer : Option (List ℕ)) × (text : List ℕ) × MayTake answer m byte × (took answer m byte ≡ Ok (line_answer text n)) × (new ≡ old ++ text)
Takes (Err e) byte old m new n = Halts m.stage.number e (took None m byte) old new

-- some of the bytes were taken: those of all lines before this number
pub record LeadsPartly (bytes text : List ℕ) (m : Machine) (new : List ℕ) (number : ℕ) : Type 0 where
  pub front : List ℕ
  pub rest : List ℕ
  pub machine : Machine
  pub answers : Searches
  pub whole : bytes ≡ front ++ rest
  pub leads : Goes answers front text m new machine
  pub numbered : machine.stage.number ≡ number

-- A fault among some bytes. If memory ran out, it ran out at the line that the fault names.
abbrev pub Breaks : ScriptFault → List ℕ → List ℕ → Machine → List ℕ → Type 0
Breaks (OutOfMemory line) bytes old m new = LeadsPartly bytes old m new line
Breaks ReadFault bytes old m new = ⊥
Breaks WriteFault bytes old m new = ⊥
Breaks e bytes old m new = (answers : Searches) × AllowedBytes answers bytes m × ((fed answers bytes old m).text ≡ new) × ((fed answers bytes old m).fault ≡ Some e)

-- What a call on some bytes leaves.
abbrev pub Feeds : {X : Type 0} → Result X ScriptFault → List ℕ → List ℕ → Machine → List ℕ → Machine → Type 0
Feeds (Ok x) bytes old m new n = (answers : Searches) × Goes answers bytes old m new n
Feeds (Err e) bytes old m new n = Breaks e bytes old m new

-- the last line, if it has no line break
abbrev pub closed_with : Option (List ℕ) → List ℕ → Stage → List ℕ → Outcome
closed_with answer text s [] = record { text = text; fault = ending s.number s.standing }
closed_with answer text s (b ∷ bs) = on_line_answer text (answer_of_line answer s (b ∷ bs)) (λ all t. record { text = all; fault = ending t.number t.standing })

abbrev pub completed_by : Searches → List ℕ → Machine → Option ScriptFault → Outcome
completed_by answers text m None = closed_with (answers m.stage.number) text m.stage m.pending
completed_by answers text m (Some fault) = record { text = text; fault = Some fault }

abbrev pub completed : Searches → Fed → Outcome
completed answers f = completed_by answers f.text f.machine f.fault
