-- How a run ends.
use Rattle.std.specs.Prelude.{◌≡◌, ℕ, ◌+◌, ◌≤◌, List, [], ◌∷◌, length, ◌++◌, Option, Some, None, Result, Ok, Err, IfOk}
use Rattle.std.specs.Io.KnownBytes.{Appends, Consumes}
use Rattle.pce_engine.specs.declared.fault.ScriptFault.{ScriptFault}
use Rattle.pce_engine.specs.declared.fault.ScriptFault.TheVariants.{ReadFault, WriteFault, OutOfMemory}
use Rattle.script_lines.specs.Lines.{cut, lines_of}
use Rattle.pce_engine.specs.Script.{Searches, Outcome, Stage, start, script, next_number, text_of_lines, answer_of_line, MayFind, Allowed}
use Rattle.pce_engine.specs.Machine.{closed_with}

-- a whole outcome was written
abbrev pub Writes : Option (List ℕ) → Option (List ℕ) → Option ScriptFault → Outcome → Type 0
Writes old new fault outcome = Appends old new outcome.text × (outcome.fault ≡ fault)

-- for answers that the searches of its lines may give, the whole script was written
abbrev pub WritesScript : Option (List ℕ) → Option (List ℕ) → Option ScriptFault → List ℕ → Type 0
WritesScript old new fault input = (answers : Searches) × Allowed answers (lines_of input) start × Writes old new fault (script answers input)

-- how many bytes the reader is asked for at once
abbrev pub piece_bound : ℕ
piece_bound = 4096

-- What all lines before the one with this number print was written, for answers that their searches may give. Those
-- lines are the beginning of the input. Any bytes that were read beyond them belong to the last piece.
pub record WritesBefore (number : ℕ) (old new left : Option (List ℕ)) (input : List ℕ) : Type 0 where
  pub front : List ℕ
  pub rest : List ℕ
  pub unread : List ℕ
  pub whole : input ≡ front ++ rest
  pub answers : Searches
  pub numbered : number ≡ next_number front
  pub allowed : Allowed answers (cut front).0 start
  pub written : Appends old new (text_of_lines answers front)
  pub known : left ≡ Some unread
  pub behind : length rest ≤ piece_bound + length unread

-- what the whole lines before the bytes that the reader has left print was written, for answers that their searches may
-- give
pub record WritesRead (old new left : Option (List ℕ)) (input : List ℕ) : Type 0 where
  pub front : List ℕ
  pub answers : Searches
  pub read : Consumes (Some input) left front
  pub allowed : Allowed answers (cut front).0 start
  pub written : Appends old new (text_of_lines answers front)

-- A bad line, a link text's fault and a full history come where the script has them, after the text of all lines
-- before. If a read failed, the output has the text of the whole lines that were read. If memory ran out, it has the
-- text of the lines before the one at which it ran out. If a write failed, nothing is claimed.
abbrev pub EndsBy : ScriptFault → Option (List ℕ) → Option (List ℕ) → Option (List ℕ) → List ℕ → Type 0
EndsBy (OutOfMemory line) old new left input = WritesBefore line old new left input
EndsBy ReadFault old new left input = WritesRead old new left input
EndsBy WriteFault old new left input = Unit {0}
EndsBy e old new left input = WritesScript old new (Some e) input

-- `Ok` comes if the script has no fault. `left` is what the reader has left.
abbrev pub EndsAs : {X : Type 0} → Result X ScriptFault → Option (List ℕ) → Option (List ℕ) → Option (List ℕ) → List ℕ → Type 0
EndsAs (Ok x) old new left input = WritesScript old new None input
EndsAs (Err e) old new left input = EndsBy e old new left input

-- the search of the last line, if it has no line break, may answer this
abbrev pub MayClose : Option (List ℕ) → Stage → List ℕ → Type 0
MayClose answer s [] = Unit {0}
MayClose answer s (b ∷ bs) = IfOk (answer_of_line answer s (b ∷ bs)) (λ _. MayFind answer s.standing (b ∷ bs))

-- for an answer that its search may give, what the last line prints was written
abbrev pub WritesLast : Option (List ℕ) → Option (List ℕ) → Option ScriptFault → Stage → List ℕ → Type 0
WritesLast old new fault s line = (answer : Option (List ℕ)) × MayClose answer s line × Writes old new fault (closed_with answer [] s line)

-- A fault at the end of the input: what the last line prints was written, or nothing if memory ran out.
abbrev pub ClosesBy : ScriptFault → Option (List ℕ) → Option (List ℕ) → Stage → List ℕ → Type 0
ClosesBy (OutOfMemory number) old new s line = (new ≡ old) × (number ≡ s.number)
ClosesBy ReadFault old new s line = ⊥
ClosesBy WriteFault old new s line = Unit {0}
ClosesBy e old new s line = WritesLast old new (Some e) s line

-- What the end of the input leaves, if this is its last line.
abbrev pub Closes : {X : Type 0} → Result X ScriptFault → Option (List ℕ) → Option (List ℕ) → Stage → List ℕ → Type 0
Closes (Ok x) old new s line = WritesLast old new None s line
Closes (Err e) old new s line = ClosesBy e old new s line

-- What the end of the input leaves after its last line, if this is the script's fault. Nothing is allocated here.
abbrev pub ClosesAt : {X : Type 0} → Result X ScriptFault → Option (List ℕ) → Option (List ℕ) → Option ScriptFault → Type 0
ClosesAt (Ok x) old new fault = Appends old new [] × (fault ≡ None)
ClosesAt (Err (OutOfMemory number)) old new fault = ⊥
ClosesAt (Err ReadFault) old new fault = ⊥
ClosesAt (Err WriteFault) old new fault = Unit {0}
ClosesAt (Err e) old new fault = Appends old new [] × (fault ≡ Some e)
