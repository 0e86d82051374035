-- A run over a reader and a writer whose bytes are known.
use Rattle.std.specs.Prelude.{◌≡◌, ◌⊎◌, ℕ, ◌^◌, ◌<◌, ◌≤◌, List, length, [], ◌++◌, Option, Some, None, Result, Ok, Err}
use Rattle.std.specs.Io.KnownBytes.{Appends, Consumes, Keeps, IsAtEnd}
use Rattle.pce_engine.specs.declared.fault.ScriptFault.{ScriptFault}
use Rattle.pce_engine.specs.declared.fault.ScriptFault.TheVariants.{ReadFault, WriteFault, OutOfMemory}
use Rattle.pce_engine.specs.declared.script.Input.{Input}
use Rattle.pce_engine.specs.declared.script.Input.TheVariants.{Ended, Endless}
use Rattle.pce_engine.specs.declared.script.Turn.{Turn}
use Rattle.pce_engine.specs.declared.script.Turn.TheVariants.{More, Finished}
use Rattle.pce_engine.specs.Script.{Searches}
use Rattle.pce_engine.specs.Ends.{piece_bound, WritesScript, WritesRead, WritesLast, EndsBy, ClosesBy}
use Rattle.pce_engine.specs.Machine.{Machine, started, fed, AllowedBytes, Goes, LeadsPartly}

-- A fault stopped it, and what it printed before was written. If memory ran out, that is the text of all lines of the
-- piece before the one that the fault names.
abbrev pub Stops : ScriptFault → List ℕ → Machine → Option (List ℕ) → Option (List ℕ) → Type 0
Stops (OutOfMemory line) bytes m old new = (text : List ℕ) × LeadsPartly bytes [] m text line × Appends old new text
Stops ReadFault bytes m old new = ⊥
Stops WriteFault bytes m old new = Unit {0}
Stops e bytes m old new = (answers : Searches) × AllowedBytes answers bytes m × Appends old new (fed answers bytes [] m).text × ((fed answers bytes [] m).fault ≡ Some e)

-- The whole piece was taken, and what it prints was written.
abbrev pub GoesOn : List ℕ → Machine → Option (List ℕ) → Option (List ℕ) → Machine → Type 0
GoesOn bytes m old new n = (answers : Searches) × (text : List ℕ) × Appends old new text × Goes answers bytes [] m text n

-- What a call on one piece of the input leaves.
abbrev pub Chunk : {X : Type 0} → Result X ScriptFault → List ℕ → Machine → Option (List ℕ) → Option (List ℕ) → Machine → Type 0
Chunk (Ok x) bytes m old new n = GoesOn bytes m old new n
Chunk (Err e) bytes m old new n = Stops e bytes m old new

-- A read gave bytes, at most a piece.
abbrev pub Gave : List ℕ → Option (List ℕ) → Option (List ℕ) → Type 0
Gave bytes was now = Consumes was now bytes × (0 < length bytes) × (length bytes ≤ piece_bound)

-- A read gave nothing, since the input has ended.
abbrev pub GaveNothing : Option (List ℕ) → Option (List ℕ) → Type 0
GaveNothing was now = Consumes was now [] × IsAtEnd now

-- A turn ended the run with a fault: the read failed and nothing was written, or the bytes that it gave stopped the
-- script, or its last line did.
abbrev pub TurnFails : ScriptFault → Option (List ℕ) → Option (List ℕ) → Option (List ℕ) → Option (List ℕ) → Machine → Type 0
TurnFails e was now old new m = ((e ≡ ReadFault) × Keeps was now × (new ≡ old)) ⊎ (((bytes : List ℕ) × Gave bytes was now × Stops e bytes m old new) ⊎ (GaveNothing was now × ClosesBy e old new m.stage m.pending))

-- What a turn leaves: one read, and what is written because of it.
abbrev pub Turns : Result Turn ScriptFault → Option (List ℕ) → Option (List ℕ) → Option (List ℕ) → Option (List ℕ) → Machine → Machine → Type 0
Turns (Ok More) was now old new m n = (bytes : List ℕ) × Gave bytes was now × GoesOn bytes m old new n
Turns (Ok Finished) was now old new m n = GaveNothing was now × WritesLast old new None m.stage m.pending
Turns (Err e) was now old new m n = TurnFails e was now old new m

-- some of the input was read, at least one byte a turn, and what it prints was written
pub record Reading (input : List ℕ) (remaining old new : Option (List ℕ)) (m : Machine) (turns : ℕ) : Type 0 where
  pub front : List ℕ
  pub rest : List ℕ
  pub text : List ℕ
  pub answers : Searches
  pub known : remaining ≡ Some rest
  pub whole : input ≡ front ++ rest
  pub written : Appends old new text
  pub so_far : Goes answers front [] started text m
  pub turned : turns ≤ length front

-- the most times that the reader is asked
abbrev pub most_turns : ℕ
most_turns = 2 ^ 32

-- the reader was asked as often as it may be, gave at least one byte each time, and may have more
abbrev pub ReadsOn : Option (List ℕ) → Option (List ℕ) → Option (List ℕ) → List ℕ → Type 0
ReadsOn old new left input = (r : WritesRead old new left input) × (most_turns ≤ length r.front)

-- What the reading of the input leaves.
abbrev pub Reaches : Result Input ScriptFault → Option (List ℕ) → Option (List ℕ) → Option (List ℕ) → List ℕ → Type 0
Reaches (Ok Ended) old new left input = WritesScript old new None input
Reaches (Ok Endless) old new left input = ReadsOn old new left input
Reaches (Err e) old new left input = EndsBy e old new left input
