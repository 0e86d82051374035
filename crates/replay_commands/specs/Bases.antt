-- The base of the file that is read.
use Rattle.std.specs.Prelude.{ℕ, ◌≡◌, ◌≢◌, Bool, true, false, List, [], ◌∷◌, ◌++◌, Option, Some, None}
use Rattle.te_base.specs.Ted.{Ted}
use Rattle.history_core.specs.Histories.{Content}
use Rattle.base_lines.specs.Items.{Reading, base_of}
use Rattle.base_lines.specs.Lines.{base_lines, has_lines, line_read, said_at}
use Rattle.base_lines.specs.declared.placed.PlacedBase.{PlacedBase}
use Rattle.base_lines.specs.declared.stage.BaseLine.{BaseLine}
use Rattle.base_lines.specs.declared.stage.BaseLine.TheVariants as said
use Rattle.journal_replay.specs.Bases.{point_over, BeginsAt, base_at}
use Rattle.journal_replay.specs.Replays.{point_of}
use Rattle.line_words.specs.Written.{text_of}
use Rattle.replay_commands.specs.declared.base.FileBase.{FileBase}
use Rattle.replay_commands.specs.declared.base.FileBase.TheVariants as bases

-- a base was read, a replay may begin there before the step of this place, and the database is the one that begins there
pub record Begins (te : Ted) (reading : Reading) (first : ℕ) (d : Content) : Type 0 where
  pub base : PlacedBase
  pub read : base_of reading ≡ Some base
  pub may : BeginsAt te base first
  pub there : point_of d ≡ point_over te base

-- the lines have to be those of the base of what was replayed; none is right if that has no lines
abbrev pub Awaits : Content → FileBase → Type 0
Awaits d bases.None = has_lines (base_at d) ≡ false
Awaits d (bases.First te reading) = ⊥
Awaits d (bases.Later expected) = expected ≡ text_of (base_lines (base_at d))

-- the line is one of a base
abbrev pub is_part : BaseLine → Bool
is_part said.Item = true
is_part said.End = true
is_part said.Bad = false

-- a line comes next of an expected text
abbrev pub TakesNext : List ℕ → List ℕ → (good : Bool) → FileBase → Type 0
TakesNext expected line true to = (left : List ℕ) × (to ≡ bases.Later left) × (expected ≡ line ++ 10 ∷ left)
TakesNext expected line false to = (left : List ℕ) → expected ≢ line ++ 10 ∷ left

-- whether a line may stand there, and what the base is after it
abbrev pub TakesLine : FileBase → List ℕ → (good : Bool) → FileBase → Type 0
TakesLine bases.None line good to = good ≡ false
TakesLine (bases.First te reading) line good to = let read = line_read reading line in (to ≡ bases.First te read) × (good ≡ is_part (said_at read.stage))
TakesLine (bases.Later expected) line good to = TakesNext expected line good to

-- how a base ends in front of the step of this place: the replay begins there if the file is the first, and nothing is left of an
-- expected one
abbrev pub Ends : FileBase → ℕ → Option Content → Type 0
Ends bases.None first begun = ⊥
Ends (bases.First te reading) first None = ⊥
Ends (bases.First te reading) first (Some d) = Begins te reading first d
Ends (bases.Later expected) first begun = (expected ≡ []) × (begun ≡ None)
