-- What is handed to the writer of a journal.
use Rattle.std.specs.Prelude.{ℕ, ◌≡◌, ◌+◌, true, List, [], ◌∷◌, ◌++◌, length, take, drop, Option}
use Rattle.std.specs.List.{AllByRecursion}
use Rattle.std.specs.Io.KnownBytes.{Appends}
use Rattle.te_base.specs.Ted.{Ted}
use Rattle.history_core.specs.declared.step.Step.{Step}
use Rattle.history_tokens.specs.declared.rule.Happening.{Happening}
use Rattle.step_core.specs.declared.event.Event.{Event}
use Rattle.history_seats.specs.Past.{steps_at}
use Rattle.journal_files.specs.Moments.{is_moment}
use Rattle.line_words.specs.Written.{text_of}
use Rattle.step_lines.specs.Lines.{line_of}
use Rattle.journal_writing.specs.Texts.{placed, lines_of}

-- lines with the time
abbrev pub AreMoments : List (List ℕ) → Type 0
AreMoments lines = AllByRecursion (λ line. is_moment line ≡ true) lines

-- what the writer holds grows by lines with the time
pub record Notes (old new : Option (List ℕ)) : Type 0 where
  pub moments : List (List ℕ)
  pub are : AreMoments moments
  pub written : Appends old new (text_of moments)

-- What the writer holds grows by the lines of these steps, of which the first has this place. Lines with the time may stand in front.
pub record Writes (place : ℕ) (steps : List Step) (old new : Option (List ℕ)) : Type 0 where
  pub moments : List (List ℕ)
  pub are : AreMoments moments
  pub written : Appends old new (text_of moments ++ text_of (lines_of place steps))

-- Lines with the time, and the lines of these steps, of which the first has this place: each step has a line, in their
-- order, and there is no other. Lines with the time may stand before each of them, and after the last.
abbrev pub AreLines : ℕ → List Step → List (List ℕ) → Type 0
AreLines place [] lines = AreMoments lines
AreLines place (s ∷ steps) lines =
    (moments : List (List ℕ)) × (rest : List (List ℕ)) × AreMoments moments × (lines ≡ moments ++ line_of (placed place s) ∷ rest) × AreLines (place + 1) steps rest

-- One call has written the journal on from one place to another, through the one history of which this has been seen: each step
-- in between, so many, in its order, and no other. Lines with the time may stand in front of them, and nowhere else.
pub record WritesOn (text : Ted) (past : List (Happening Event)) (from to : ℕ) (old new : Option (List ℕ)) : Type 0 where
  pub count : ℕ
  pub next : to ≡ from + count
  pub taken : length (take count (drop from (steps_at text past))) ≡ count
  pub writes : Writes from (take count (drop from (steps_at text past))) old new

-- The same of several calls, one after the other: lines with the time may stand in front of the steps of each.
pub record GoesOn (text : Ted) (past : List (Happening Event)) (from to : ℕ) (old new : Option (List ℕ)) : Type 0 where
  pub count : ℕ
  pub next : to ≡ from + count
  pub taken : length (take count (drop from (steps_at text past))) ≡ count
  pub lines : List (List ℕ)
  pub are : AreLines from (take count (drop from (steps_at text past))) lines
  pub written : Appends old new (text_of lines)
