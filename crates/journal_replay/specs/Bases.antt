-- Where a replay begins that has a base, and which base a file has to have that others come before.
use Rattle.std.specs.Prelude.{ℕ, ◌≡◌, List, [], ◌∷◌, ◌++◌}
use Rattle.te_base.specs.Ted.{Ted}
use Rattle.step_core.specs.Bases.{known_in, state_over}
use Rattle.history_core.specs.Histories.{Content, MayBegin, steps_of, grants_of}
use Rattle.base_lines.specs.declared.placed.PlacedBase.{PlacedBase}
use Rattle.journal_replay.specs.Replays.{Point}

-- what the base says, over a network of these nodes and links, before the step of its place
abbrev pub point_over : Ted → PlacedBase → Point
point_over te b = record { state = state_over te b.base; next = b.steps }

-- the base says what was known before the step of this place, and a history may begin there
pub record BeginsAt (te : Ted) (b : PlacedBase) (first : ℕ) : Type 0 where
  pub placed : b.steps ≡ first
  pub may : MayBegin te b.base b.steps b.grants

-- the base of a file that begins where the steps of the database end
abbrev pub base_at : Content → PlacedBase
base_at d = record { base = known_in d.state; steps = steps_of d; grants = grants_of d }

-- The lines make up the expected text: each is what comes next of it, with its line break, and nothing is left of it.
abbrev pub AreExpected : List ℕ → List (List ℕ) → Type 0
AreExpected expected [] = expected ≡ []
AreExpected expected (line ∷ lines) = (left : List ℕ) × (expected ≡ line ++ 10 ∷ left) × AreExpected left lines
