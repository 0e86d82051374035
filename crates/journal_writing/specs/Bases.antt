-- What is seen of the base of a database, and what a further file begins with.
use Rattle.std.specs.Prelude.{ℕ, ◌≡◌, List, ◌++◌, take}
use Rattle.step_core.specs.Bases.{known_in}
use Rattle.step_core.specs.States.{State}
use Rattle.history_core.specs.Histories.{Content, replay, grants_in}
use Rattle.history_core.specs.declared.step.Step.{Step}
use Rattle.line_words.specs.Written.{text_of}
use Rattle.base_lines.specs.Lines.{base_lines}
use Rattle.base_lines.specs.declared.placed.PlacedBase.{PlacedBase}
use Rattle.journal_writing.specs.Heads.{head_text}
use Rattle.journal_writing.specs.declared.base.SeenBase.{SeenBase}
use Rattle.journal_writing.specs.declared.base.SeenBase.TheVariants.{Base, Other}

-- what was known at the last roll, and how many steps and grants came before it
abbrev pub rolled_base : Content → PlacedBase
rolled_base d = record { base = known_in d.base; steps = d.rolled; grants = d.rolled_grants }

-- what is seen of the base at a place: the base, or that the last roll was at another place
abbrev pub SeesBase : ℕ → Content → SeenBase → Type 0
SeesBase at d (Base b) = (d.rolled ≡ at) × (b ≡ rolled_base d)
SeesBase at d Other = d.rolled ≡ at → ⊥

-- what was known before the step of this place, if these are all steps and led on from this state
abbrev pub base_before : State → List Step → ℕ → PlacedBase
base_before start all place = record { base = known_in (replay start (take place all)); steps = place; grants = grants_in (take place all) }

-- a further file begins with its head, and a base of as many steps as come before its first
unfoldable pub file_beginning : List ℕ → List ℕ → PlacedBase → List ℕ
file_beginning run text b = head_text run b.steps text ++ text_of (base_lines b)
