-- What is seen of the steps from a place on.
use Rattle.std.specs.Prelude.{ℕ, ◌≡◌, ◌≤◌, ◌<◌, ◌-◌, List, take, drop}
use Rattle.history_core.specs.Histories.{Content}
use Rattle.history_core.specs.declared.step.Step.{Step}
use Rattle.journal_writing.specs.declared.look.SeenSteps.{SeenSteps}
use Rattle.journal_writing.specs.declared.look.SeenSteps.TheVariants.{Steps, Rolled}

-- at most so many are seen at a time
abbrev pub most_seen : ℕ
most_seen = 512

-- the first of the kept steps from this place on, which isn't before the base
abbrev pub AreFrom : ℕ → Content → List Step → Type 0
AreFrom from d seen = (d.rolled ≤ from) × (seen ≡ take most_seen (drop (from - d.rolled) d.history))

-- what is seen from a place on: steps, or that it is before the base
abbrev pub SeesFrom : ℕ → Content → SeenSteps → Type 0
SeesFrom from d Rolled = from < d.rolled
SeesFrom from d (Steps steps) = AreFrom from d steps.items
