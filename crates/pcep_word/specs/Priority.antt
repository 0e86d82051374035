-- The priorities of a path that are in force.
use Rattle.std.specs.Prelude.{ℕ, min}

pub record InForce : Type 0 where
  pub setup : ℕ
  pub hold : ℕ

-- a holding priority that is worse than the setup priority counts as the setup priority
abbrev pub in_force : ℕ → ℕ → InForce
in_force setup hold = record { setup = setup; hold = min hold setup }
