-- The base of the last roll is what all steps before it led to.
use Rattle.std.proofs.Common.{◌≡◌, ℕ, List, ◌++◌, length, take, sym, ap, ◌∙◌, arith}
use Rattle.std.proofs.Math.Seq.{take-append_seam}
use Rattle.step_core.specs.Bases.{known_in}
use Rattle.step_core.specs.States.{State}
use Rattle.history_core.specs.Histories.{Content, Start, replay, grants_in}
use Rattle.history_core.specs.declared.step.Step.{Step}
use Rattle.history_seats.specs.Past.{AreAll}
use Rattle.base_lines.specs.declared.placed.PlacedBase.{PlacedBase}
use Rattle.journal_writing.specs.Bases.{rolled_base, base_before}

first_part : (before rest all : List Step) → before ++ rest ≡ all → before ≡ take (length before) all
first_part before rest all is = sym (take-append_seam before rest) ∙ ap (take (length before)) is

pub led_to : (at : ℕ) (d : Content) (all : List Step) (b : PlacedBase) → AreAll d all → (d.rolled ≡ at) × (b ≡ rolled_base d) → b ≡ base_before d.start.state all at
led_to at d all b are sees =
    let no_steps : d.start.steps ≡ 0 = ap (λ (start : Start). start.steps) are.starts in
    let no_grants : d.start.grants ≡ 0 = ap (λ (start : Start). start.grants) are.starts in
    let many : length are.before ≡ at = omega (arith, are.past.steps, no_steps, sees.0) in
    let first : are.before ≡ take at all = first_part are.before d.history all are.split ∙ ap (λ (n : ℕ). take n all) many in
    let state : d.base ≡ replay d.start.state (take at all) = sym are.past.replays.leads ∙ ap (replay d.start.state) first in
    let grants : d.rolled_grants ≡ grants_in (take at all) = omega (arith, are.past.grants, no_grants, ap grants_in first) in
    sees.1 ∙ (λ i. record { base = known_in (state i); steps = sees.0 i; grants = grants i })
