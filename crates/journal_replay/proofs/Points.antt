-- What is known after a roll, and after a step.
use Rattle.std.proofs.Common.{◌≡◌, ℕ, ◌+◌, ◌-◌, ◌^◌, ◌<◌, min, List, [], ◌∷◌, ◌++◌, length, ap, length-append, arith}
use Rattle.step_core.specs.declared.event.Event.{Event}
use Rattle.step_core.specs.declared.event.Reply.{Reply}
use Rattle.step_core.specs.Steps.{step}
use Rattle.history_core.specs.Histories.{Content, steps_of, stepped, rolled_up, kept_step}
use Rattle.step_lines.specs.declared.placed.PlacedStep.{PlacedStep}
use Rattle.event_bytes.specs.Bytes.{bytes_of}
use Rattle.journal_replay.specs.Kept.{most_steps, most_bytes, IsWithin}
use Rattle.journal_replay.specs.Replays.{Point, point_of, after}

pub point_rolled : (d : Content) → point_of (rolled_up d) ≡ point_of d
point_rolled d =
    let same : steps_of (rolled_up d) ≡ steps_of d = omega arith in
    ap (λ (n : ℕ). record { state = d.state; next = n }) same

pub point_stepped : (d : Content) (p : PlacedStep) (reply : Reply) → point_of (stepped d p.event reply) ≡ after (point_of d) p
point_stepped d p reply =
    let long = length-append d.history (kept_step p.event reply ∷ []) in
    let more : steps_of (stepped d p.event reply) ≡ steps_of d + 1 = omega (arith, long) in
    ap (λ (n : ℕ). record { state = (step d.state p.event).state; next = n }) more

-- one more step is kept
pub one_more_kept : (d : Content) (e : Event) (reply : Reply) (bytes more : ℕ) → length d.history < most_steps → bytes < most_bytes → more ≡ min (bytes + bytes_of e) (2 ^ 64 - 1) → IsWithin e (stepped d e reply) more
one_more_kept d e reply bytes more steps few is =
    let long = length-append d.history (kept_step e reply ∷ []) in
    record { steps = omega (arith, long, steps); few = omega (arith, few, is) }
