-- In each database, all that is known is of known peers.
use Rattle.std.specs.Prelude.{ℕ}
use Rattle.step_core.specs.Consistent.{IsConsistent}
use Rattle.step_core.specs.States.{State}
use Rattle.step_core.proofs.ConsistentSteps.{empty_consistent, step_keeps}
use Rattle.history_core.specs.Histories.{Content, StartsFromText, Replays}
use Rattle.history_laws.specs.WellFormed.{AreOfKnownPeers}
use Rattle.history_laws.proofs.Known.{KnownAt, all_of_known}
use Rattle.history_laws.proofs.KnownSteps.{empty_known, step_known}
use Rattle.history_laws.proofs.Led.{led_from_text}

record IsKnown (s : State) : Type 0 where
  consistent : IsConsistent s
  known : (n : ℕ) → KnownAt s n

pub of_known_peers : (d : Content) → Replays d → StartsFromText d → AreOfKnownPeers d.state
of_known_peers d whole starts =
    let last = led_from_text IsKnown (λ te. record { consistent = empty_consistent te; known = empty_known te }) (λ s event is. record { consistent = (step_keeps s event is.consistent).consistent; known = step_known s event is.consistent is.known }) d whole starts in
    all_of_known d.state last.consistent last.known
