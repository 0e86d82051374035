-- One LSP more is looked at.
use Rattle.std.proofs.Common.{◌≡◌, ℕ, ◌+◌, List, [], ◌∷◌, ◌++◌}
use Rattle.pce_seen.specs.declared.moves.RerouteInput.{RerouteInput}
use Rattle.pce_view.specs.Better.{IsBestAt, IsBetterAt, Listed}
use Rattle.pce_view.specs.Better.Listed.{Adds, Passes}
use Rattle.pce_view.specs.declared.better.BetterLsp.{BetterLsp}

module _ (m : RerouteInput) (place : ℕ) where
  pub one_better : (found after : List BetterLsp) (b : BetterLsp) → after ≡ found ++ b ∷ [] → IsBetterAt m place b → Listed m place found → Listed m (place + 1) after
  one_better found after b more better listed = rw more (Adds place found b listed better)

  pub one_best : (found : List BetterLsp) → IsBestAt m place → Listed m place found → Listed m (place + 1) found
  one_best found best listed = Passes place found listed best
