-- One more LSP is tried.
use Rattle.std.proofs.Common.{◌≡◌, ℕ, List, [], ◌∷◌, ◌++◌, Some, None}
use Rattle.std.specs.Prelude.{ℤ}
use Rattle.te_snapshot.specs.Network.{Network}
use Rattle.path_finder.specs.declared.found.Found.{Found}
use Rattle.path_looks.specs.Moves.{moved, taken, IsPlaced, IsUnplaced, Tried}
use Rattle.path_looks.specs.Moves.Tried.{Goes, Stays}
use Rattle.path_looks.specs.declared.moves.Move.{Move}
use Rattle.path_looks.specs.declared.moves.Mover.{Mover}

module _ (n : Network) (closed : ℕ) (start : List (List ℤ)) where
  pub one_goes : (ms : List Mover) (moves after : List Move) (table rows : List (List ℤ)) (m : Mover) (f : Found) → after ≡ moves ++ moved m (Some f) ∷ [] → rows ≡ taken m f.links table → IsPlaced n closed table m f → Tried n closed start ms moves table → Tried n closed start (ms ++ m ∷ []) after rows
  one_goes ms moves after table rows m f more left placed tried = rw (more, left) (Goes ms moves table m f tried placed)

  pub one_stays : (ms : List Mover) (moves after : List Move) (table : List (List ℤ)) (m : Mover) → after ≡ moves ++ moved m None ∷ [] → IsUnplaced n closed table m → Tried n closed start ms moves table → Tried n closed start (ms ++ m ∷ []) after table
  one_stays ms moves after table m more unplaced tried = rw more (Stays ms moves table m tried unplaced)
