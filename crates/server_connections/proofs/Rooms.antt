-- A store inside another: if the inner one makes room, the outer one does.
use Rattle.std.proofs.Common.{ℕ, List, [], Option, None, Some}
use Rattle.engine_core.specs.Stores.{MakesRoom}
use Rattle.engine_core.specs.Deeds.{Deed}

module _ {S T : Type 0} (moves : S → List Deed → S → Type 0) (full : S → Type 0) (rolls : S → ℕ → S → Type 0) (outer_moves : T → List Deed → T → Type 0) (outer_full : T → Type 0) (outer_rolls : T → ℕ → T → Type 0) (old new : S) (before after : T) (stands : S → T) where
  -- between the two stands the outer store with the inner one that was full
  pub room_within : (r : Option ℕ) → (moves old [] new → outer_moves before [] after) → ((s : S) → moves old [] s → outer_moves before [] (stands s)) → ((s : S) → full s → outer_full (stands s))
      → ((s : S) (steps : ℕ) → rolls s steps new → outer_rolls (stands s) steps after) → MakesRoom moves full rolls old new r → MakesRoom outer_moves outer_full outer_rolls before after r
  room_within None same shown was_full rolled h = same h
  room_within (Some steps) same shown was_full rolled h = (stands h.0, shown h.0 h.1, was_full h.0 h.2, rolled h.0 steps h.3)
