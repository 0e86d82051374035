-- A database that is lent to the engine: what calls on it do.
use Rattle.std.specs.Prelude.{ℕ, ◌≡◌, true, false, List, [], ◌∷◌, ◌++◌}
use Rattle.step_core.specs.Steps.{step}
use Rattle.history_core.specs.Histories.{Content, stepped, is_full, rolled_up, steps_of}
use Rattle.engine_core.specs.Deeds.{Deed, Called, Shown, calls_of}
use Rattle.engine_core.specs.declared.lent.Lent.{Lent}

-- each call is a step that the database keeps, with the step's reply; showing something leaves the database as it is
abbrev pub Steps : Content → List Deed → Content → Type 0
Steps d [] after = after ≡ d
Steps d (Shown sight ∷ deeds) after = Steps d deeds after
Steps d (Called call ∷ deeds) after =
    (is_full d ≡ false) × (call.reply ≡ (step d.state call.event).reply) × Steps (stepped d call.event call.reply) deeds after

-- no further step can be kept
abbrev pub IsFull : Content → Type 0
IsFull d = is_full d ≡ true

-- the database of the same loan takes these steps, and the calls are added to the list
pub record LentMoves (old : Lent) (made : List Deed) (new : Lent) : Type 0 where
  pub same_loan : new.database.ghost_name ≡ old.database.ghost_name
  pub steps : Steps old.database.now made new.database.now
  pub added : new.calls.items ≡ old.calls.items ++ calls_of made

-- the database of the same loan is rolled; `steps` steps were taken before its base
pub record LentRolls (old : Lent) (steps : ℕ) (new : Lent) : Type 0 where
  pub same_loan : new.database.ghost_name ≡ old.database.ghost_name
  pub rolled : new.database.now ≡ rolled_up old.database.now
  pub counted : steps ≡ steps_of old.database.now
  pub same_calls : new.calls.items ≡ old.calls.items

-- both are the same loan of the same database
pub record SameDatabase (old new : Lent) : Type 0 where
  pub same_loan : new.database.ghost_name ≡ old.database.ghost_name
  pub same : new.database.now ≡ old.database.now
