-- A seat of a shared database as a store: what calls on it do.
use Rattle.std.specs.Prelude.{ℕ, ◌≡◌, ◌⊎◌, true, List, [], ◌∷◌, ◌++◌}
use Rattle.std.specs.Borrow.{MutBor}
use mathlib.Core.List.{IsPrefix}
use Rattle.te_base.specs.Ted.{Ted}
use Rattle.history_core.specs.Histories.{is_full}
use Rattle.history_seats.specs.Past.{database_at, with_seen}
use Rattle.history_seats.specs.Receipts.{SeatContent, after_fold}
use Rattle.shared_pce.specs.Turns.{Received, SeesMore, RolledUp}
use Rattle.engine_core.specs.Deeds.{Deed, Called, Shown, calls_of}
use Rattle.engine_core.specs.declared.store.Call.{Call}

-- each call is a step under the lock, of which the seat gets the receipt; then the seat may see more; showing something
-- leaves the seat as it is
abbrev pub Receives : Ted → SeatContent → List Deed → SeatContent → Type 0
Receives text s [] t = SeesMore s t
Receives text s (Shown sight ∷ deeds) t = Receives text s deeds t
Receives text s (Called call ∷ deeds) t = (mid : SeatContent) × Received text s call.event mid call.reply × Receives text mid deeds t

-- the lent seat received these calls, and they are added to the list
pub record SeatedMoves (text : Ted) (old : MutBor SeatContent) (listed : List Call) (made : List Deed) (new : MutBor SeatContent) (list : List Call) : Type 0 where
  pub same_loan : new.ghost_name ≡ old.ghost_name
  pub received : Receives text old.now made new.now
  pub added : list ≡ listed ++ calls_of made

-- The history was rolled, and `steps` steps were taken before its base. The seat has seen that; otherwise it and the
-- list stay as they were.
pub record SeatedRolls (text : Ted) (old : MutBor SeatContent) (listed : List Call) (steps : ℕ) (new : MutBor SeatContent) (list : List Call) : Type 0 where
  pub same_loan : new.ghost_name ≡ old.ghost_name
  pub same_calls : list ≡ listed
  pub rolled : RolledUp text old.now new.now steps

-- the seat after it may have dropped its receipts of rolled places
abbrev pub IsFolded : Ted → SeatContent → SeatContent → Type 0
IsFolded text old new = IsPrefix old.seen new.seen × (new ≡ with_seen new.seen (after_fold (database_at text new.seen).rolled old))

-- the same loan of the same seat, which may have dropped its receipts of rolled places
pub record SameSeat (text : Ted) (old new : MutBor SeatContent) : Type 0 where
  pub same_loan : new.ghost_name ≡ old.ghost_name
  pub same : (new.now ≡ old.now) ⊎ IsFolded text old.now new.now

-- the history that the seat has seen is full
abbrev pub WasFull : Ted → MutBor SeatContent → Type 0
WasFull text s = is_full (database_at text s.now.seen) ≡ true
