-- A roll of a full history: how a store that a seat stands for makes room.
use Rattle.std.proofs.Common.{◌≡◌, ℕ, true, List, [], Option, None, Some}
use Rattle.std.proofs.lemmas.List.{append-nil}
use mathlib.Core.List.{IsPrefix}
use Rattle.te_base.specs.Ted.{Ted}
use Rattle.history_core.specs.Histories.{is_full}
use Rattle.history_tokens.specs.declared.rule.Happening.{Happening}
use Rattle.step_core.specs.declared.event.Event.{Event}
use Rattle.history_seats.specs.Past.{database_at, with_seen}
use Rattle.history_seats.specs.Receipts.{SeatContent}
use Rattle.shared_pce.specs.Turns.{SeesMore, RolledUp, RollsIf}
use Rattle.engine_core.specs.Deeds.{Deed}
use Rattle.engine_core.specs.Stores.{MakesRoom}

module _ {T : Type 0} (moves : T → List Deed → T → Type 0) (full : T → Type 0) (rolls : T → ℕ → T → Type 0) (text : Ted) (a b : T) (stands : SeatContent → T) (old new : SeatContent) where
  -- between the two stands the store with the seat that had seen the full history
  pub makes_room : (r : Option ℕ) → (SeesMore old new → moves a [] b) → ((past : List (Happening Event)) → IsPrefix old.seen past → moves a [] (stands (with_seen past old)))
      → ((s : SeatContent) → is_full (database_at text s.seen) ≡ true → full (stands s)) → ((s : SeatContent) (steps : ℕ) → RolledUp text s new steps → rolls (stands s) steps b)
      → RollsIf is_full text old new r → MakesRoom moves full rolls a b r
  makes_room None sees shown was_full rolled h = sees h.0
  makes_room (Some steps) sees shown was_full rolled h =
      let mid : SeatContent = with_seen h.0 old in
      (stands mid, shown h.0 h.1, was_full mid h.2, rolled mid steps (h.0, ([], append-nil h.0), h.3, h.4))
