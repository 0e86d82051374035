-- How a store goes on, while its list is emptied and its history rolled in between.
use Rattle.std.specs.Prelude.{ℕ, List, [], ◌++◌}
use Rattle.engine_core.specs.Deeds.{Deed}
use Rattle.engine_core.specs.declared.store.Store as store

-- a store, by the members of its trait: where deeds lead, what stays when its list is emptied, when its history is
-- full, and what a roll leaves
abbrev pub Ways : Type 0 → Type 1
Ways S = store.Ghosts S

-- A store goes on from its start: it is called and shown things, its list is emptied, and if its history is full that
-- is rolled. The list here has all that was done, in order, even calls that the store's own list has lost.
pub data Goes {S : Type 0} (w : Ways S) (start : S) : List Deed → S → Type 0 where
  Stays : Goes w start [] start
  Moves : (before made : List Deed) (a b : S) → Goes w start before a → w.moves a made b → Goes w start (before ++ made) b
  Empties : (before : List Deed) (a b : S) → Goes w start before a → w.same_but_calls a b → Goes w start before b
  Rolls : (before : List Deed) (steps : ℕ) (a b : S) → Goes w start before a → w.is_full a → w.rolls a steps b → Goes w start before b
