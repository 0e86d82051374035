-- A store that goes on.
use Rattle.std.proofs.Common.{ℕ, List, [], Option, Some, None, Result, Ok, Err, IfOk, OnErr, subst}
use Rattle.std.proofs.lemmas.List.{append-nil}
use Rattle.engine_core.specs.Stores.{MakesRoom}
use Rattle.engine_core.specs.Deeds.{Deed}
use Rattle.server_talk.specs.Goings.{Goes, Ways}
use Rattle.server_talk.specs.Goings.Goes.{Moves, Rolls}

-- no call was made
pub goes_nowhere : {S : Type 0} (w : Ways S) (start a b : S) (calls : List Deed) → w.moves a [] b → Goes w start calls a → Goes w start calls b
goes_nowhere w start a b calls h k = subst (λ (all : List Deed). Goes w start all b) (append-nil calls) (Moves calls [] a b k h)

-- its history was found full and is rolled, or more was seen
makes_room : {S : Type 0} (w : Ways S) (rolled : Option ℕ) (start a b : S) (calls : List Deed) → MakesRoom w.moves w.is_full w.rolls a b rolled → Goes w start calls a → Goes w start calls b
makes_room w None start a b calls h went = goes_nowhere w start a b calls h went
makes_room w (Some steps) start a b calls h went = Rolls calls steps h.0 b (goes_nowhere w start a h.0 calls h.1 went) h.2 h.3

-- the same, or memory ran out
pub rolled_on : {X S : Type 0} (w : Ways S) (r : Result (Option ℕ) X) (start a b : S) (calls : List Deed)
    → IfOk r (MakesRoom w.moves w.is_full w.rolls a b) → OnErr r (w.moves a [] b) → Goes w start calls a → Goes w start calls b
rolled_on w (Ok rolled) start a b calls h k went = makes_room w rolled start a b calls h went
rolled_on w (Err fault) start a b calls h k went = goes_nowhere w start a b calls k went
