-- The moves of a lent database follow one another.
use Rattle.std.proofs.Common.{◌++◌, List, [], ◌∷◌, refl, sym, ◌∙◌, subst}
use Rattle.std.proofs.lemmas.List.{append-nil}
use Rattle.history_core.specs.Histories.{Content, stepped}
use Rattle.engine_core.specs.DeedLaws.{added_on}
use Rattle.engine_core.specs.Deeds.{Deed, Sight, Called, Shown}
use Rattle.engine_core.specs.Lending.{Steps, LentMoves}
use Rattle.engine_core.specs.declared.lent.Lent.{Lent}

steps_on : (a b c : Content) (first second : List Deed) → Steps a first b → Steps b second c → Steps a (first ++ second) c
steps_on a b c [] second h k = subst (λ (d : Content). Steps d second c) h k
steps_on a b c (Shown sight ∷ first) second h k = steps_on a b c first second h k
steps_on a b c (Called call ∷ first) second h k = (h.0, h.1, steps_on (stepped a call.event call.reply) b c first second h.2 k)

pub moves_nowhere : (s : Lent) → LentMoves s [] s
moves_nowhere s = record { same_loan = refl; steps = refl; added = sym (append-nil s.calls.items) }

-- showing something leaves the database as it is
pub moves_shown : (s : Lent) (sight : Sight) → LentMoves s (Shown sight ∷ []) s
moves_shown s sight = record { same_loan = refl; steps = refl; added = sym (append-nil s.calls.items) }

pub moves_on : (a b c : Lent) (first second : List Deed) → LentMoves a first b → LentMoves b second c → LentMoves a (first ++ second) c
moves_on a b c first second h k = record {
  same_loan = k.same_loan ∙ h.same_loan;
  steps = steps_on a.database.now b.database.now c.database.now first second h.steps k.steps;
  added = added_on a.calls.items b.calls.items c.calls.items first second h.added k.added;
}
