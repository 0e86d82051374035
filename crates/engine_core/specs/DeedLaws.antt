-- The calls among deeds that follow one another.
use Rattle.std.proofs.Common.{◌≡◌, ◌++◌, List, [], ◌∷◌, refl, sym, ◌∙◌, ap, append_assoc}
use Rattle.engine_core.specs.Deeds.{Deed, Called, Shown, calls_of}
use Rattle.engine_core.specs.declared.store.Call.{Call}

pub calls_on : (first second : List Deed) → calls_of (first ++ second) ≡ calls_of first ++ calls_of second
calls_on [] second = refl
calls_on (Called call ∷ first) second = ap (λ (calls : List Call). call ∷ calls) (calls_on first second)
calls_on (Shown sight ∷ first) second = calls_on first second

-- a list to which the calls of the first deeds are added, and then those of the second
pub added_on : (x y z : List Call) (first second : List Deed) → y ≡ x ++ calls_of first → z ≡ y ++ calls_of second → z ≡ x ++ calls_of (first ++ second)
added_on x y z first second h k =
    k ∙ ap (λ (calls : List Call). calls ++ calls_of second) h ∙ append_assoc x (calls_of first) (calls_of second) ∙ sym (ap (λ (calls : List Call). x ++ calls) (calls_on first second))
