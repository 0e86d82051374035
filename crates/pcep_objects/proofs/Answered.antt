-- A total function that gives a value or a fault has exactly one answer.
use Rattle.std.proofs.Common.{◌≡◌, Result, Ok, Err, refl, inl, inr}
use Rattle.pcep_objects.specs.Steps.{HasOneAnswer}

pub one_answer : {X E : Type 0} (r : Result X E) → HasOneAnswer (λ (x : X). r ≡ Ok x) (λ (fault : E). r ≡ Err fault)
one_answer (Ok z) = record {
  answered = inl (z, refl);
  never_both = λ x fault p q. cc;
  one_value = λ x y p q. cc;
  one_fault = λ fault other p q. cc;
}
one_answer (Err z) = record {
  answered = inr (z, refl);
  never_both = λ x fault p q. cc;
  one_value = λ x y p q. cc;
  one_fault = λ fault other p q. cc;
}
