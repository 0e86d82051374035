-- Objects of which one is too long don't fit.
use Rattle.std.proofs.Common.{◌≡◌, Bool, true, false, ◌&&◌, List, ◌++◌, refl, ◌∙◌}
use Rattle.std.proofs.lemmas.List.Folds.{list_all-append}
use Rattle.pcep_objects.specs.declared.object.Object.{Object}
use Rattle.pcep_messages.specs.Spelling.{object_fits, objects_fit}

and_false : (x : Bool) → (x && false) ≡ false
and_false true = refl
and_false false = refl

pub first_bad : (xs ys : List Object) → objects_fit xs ≡ false → objects_fit (xs ++ ys) ≡ false
first_bad xs ys bad = list_all-append object_fits xs ys ∙ rw bad refl

pub second_bad : (xs ys : List Object) → objects_fit ys ≡ false → objects_fit (xs ++ ys) ≡ false
second_bad xs ys bad = list_all-append object_fits xs ys ∙ rw bad (and_false (objects_fit xs))

pub both_fit : (xs ys : List Object) → objects_fit xs ≡ true → objects_fit ys ≡ true → objects_fit (xs ++ ys) ≡ true
both_fit xs ys first second = list_all-append object_fits xs ys ∙ rw (first, second) refl
