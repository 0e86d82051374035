-- The objects of a message, from first to last.
use Rattle.std.specs.Prelude.{◌≡◌, ℕ, zero, suc, ◌-◌, Bool, true, false, ◌&&◌, List, [], ◌∷◌, Option, Some, None, Result, Ok, Err, if◌then◌else◌}
use Rattle.pcep_objects.specs.Objects.{object_at}
use Rattle.pcep_objects.specs.declared.fault.ObjectFault.{ObjectFault}
use Rattle.pcep_objects.specs.declared.fault.ObjectFault.TheVariants.{UnknownClass, UnknownType}
use Rattle.pcep_objects.specs.declared.object.Object.{Object}

-- the objects up to the first that has a fault of its own, and that fault
pub record Found : Type 0 where
  pub objects : List Object
  pub fault : Option ObjectFault

abbrev pub stopped_by : ObjectFault → Found
stopped_by fault = record { objects = []; fault = Some fault }

-- The object at the front, followed by what the rest has. An object of an unknown class or type is skipped; in a
-- message that checks their P flag, one that must be processed is a fault.
abbrev pub followed_by : Bool → Result (Object × ℕ) ObjectFault → (ℕ → Found) → Found
followed_by checks_p (Ok x) rest = record { objects = x.0 ∷ (rest x.1).objects; fault = (rest x.1).fault }
followed_by checks_p (Err (UnknownClass p n)) rest = if checks_p && p then stopped_by (UnknownClass p n) else rest n
followed_by checks_p (Err (UnknownType p n)) rest = if checks_p && p then stopped_by (UnknownType p n) else rest n
followed_by checks_p (Err fault) rest = stopped_by fault

-- `skip` is how many bytes of an object that was read are still to be passed
unfoldable pub found_from : Bool → ℕ → List ℕ → Found
found_from checks_p skip [] = record { objects = []; fault = None }
found_from checks_p (suc skip) (b ∷ bytes) = found_from checks_p skip bytes
found_from checks_p zero (b ∷ bytes) = followed_by checks_p (object_at (b ∷ bytes)) (λ n. found_from checks_p (n - 1) bytes)

abbrev pub found_by : Bool → List ℕ → Found
found_by checks_p bytes = found_from checks_p 0 bytes

-- P counts only in a request (RFC 5440 section 7.2)
abbrev pub found_in : List ℕ → Found
found_in bytes = found_by false bytes

abbrev pub found_in_request : List ℕ → Found
found_in_request bytes = found_by true bytes

abbrev pub IsFound : Found → List Object → Option ObjectFault → Type 0
IsFound found objects fault = found ≡ record { objects = objects; fault = fault }
