-- The steps by which a reader takes in the objects of a message. No public clause cites them.
use Rattle.std.specs.Prelude.{◌≡◌, ◌<◌, ℕ, length, Bool, ◌&&◌, List, [], ◌∷◌, Option, Some, None, Result, Ok, Err, if◌then◌else◌}
use Rattle.pcep_objects.specs.Faults.{fault_of}
use Rattle.pcep_objects.specs.Objects.{body_of}
use Rattle.pcep_objects.specs.declared.fault.BodyFault.{BodyFault}
use Rattle.pcep_objects.specs.declared.fault.ObjectFault.{ObjectFault}
use Rattle.pcep_objects.specs.declared.fault.ObjectFault.TheVariants.{UnknownClass, UnknownType}
use Rattle.pcep_objects.specs.declared.object.Object.{Object}
use Rattle.pcep_messages.specs.declared.fault.MessageFault.{MessageFault}
use Rattle.pcep_messages.specs.declared.fault.MessageFault.TheVariants.{OutOfMemory}
use Rattle.pcep_messages.specs.Objects.{Found, stopped_by, found_by}
use Rattle.pcep_messages.specs.declared.objects.Next.{Next}
use Rattle.pcep_messages.specs.declared.objects.Next.TheVariants as next

-- the length of an object that is skipped; None if it is a fault
abbrev pub skipped : Bool → ObjectFault → Option ℕ
skipped checks_p (UnknownClass p n) = if checks_p && p then None else Some n
skipped checks_p (UnknownType p n) = if checks_p && p then None else Some n
skipped checks_p fault = None

-- what is found if the first object has this body
abbrev pub begun_by : Result Object BodyFault → Found → Found
begun_by (Ok object) rest = record { objects = object ∷ rest.objects; fault = rest.fault }
begun_by (Err fault) rest = stopped_by (fault_of fault)

abbrev pub nothing_found : Found
nothing_found = record { objects = []; fault = None }

-- the object at the front of the bytes, after the objects that are skipped
abbrev pub IsNext : Bool → List ℕ → Next → Type 0
IsNext checks_p bytes (next.Object front after) = (found_by checks_p bytes ≡ begun_by (body_of front.kind front.p front.body.now) (found_by checks_p after.now)) × (length after.now < length bytes)
IsNext checks_p bytes (next.Bad fault) = found_by checks_p bytes ≡ stopped_by fault
IsNext checks_p bytes next.End = found_by checks_p bytes ≡ nothing_found

-- the state after the object of a body; a body with a fault isn't taken in
abbrev pub taken_by : {S : Type 0} → (Object → S → Result S MessageFault) → Result Object BodyFault → S → Result S MessageFault
taken_by after (Ok object) s = after object s
taken_by after (Err fault) s = Err OutOfMemory
