-- Each fault is answered as the table of a session says.
use Rattle.std.proofs.Common.{refl}
use Rattle.pcep_objects.specs.declared.fault.ObjectFault.TheVariants as object
use Rattle.pcep_messages.specs.declared.fault.MessageFault.{MessageFault}
use Rattle.pcep_messages.specs.declared.fault.MessageFault.TheVariants.{BadHeader, BadObject, Missing, MissingIdentifiers, BadP, Refused, OutOfMemory}
use Rattle.message_words.specs.Answers.{IsAnswered}

pub answered : (fault : MessageFault) → IsAnswered fault
answered BadHeader = refl
answered (BadObject object.Short a) = refl
answered (BadObject object.BadLength a) = refl
answered (BadObject object.BadTlv a) = refl
answered (BadObject object.BadNumber a) = refl
answered (BadObject (object.UnknownClass p size) a) = refl
answered (BadObject (object.UnknownType p size) a) = refl
answered (BadObject object.OutOfMemory a) = refl
answered (Missing class a) = refl
answered (MissingIdentifiers a) = refl
answered (BadP a) = refl
answered (Refused kind value a) = refl
answered OutOfMemory = refl
