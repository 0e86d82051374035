-- PCNtf (RFC 5440 section 6.6): none of it is used, but an object's own fault counts.
use Rattle.std.specs.Prelude.{ℕ, List, Option, Some, None, Result, Ok, Err}
use Rattle.pcep_objects.specs.declared.fault.ObjectFault.{ObjectFault}
use Rattle.pcep_messages.specs.Objects.{found_in}
use Rattle.pcep_messages.specs.declared.fault.About.TheVariants as about
use Rattle.pcep_messages.specs.declared.fault.MessageFault.{MessageFault}
use Rattle.pcep_messages.specs.declared.fault.MessageFault.TheVariants.{BadObject}
use Rattle.pcep_messages.specs.declared.message.Message.{Message}
use Rattle.pcep_messages.specs.declared.message.Message.TheVariants as messages

abbrev pub notify_or_fault : Option ObjectFault → Result Message MessageFault
notify_or_fault None = Ok messages.Notify
notify_or_fault (Some fault) = Err (BadObject fault about.Nothing)

unfoldable pub notification_body : List ℕ → Result Message MessageFault
notification_body body = notify_or_fault (found_in body).fault
