-- What a PCErr says (RFC 5440 section 6.7, RFC 8231 section 6.3), or the first fault.
use Rattle.std.specs.Prelude.{ℕ, List, Option, Some, None, Result, Ok}
use Rattle.std.specs.List.{filter_map}
use Rattle.pcep_objects.specs.declared.object.Object.{Object}
use Rattle.pcep_objects.specs.declared.object.Object.TheVariants as objects
use Rattle.pcep_objects.specs.declared.session_objects.PcepError.{PcepError}
use Rattle.pcep_messages.specs.Objects.{found_in}
use Rattle.pcep_messages.specs.Parts.{unless_bad}
use Rattle.pcep_messages.specs.declared.fault.About.TheVariants as about
use Rattle.pcep_messages.specs.declared.fault.MessageFault.{MessageFault}
use Rattle.pcep_messages.specs.declared.message.Errors.{Errors}
use Rattle.pcep_messages.specs.declared.message.Message.{Message}
use Rattle.pcep_messages.specs.declared.message.Message.TheVariants as messages

-- what an object names: a request by an RP, a stateful request by an SRP, an error by a PCEP-ERROR
abbrev pub named_request : Object → Option ℕ
named_request (objects.Rp rp) = Some rp.id
named_request object = None

abbrev pub named_srp : Object → Option ℕ
named_srp (objects.Srp srp) = Some srp.id
named_srp object = None

abbrev pub named_error : Object → Option PcepError
named_error (objects.Error error) = Some error
named_error object = None

-- the requests and errors that a PCErr names, each in the order of the message
abbrev pub errors_of : List Object → Errors
errors_of objects = record {
  requests = filter_map named_request objects;
  srps = filter_map named_srp objects;
  errors = filter_map named_error objects;
}

-- the body of a PCErr that lacks nothing
unfoldable pub errors_body : List ℕ → Result Message MessageFault
errors_body body = unless_bad (found_in body).fault about.Nothing (Ok (messages.Error (errors_of (found_in body).objects)))
