-- The messages that open, keep and close a session (RFC 5440 sections 6.2, 6.3 and 6.8), or the first fault.
use Rattle.std.specs.Prelude.{ℕ, List, Option, Some, None, Result, Ok, Err}
use Rattle.pcep_objects.specs.Kinds.{class_number}
use Rattle.pcep_objects.specs.declared.kind.Kind.TheVariants as kinds
use Rattle.pcep_objects.specs.declared.session_objects.Open.{Open}
use Rattle.pcep_objects.specs.declared.session_objects.Close.{Close}
use Rattle.pcep_messages.specs.Objects.{found_in}
use Rattle.pcep_messages.specs.Parts.{Parts, read_parts}
use Rattle.pcep_messages.specs.declared.fault.About.{About}
use Rattle.pcep_messages.specs.declared.fault.About.TheVariants as about
use Rattle.pcep_messages.specs.declared.fault.MessageFault.{MessageFault}
use Rattle.pcep_messages.specs.declared.fault.MessageFault.TheVariants.{Missing}
use Rattle.pcep_messages.specs.declared.message.Message.{Message}
use Rattle.pcep_messages.specs.declared.message.Message.TheVariants as messages

-- a fault in one of these messages is about nothing that has a number
abbrev pub about_nothing : Parts → About
about_nothing parts = about.Nothing

-- OPEN must be present
abbrev pub opening_or_missing : Option Open → Result Message MessageFault
opening_or_missing None = Err (Missing (class_number kinds.Open) about.Nothing)
opening_or_missing (Some opening) = Ok (messages.Opening opening)

unfoldable pub opening_body : List ℕ → Result Message MessageFault
opening_body body = read_parts about_nothing (λ parts. opening_or_missing parts.opening) (found_in body)

-- a Keepalive has no objects; any that are there are skipped
unfoldable pub keepalive_body : List ℕ → Result Message MessageFault
keepalive_body body = read_parts about_nothing (λ parts. Ok messages.Keepalive) (found_in body)

-- without CLOSE the reason is 1, no explanation
abbrev pub reason_of : Option Close → ℕ
reason_of None = 1
reason_of (Some close) = close.reason

unfoldable pub close_body : List ℕ → Result Message MessageFault
close_body body = read_parts about_nothing (λ parts. Ok (messages.Close (reason_of parts.close))) (found_in body)
