-- A message is read again from its spelling.
use Rattle.std.proofs.Common.{◌≡◌, ℕ, ◌+◌, ◌^◌, ◌<◌, true, ltb, length, List, None, Result, Ok, ap, ◌∙◌}
use Rattle.std.proofs.lemmas.Bool.{and_parts, ltb-true, false≢true}
use Rattle.pcep_messages.specs.Messages.{message_of, message_in}
use Rattle.pcep_messages.specs.Normal.{IsNormal, IsInitiate}
use Rattle.pcep_messages.specs.Parts.{parts_of, read_parts, unless_bad}
use Rattle.pcep_messages.specs.Objects.{Found, found_in}
use Rattle.pcep_messages.specs.Sessions.{about_nothing, opening_or_missing, opening_body, keepalive_body, reason_of, close_body}
use Rattle.pcep_messages.specs.Errors.{errors_of, errors_body}
use Rattle.pcep_messages.specs.Replies.{about_reply, reply_of, reply_body}
use Rattle.pcep_messages.specs.Updates.{about_parts, update_of, update_body, initiate_of, initiate_body}
use Rattle.pcep_messages.specs.Spelling.{is_written, kind_number, objects_written, objects_spelled, objects_fit, written, fits}
use Rattle.pcep_messages.specs.declared.fault.About.TheVariants as about
use Rattle.pcep_messages.specs.declared.fault.MessageFault.{MessageFault}
use Rattle.pcep_messages.specs.declared.message.Initiate.{Initiate}
use Rattle.pcep_messages.specs.declared.message.Initiate.TheVariants as initiates
use Rattle.pcep_messages.specs.declared.message.Message.{Message}
use Rattle.pcep_messages.specs.declared.message.Message.TheVariants as messages
use Rattle.pcep_messages.proofs.NormalObjects.{normal_objects}
use Rattle.pcep_messages.proofs.PartsAgain.{errors_again, reply_again, update_again, MayBeNormal, initiate_again}
use Rattle.pcep_messages.proofs.Spelled.{all_good, found_again, whole, message_again}

-- the objects of the message were found, without a fault
abbrev IsFoundAgain : Message → List ℕ → Type 0
IsFoundAgain message body = found_in body ≡ record { objects = objects_written message; fault = None }

abbrev read_errors : Found → Result Message MessageFault
read_errors found = unless_bad found.fault about.Nothing (Ok (messages.Error (errors_of found.objects)))

initiate_normal : (initiate : Initiate) → IsInitiate initiate → MayBeNormal initiate
initiate_normal (initiates.Create create) normal = normal.attributes
initiate_normal (initiates.Remove srp plsp) normal = tt

body_again : (message : Message) (body : List ℕ) → is_written message ≡ true → IsNormal message → IsFoundAgain message body → message_of (kind_number message) body ≡ Ok message
unfolding opening_body keepalive_body close_body errors_body reply_body update_body initiate_body parts_of
body_again (messages.Opening opening) body is normal found = ap (read_parts about_nothing (λ parts. opening_or_missing parts.opening)) found
body_again messages.Keepalive body is normal found = ap (read_parts about_nothing (λ parts. Ok messages.Keepalive)) found
body_again (messages.Request requests) body is normal found = absurd (false≢true is)
body_again (messages.Reply reply) body is normal found = ap (read_parts about_reply reply_of) found ∙ reply_again reply
body_again messages.Notify body is normal found = absurd (false≢true is)
body_again (messages.Error errors) body is normal found = ap read_errors found ∙ ap (λ es. Ok (messages.Error es)) (errors_again errors)
body_again (messages.Close reason) body is normal found = ap (read_parts about_nothing (λ parts. Ok (messages.Close (reason_of parts.close)))) found
body_again (messages.Report reports) body is normal found = absurd (false≢true is)
body_again (messages.Update update) body is normal found = ap (read_parts about_parts update_of) found ∙ update_again update normal.attributes
body_again (messages.Initiate initiate) body is normal found = ap (read_parts about_parts initiate_of) found ∙ initiate_again initiate (initiate_normal initiate normal)
body_again (messages.Unknown kind) body is normal found = absurd (false≢true is)

pub again : (message : Message) → is_written message ≡ true → IsNormal message → fits message ≡ true → message_in (written message) ≡ Ok message
again message is normal fit =
    let objects = objects_written message in
    let body = objects_spelled objects in
    let each = normal_objects message normal in
    let parts = and_parts (objects_fit objects) (ltb (length body + 4) (2 ^ 16)) fit in
    let small : length body + 4 < 2 ^ 16 = ltb-true _ _ parts.1 in
    message_again (kind_number message) body small (whole objects each)
    ∙ body_again message body is normal (found_again objects (all_good objects each parts.0))
