-- The messages that a session sends by itself: Keepalive, PCErr with one error, and Close (RFC 5440
-- sections 6.3, 6.7 and 6.8).
use Rattle.std.specs.Prelude.{ℕ, List, [], ◌∷◌}
use Rattle.pcep_messages.specs.Spelling.{written}
use Rattle.pcep_messages.specs.declared.fault.About.{About}
use Rattle.pcep_messages.specs.declared.fault.About.TheVariants as about
use Rattle.pcep_messages.specs.declared.message.Message.{Message}
use Rattle.pcep_messages.specs.declared.message.Message.TheVariants as messages
use Rattle.pcep_messages.specs.declared.notice.PcError.{PcError}
use Rattle.pcep_messages.specs.declared.notice.Notice.{Notice}
use Rattle.pcep_messages.specs.declared.notice.Notice.TheVariants.{Keepalive, Error, Close}

-- a PCErr names the request, or the stateful request, that it is about
abbrev pub requests_about : About → List ℕ
requests_about (about.Request id) = id ∷ []
requests_about a = []

abbrev pub srps_about : About → List ℕ
srps_about (about.Srp id) = id ∷ []
srps_about a = []

abbrev pub error_about : About → ℕ → ℕ → Message
error_about a kind value = messages.Error (record {
  requests = requests_about a;
  srps = srps_about a;
  errors = record { error_type = kind; value = value } ∷ [];
})

-- the message for a notice
abbrev pub message_of_notice : Notice → Message
message_of_notice Keepalive = messages.Keepalive
message_of_notice (Error error) = error_about error.about error.kind error.value
message_of_notice (Close reason) = messages.Close reason

-- the bytes of a notice
abbrev pub notice_text : Notice → List ℕ
notice_text notice = written (message_of_notice notice)

abbrev pub error_text : PcError → List ℕ
error_text error = notice_text (Error error)
