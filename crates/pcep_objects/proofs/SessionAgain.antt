-- The bodies of a session's objects are read again from their spelling.
use Rattle.std.proofs.Common.{◌≡◌, ℕ, Bool, true, false, Option, Some, None, Ok, refl}
use Rattle.lsp_words.specs.declared.object.Capabilities.{Capabilities}
use Rattle.pcep_objects.specs.declared.session_objects.Open.{Open}
use Rattle.pcep_objects.specs.declared.session_objects.Close.{Close}
use Rattle.pcep_objects.specs.declared.session_objects.Notification.{Notification}
use Rattle.pcep_objects.specs.declared.session_objects.PcepError.{PcepError}
use Rattle.pcep_objects.specs.Steps.{cut}
use Rattle.pcep_objects.specs.Tlvs.{tlv_size, tlvs_in, skipped_tlvs, value_in, word_in}
use Rattle.pcep_objects.specs.SessionObjects.{open_of, open_written, close_of, close_written, notification_of, notification_written, error_of, error_written}

abbrev opened : ℕ → ℕ → ℕ → Option Capabilities → Open
opened keepalive dead_timer sid capabilities = record { keepalive = keepalive; dead_timer = dead_timer; sid = sid; capabilities = capabilities }

abbrev capable : Bool → Bool → Capabilities
capable update create = record { update = update; create = create }

flags_again : (k d s : ℕ) (update create : Bool) → open_of (open_written (opened k d s (Some (capable update create)))) ≡ Ok (opened k d s (Some (capable update create)))
unfolding open_of word_in value_in tlvs_in cut tlv_size
flags_again k d s true true = refl
flags_again k d s true false = refl
flags_again k d s false true = refl
flags_again k d s false false = refl

opened_again : (k d s : ℕ) (capabilities : Option Capabilities) → open_of (open_written (opened k d s capabilities)) ≡ Ok (opened k d s capabilities)
unfolding open_of word_in value_in tlvs_in cut
opened_again k d s None = refl
opened_again k d s (Some c) = flags_again k d s c.update c.create

pub open_again : (object : Open) → open_of (open_written object) ≡ Ok object
open_again object = opened_again object.keepalive object.dead_timer object.sid object.capabilities

pub close_again : (object : Close) → close_of (close_written object) ≡ Ok object
unfolding close_of skipped_tlvs tlvs_in cut
close_again object = refl

pub notification_again : (object : Notification) → notification_of (notification_written object) ≡ Ok object
unfolding notification_of skipped_tlvs tlvs_in cut
notification_again object = refl

pub error_again : (object : PcepError) → error_of (error_written object) ≡ Ok object
unfolding error_of skipped_tlvs tlvs_in cut
error_again object = refl
