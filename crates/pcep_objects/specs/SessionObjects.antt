-- The objects of a session's own messages, read and spelled: OPEN, CLOSE, NOTIFICATION, PCEP-ERROR.
use Rattle.std.specs.Prelude.{ℕ, ◌+◌, List, [], ◌∷◌, ◌++◌, length, drop, slice_index, Option, Some, None, Result, Ok, Err, nat_lt, if◌then◌else◌}
use Rattle.std.specs.Option.{option_map}
use Rattle.pcep_objects.specs.Steps.{◌>>=◌, has}
use Rattle.pcep_objects.specs.Tlvs.{word_in, skipped_tlvs, word_spelled}
use Rattle.pcep_objects.specs.declared.fault.BodyFault.{BodyFault}
use Rattle.pcep_objects.specs.declared.fault.BodyFault.TheVariants.{BadLength}
use Rattle.lsp_words.specs.declared.object.Capabilities.{Capabilities}
use Rattle.pcep_objects.specs.declared.session_objects.Open.{Open}
use Rattle.pcep_objects.specs.declared.session_objects.Close.{Close}
use Rattle.pcep_objects.specs.declared.session_objects.Notification.{Notification}
use Rattle.pcep_objects.specs.declared.session_objects.PcepError.{PcepError}

-- STATEFUL-PCE-CAPABILITY, type 16: U 0x1 (RFC 8231 section 7.1.1), I 0x4 (RFC 8281 section 4.1)
abbrev pub capabilities_of : ℕ → Capabilities
capabilities_of word = record { update = has word 0x1; create = has word 0x4 }

abbrev pub capabilities_written : Capabilities → List ℕ
capabilities_written capabilities =
    word_spelled 16 ((if capabilities.update then 0x1 else 0) + (if capabilities.create then 0x4 else 0))

-- OPEN (RFC 5440 section 7.3): version (3 bits) and flags (5), Keepalive, DeadTimer, SID, TLVs. The version isn't
-- checked when read, and is written as 1.
unfoldable pub open_of : List ℕ → Result Open BodyFault
open_of body =
    if nat_lt (length body) 4 then Err BadLength else (do
      word ← word_in 16 (drop 4 body)
      Ok (record {
        keepalive = slice_index body 1;
        dead_timer = slice_index body 2;
        sid = slice_index body 3;
        capabilities = option_map capabilities_of word;
      }))

abbrev pub capabilities_after : Option Capabilities → List ℕ
capabilities_after None = []
capabilities_after (Some capabilities) = capabilities_written capabilities

abbrev pub open_written : Open → List ℕ
open_written object =
    (0x20 ∷ object.keepalive ∷ object.dead_timer ∷ object.sid ∷ []) ++ capabilities_after object.capabilities

-- CLOSE (RFC 5440 section 7.17): reserved (16 bits), flags, reason, TLVs
unfoldable pub close_of : List ℕ → Result Close BodyFault
close_of body =
    if nat_lt (length body) 4 then Err BadLength else (do
      skipped ← skipped_tlvs (drop 4 body)
      Ok (record { reason = slice_index body 3 }))

abbrev pub close_written : Close → List ℕ
close_written object = 0 ∷ 0 ∷ 0 ∷ object.reason ∷ []

-- NOTIFICATION (RFC 5440 section 7.14): reserved, flags, type, value, TLVs
unfoldable pub notification_of : List ℕ → Result Notification BodyFault
notification_of body =
    if nat_lt (length body) 4 then Err BadLength else (do
      skipped ← skipped_tlvs (drop 4 body)
      Ok (record { notification_type = slice_index body 2; value = slice_index body 3 }))

abbrev pub notification_written : Notification → List ℕ
notification_written object = 0 ∷ 0 ∷ object.notification_type ∷ object.value ∷ []

-- PCEP-ERROR (RFC 5440 section 7.15): reserved, flags, type, value, TLVs
unfoldable pub error_of : List ℕ → Result PcepError BodyFault
error_of body =
    if nat_lt (length body) 4 then Err BadLength else (do
      skipped ← skipped_tlvs (drop 4 body)
      Ok (record { error_type = slice_index body 2; value = slice_index body 3 }))

abbrev pub error_written : PcepError → List ℕ
error_written object = 0 ∷ 0 ∷ object.error_type ∷ object.value ∷ []
