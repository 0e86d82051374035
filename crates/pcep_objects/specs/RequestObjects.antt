-- The objects of requests and replies, read and spelled: RP, NO-PATH, END-POINTS.
use Rattle.std.specs.Prelude.{ℕ, ◌+◌, ◌%◌, ◌^◌, ◌<◌, Bool, not, List, [], ◌∷◌, ◌++◌, length, drop, slice_index, Option, Some, None, Result, Ok, Err, nat_lt, ◌==◌, if◌then◌else◌}
use Rattle.std.specs.Option.{option_map}
use Rattle.byteorder.specs.Endian.{big_bytes}
use Rattle.pcep_objects.specs.Steps.{◌>>=◌, field, has}
use Rattle.pcep_objects.specs.Tlvs.{word_in, skipped_tlvs, word_spelled}
use Rattle.pcep_objects.specs.declared.fault.BodyFault.{BodyFault}
use Rattle.pcep_objects.specs.declared.fault.BodyFault.TheVariants.{BadLength}
use Rattle.pcep_objects.specs.declared.request_objects.Rp.{Rp}
use Rattle.pcep_objects.specs.declared.request_objects.NoPath.{NoPath}
use Rattle.pcep_objects.specs.declared.request_objects.NoPathVector.{NoPathVector}
use Rattle.pcep_objects.specs.declared.request_objects.EndPoints.{EndPoints}

-- RP (RFC 5440 section 7.4): flags (Pri in the lowest three bits, R, B, O) and the Request-ID, TLVs
unfoldable pub rp_of : Bool → List ℕ → Result Rp BodyFault
rp_of p body =
    if nat_lt (length body) 8 then Err BadLength else (do
      skipped ← skipped_tlvs (drop 8 body)
      Ok (record {
        p = p;
        priority = field 0 4 body % 2 ^ 3;
        reoptimize = has (field 0 4 body) 0x08;
        bidirectional = has (field 0 4 body) 0x10;
        loose = has (field 0 4 body) 0x20;
        id = field 4 4 body;
      }))

abbrev pub rp_flags : Rp → ℕ
rp_flags object =
    object.priority + (if object.reoptimize then 0x08 else 0) + (if object.bidirectional then 0x10 else 0) + (if object.loose then 0x20 else 0)

abbrev pub rp_written : Rp → List ℕ
rp_written object = big_bytes 4 (rp_flags object) ++ big_bytes 4 object.id

pub record IsRp (object : Rp) : Type 0 where
  pub priority : object.priority < 2 ^ 3
  pub id : object.id < 2 ^ 32

-- NO-PATH-VECTOR, type 1: PCE unavailable 0x1, unknown destination 0x2, unknown source 0x4
abbrev pub vector_of : ℕ → NoPathVector
vector_of word = record { pce_unavailable = has word 0x1; unknown_destination = has word 0x2; unknown_source = has word 0x4 }

abbrev pub vector_word : NoPathVector → ℕ
vector_word vector =
    (if vector.pce_unavailable then 0x1 else 0) + (if vector.unknown_destination then 0x2 else 0) + (if vector.unknown_source then 0x4 else 0)

abbrev pub vector_written : NoPathVector → List ℕ
vector_written vector = word_spelled 1 (vector_word vector)

-- NO-PATH (RFC 5440 section 7.5): nature, flags (16 bits, C the highest), reserved, TLVs
unfoldable pub no_path_of : List ℕ → Result NoPath BodyFault
no_path_of body =
    if nat_lt (length body) 4 then Err BadLength else (do
      word ← word_in 1 (drop 4 body)
      Ok (record { nature = slice_index body 0; constraints = has (slice_index body 1) 0x80; vector = option_map vector_of word }))

abbrev pub vector_after : Option NoPathVector → List ℕ
vector_after None = []
vector_after (Some vector) = vector_written vector

abbrev pub no_path_written : NoPath → List ℕ
no_path_written object = (object.nature ∷ (if object.constraints then 0x80 else 0) ∷ 0 ∷ 0 ∷ []) ++ vector_after object.vector

-- END-POINTS of IPv4 (RFC 5440 section 7.6): source and destination
unfoldable pub end_points_of : Bool → List ℕ → Result EndPoints BodyFault
end_points_of p body =
    if not (length body == 8) then Err BadLength
    else Ok (record { p = p; source = field 0 4 body; destination = field 4 4 body })

abbrev pub end_points_written : EndPoints → List ℕ
end_points_written object = big_bytes 4 object.source ++ big_bytes 4 object.destination

pub record IsEndPoints (object : EndPoints) : Type 0 where
  pub source : object.source < 2 ^ 32
  pub destination : object.destination < 2 ^ 32
