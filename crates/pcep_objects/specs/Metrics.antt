-- METRIC (RFC 5440 section 7.8), read and spelled: reserved (16 bits), flags (B 0x01, C 0x02), the type T,
-- and a word, rounded down.
use Rattle.std.specs.Prelude.{ℕ, ◌+◌, not, List, [], ◌∷◌, ◌++◌, length, slice_index, Option, Some, None, Result, Ok, Err, ◌==◌, if◌then◌else◌}
use Rattle.byteorder.specs.Endian.{big_bytes}
use Rattle.pcep_word.specs.Word.{bound_of, word_of}
use Rattle.pcep_objects.specs.Steps.{field, has}
use Rattle.pcep_objects.specs.declared.fault.BodyFault.{BodyFault}
use Rattle.pcep_objects.specs.declared.fault.BodyFault.TheVariants.{BadLength, BadNumber}
use Rattle.pcep_objects.specs.declared.object.Metric.{Metric}

abbrev pub metric_or_bad : List ℕ → Option ℕ → Result Metric BodyFault
metric_or_bad body None = Err BadNumber
metric_or_bad body (Some value) =
    Ok (record { bound = has (slice_index body 2) 0x01; computed = has (slice_index body 2) 0x02; metric_type = slice_index body 3; value = value })

unfoldable pub metric_of : List ℕ → Result Metric BodyFault
metric_of body = if not (length body == 8) then Err BadLength else metric_or_bad body (bound_of (field 4 4 body))

abbrev pub metric_written : Metric → List ℕ
metric_written metric =
    (0 ∷ 0 ∷ ((if metric.bound then 0x01 else 0) + (if metric.computed then 0x02 else 0)) ∷ metric.metric_type ∷ []) ++ big_bytes 4 (word_of metric.value)
