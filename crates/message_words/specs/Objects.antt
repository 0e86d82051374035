-- Objects, one line each: its name, then its fields by the names of the RFCs.
use Rattle.std.specs.Prelude.{ℕ, List, [], codes, Option, Some, None}
use Rattle.std.specs.Fmt.{decimal}
use Rattle.hex.specs.Hex.{encode_lower}
use Rattle.pcep_word.specs.Address.{text_of}
use Rattle.pcep_objects.specs.declared.object.BandwidthType.{BandwidthType}
use Rattle.pcep_objects.specs.declared.object.BandwidthType.TheVariants.{Requested, Current}
use Rattle.pcep_objects.specs.declared.object.KeptClass.{KeptClass}
use Rattle.pcep_objects.specs.declared.object.KeptClass.TheVariants as kept
use Rattle.pcep_objects.specs.declared.object.Kept.{Kept}
use Rattle.pcep_objects.specs.declared.object.LspObject.{LspObject}
use Rattle.pcep_objects.specs.declared.object.Lspa.{Lspa}
use Rattle.pcep_objects.specs.declared.object.Metric.{Metric}
use Rattle.pcep_objects.specs.declared.object.Object.{Object}
use Rattle.pcep_objects.specs.declared.object.Object.TheVariants as objects
use Rattle.pcep_objects.specs.declared.object.Srp.{Srp}
use Rattle.pcep_objects.specs.declared.request_objects.EndPoints.{EndPoints}
use Rattle.pcep_objects.specs.declared.request_objects.NoPath.{NoPath}
use Rattle.pcep_objects.specs.declared.request_objects.Rp.{Rp}
use Rattle.pcep_objects.specs.declared.session_objects.Close.{Close}
use Rattle.pcep_objects.specs.declared.session_objects.Notification.{Notification}
use Rattle.pcep_objects.specs.declared.session_objects.Open.{Open}
use Rattle.pcep_objects.specs.declared.session_objects.PcepError.{PcepError}
use Rattle.message_words.specs.declared.fields.LspFields.{LspFields}
use Rattle.message_words.specs.Fields.{◌+>◌, bit, lsp_field_words, name_words, identifier_words, lsp_error_words, hops_words, colour_words, capability_words, vector_words}

unfoldable pub timer_words : Open → List ℕ
timer_words o = codes "OPEN keepalive " +> decimal o.keepalive +> codes " deadtimer " +> decimal o.dead_timer +> codes " sid " +> decimal o.sid

abbrev pub open_words : Open → List ℕ
open_words o = timer_words o +> capability_words o.capabilities

abbrev pub rp_words : Rp → List ℕ
rp_words rp = codes "RP request-id " +> decimal rp.id +> codes " p " +> bit rp.p +> codes " priority " +> decimal rp.priority +> codes " reoptimize " +> bit rp.reoptimize +> codes " bidirectional " +> bit rp.bidirectional +> codes " loose " +> bit rp.loose

unfoldable pub nature_words : NoPath → List ℕ
nature_words n = codes "NO-PATH nature " +> decimal n.nature +> codes " constraints " +> bit n.constraints

abbrev pub no_path_words : NoPath → List ℕ
no_path_words n = nature_words n +> vector_words n.vector

abbrev pub end_points_words : EndPoints → List ℕ
end_points_words ends = codes "END-POINTS " +> text_of ends.source +> codes " " +> text_of ends.destination +> codes " p " +> bit ends.p

-- the bandwidth that is asked for, or that of an existing LSP
abbrev pub existing : BandwidthType → List ℕ
existing Requested = []
existing Current = codes " existing"

abbrev pub bandwidth_words : BandwidthType → ℕ → List ℕ
bandwidth_words kind bandwidth = codes "BANDWIDTH" +> existing kind +> codes " " +> decimal bandwidth +> codes " bytes/s"

abbrev pub metric_words : Metric → List ℕ
metric_words m = codes "METRIC type " +> decimal m.metric_type +> codes " bound " +> bit m.bound +> codes " computed " +> bit m.computed +> codes " value " +> decimal m.value

unfoldable pub priority_words : Lspa → List ℕ
priority_words a = codes "LSPA setup " +> decimal a.setup +> codes " hold " +> decimal a.hold +> codes " local-protection " +> bit a.local_protection

abbrev pub lspa_words : Lspa → List ℕ
lspa_words a = priority_words a +> colour_words a.colours

abbrev pub kept_name : KeptClass → List ℕ
kept_name kept.Iro = codes "IRO"
kept_name kept.Svec = codes "SVEC"
kept_name kept.LoadBalancing = codes "LOAD-BALANCING"

abbrev pub kept_words : Kept → List ℕ
kept_words k = (kept_name k.class +> codes " p " +> bit k.p +> codes " body ") +> encode_lower k.body

abbrev pub notification_words : Notification → List ℕ
notification_words n = codes "NOTIFICATION type " +> decimal n.notification_type +> codes " value " +> decimal n.value

abbrev pub error_words : PcepError → List ℕ
error_words e = codes "PCEP-ERROR type " +> decimal e.error_type +> codes " value " +> decimal e.value

abbrev pub close_words : Close → List ℕ
close_words c = codes "CLOSE reason " +> decimal c.reason

abbrev pub fields_of : LspObject → LspFields
fields_of l = record { plsp = l.plsp; delegate = l.delegate; sync = l.sync; remove = l.remove; admin = l.admin; operational = l.operational; created = l.created }

-- a name, if there is one
abbrev pub named : Option (List ℕ) → List ℕ
named None = []
named (Some name) = name_words name

abbrev pub lsp_words : LspObject → List ℕ
lsp_words l = lsp_field_words (fields_of l) +> named l.name +> identifier_words l.identifiers +> lsp_error_words l.error_code l.rsvp_error

abbrev pub srp_words : Srp → List ℕ
srp_words s = codes "SRP srp-id " +> decimal s.id +> codes " remove " +> bit s.remove

abbrev pub object_words : Object → List ℕ
object_words (objects.Open x) = open_words x
object_words (objects.Rp x) = rp_words x
object_words (objects.NoPath x) = no_path_words x
object_words (objects.EndPoints x) = end_points_words x
object_words (objects.Bandwidth kind bandwidth) = bandwidth_words kind bandwidth
object_words (objects.Metric x) = metric_words x
object_words (objects.Ero hops) = codes "ERO" +> hops_words hops
object_words (objects.Rro hops) = codes "RRO" +> hops_words hops
object_words (objects.Lspa x) = lspa_words x
object_words (objects.Kept x) = kept_words x
object_words (objects.Notification x) = notification_words x
object_words (objects.Error x) = error_words x
object_words (objects.Close x) = close_words x
object_words (objects.Lsp x) = lsp_words x
object_words (objects.Srp x) = srp_words x
