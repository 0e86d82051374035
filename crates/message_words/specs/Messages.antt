-- Messages: a line for the kind, and one for each object that counts. If the bytes of a report or a request have no
-- LSPA, BANDWIDTH or METRIC, the words give the value that it then counts as.
use Rattle.std.specs.Prelude.{ℕ, Bool, false, List, [], ◌∷◌, codes, Option, Some, None}
use Rattle.std.specs.Fmt.{decimal}
use Rattle.pcep_word.specs.Address.{text_of}
use Rattle.pcep_word.specs.Priority.{InForce}
use Rattle.lsp_words.specs.declared.object.Colours.{Colours}
use Rattle.lsp_words.specs.declared.object.Hop.{Hop}
use Rattle.lsp_words.specs.declared.object.MetricType.{MetricType}
use Rattle.lsp_words.specs.declared.object.MetricType.TheVariants.{Igp, Te, Hops}
use Rattle.pcep_objects.specs.declared.session_objects.Open.{Open}
use Rattle.pcep_objects.specs.declared.session_objects.PcepError.{PcepError}
use Rattle.pcep_messages.specs.declared.message.Answer.{Answer}
use Rattle.pcep_messages.specs.declared.message.Answer.TheVariants.{Found, NoPath}
use Rattle.pcep_messages.specs.declared.message.Attributes.{Attributes}
use Rattle.pcep_messages.specs.declared.message.Bounds.{Bounds}
use Rattle.pcep_messages.specs.declared.message.Cost.{Cost}
use Rattle.pcep_messages.specs.declared.message.Create.{Create}
use Rattle.pcep_messages.specs.declared.message.Errors.{Errors}
use Rattle.pcep_messages.specs.declared.message.Initiate.{Initiate}
use Rattle.pcep_messages.specs.declared.message.Initiate.TheVariants as initiate
use Rattle.pcep_messages.specs.declared.message.Message.{Message}
use Rattle.pcep_messages.specs.declared.message.Message.TheVariants as messages
use Rattle.pcep_messages.specs.declared.message.PathRequest.{PathRequest}
use Rattle.pcep_messages.specs.declared.message.PathReply.{PathReply}
use Rattle.pcep_messages.specs.declared.message.StateReport.{StateReport}
use Rattle.pcep_messages.specs.declared.message.Update.{Update}
use Rattle.message_words.specs.declared.fields.LspFields.{LspFields}
use Rattle.message_words.specs.Fields.{◌+>◌, bit, lsp_field_words, name_words, identifier_words, lsp_error_words, protection_words, hops_words, colour_words, vector_words}
use Rattle.message_words.specs.Objects.{open_words, error_words, named}

-- ---- the lines

abbrev pub rp_line : ℕ → List ℕ
rp_line id = codes "\n  RP request-id " +> decimal id

abbrev pub srp_line : ℕ → List ℕ
srp_line id = codes "\n  SRP srp-id " +> decimal id

unfoldable pub ends_line : (source destination : ℕ) → List ℕ
ends_line source destination = codes "\n  END-POINTS " +> text_of source +> codes " " +> text_of destination

abbrev pub plsp_line : ℕ → List ℕ
plsp_line plsp = codes "\n  LSP plsp-id " +> decimal plsp

abbrev pub ero_line : List Hop → List ℕ
ero_line hops = codes "\n  ERO" +> hops_words hops

abbrev pub rro_line : Option (List Hop) → List ℕ
rro_line None = []
rro_line (Some hops) = codes "\n  RRO" +> hops_words hops

abbrev pub bandwidth_line : ℕ → List ℕ
bandwidth_line bandwidth = codes "\n  BANDWIDTH " +> decimal bandwidth +> codes " bytes/s"

-- the priorities in force, local protection and the colours
abbrev pub priority_words : InForce → List ℕ
priority_words p = codes "\n  LSPA setup " +> decimal p.setup +> codes " hold " +> decimal p.hold

abbrev pub lspa_line : InForce → Bool → Colours → List ℕ
lspa_line p protected colours = priority_words p +> protection_words protected +> colour_words colours

-- ---- state reports (RFC 8231 section 6.1)

abbrev pub fields_of : StateReport → LspFields
fields_of r = record { plsp = r.plsp; delegate = r.delegate; sync = r.sync; remove = r.remove; admin = r.admin; operational = r.operational; created = r.created }

abbrev pub reported_srp : Option ℕ → List ℕ
reported_srp None = []
reported_srp (Some id) = srp_line id

abbrev pub lsp_line : StateReport → List ℕ
lsp_line r = codes "\n  " +> lsp_field_words (fields_of r)

abbrev pub reported_lsp : StateReport → List ℕ
reported_lsp r = reported_srp r.srp +> lsp_line r +> named r.name +> identifier_words r.identifiers +> lsp_error_words r.error_code r.rsvp_error

unfoldable pub report_words : StateReport → List ℕ
report_words r = reported_lsp r +> ero_line r.ero +> rro_line r.rro +> lspa_line r.priorities r.local_protection r.colours +> bandwidth_line r.bandwidth

abbrev pub reports_words : List StateReport → List ℕ
reports_words [] = []
reports_words (r ∷ reports) = report_words r +> reports_words reports

abbrev pub reports_text : List StateReport → List ℕ
reports_text reports = codes "PCRpt" +> reports_words reports

-- ---- requests for paths (RFC 5440 section 6.4)

abbrev pub metric_name : MetricType → List ℕ
metric_name Igp = codes "igp"
metric_name Te = codes "te"
metric_name Hops = codes "hops"

abbrev pub bound_line : List ℕ → Option ℕ → List ℕ
bound_line name None = []
bound_line name (Some bound) = codes "\n  METRIC " +> name +> codes " bound " +> decimal bound

abbrev pub minimise_line : MetricType → List ℕ
minimise_line minimise = codes "\n  METRIC " +> metric_name minimise +> codes " minimise"

-- what the path is to minimise, and its bounds
abbrev pub metric_lines : MetricType → Bounds → List ℕ
metric_lines minimise b = minimise_line minimise +> bound_line (codes "igp") b.igp +> bound_line (codes "te") b.te +> bound_line (codes "hops") b.hops

abbrev pub asked_plsp : Option ℕ → List ℕ
asked_plsp None = []
asked_plsp (Some plsp) = plsp_line plsp

abbrev pub request_ends : PathRequest → List ℕ
request_ends r = rp_line r.request +> ends_line r.source r.destination +> asked_plsp r.plsp

unfoldable pub request_words : PathRequest → List ℕ
request_words r = request_ends r +> lspa_line r.priorities false r.colours +> bandwidth_line r.bandwidth +> metric_lines r.minimise r.bounds

abbrev pub requests_words : List PathRequest → List ℕ
requests_words [] = []
requests_words (r ∷ requests) = request_words r +> requests_words requests

abbrev pub requests_text : List PathRequest → List ℕ
requests_text requests = codes "PCReq" +> requests_words requests

-- ---- replies (RFC 5440 section 6.5)

abbrev pub cost_line : Cost → List ℕ
cost_line cost = codes "\n  METRIC type " +> decimal cost.metric_type +> codes " value " +> decimal cost.value

-- a cost, if the reply has it
abbrev pub found_cost : Option Cost → List ℕ
found_cost None = []
found_cost (Some cost) = cost_line cost

abbrev pub answer_words : Answer → List ℕ
answer_words (Found hops cost) = ero_line hops +> found_cost cost
answer_words (NoPath vector) = codes "\n  NO-PATH" +> vector_words vector

abbrev pub reply_words : PathReply → List ℕ
reply_words r = codes "PCRep" +> rp_line r.request +> answer_words r.answer

-- ---- errors (RFC 5440 section 6.7)

abbrev pub rp_lines : List ℕ → List ℕ
rp_lines [] = []
rp_lines (id ∷ ids) = rp_line id +> rp_lines ids

abbrev pub srp_lines : List ℕ → List ℕ
srp_lines [] = []
srp_lines (id ∷ ids) = srp_line id +> srp_lines ids

abbrev pub error_line : PcepError → List ℕ
error_line e = codes "\n  " +> error_words e

abbrev pub error_lines : List PcepError → List ℕ
error_lines [] = []
error_lines (e ∷ errors) = error_line e +> error_lines errors

abbrev pub errors_words : Errors → List ℕ
errors_words e = codes "PCErr" +> rp_lines e.requests +> srp_lines e.srps +> error_lines e.errors

-- ---- what a PCE asks for (RFC 8231 section 6.2, RFC 8281 section 5)

abbrev pub attribute_line : Option Attributes → List ℕ
attribute_line None = []
attribute_line (Some a) = lspa_line a.priorities a.local_protection a.colours

abbrev pub wished_bandwidth : Option ℕ → List ℕ
wished_bandwidth None = []
wished_bandwidth (Some bandwidth) = bandwidth_line bandwidth

abbrev pub update_flags : Update → List ℕ
update_flags u = codes " delegate " +> bit u.delegate +> codes " admin " +> bit u.admin

abbrev pub update_front : Update → List ℕ
update_front u = codes "PCUpd" +> srp_line u.srp +> plsp_line u.plsp +> update_flags u

-- the route that is asked for, and the demands on the path
abbrev pub wishes : List Hop → Option Attributes → Option ℕ → List ℕ
wishes hops attributes bandwidth = ero_line hops +> attribute_line attributes +> wished_bandwidth bandwidth

abbrev pub update_words : Update → List ℕ
update_words u = update_front u +> wishes u.ero u.attributes u.bandwidth

unfoldable pub created_srp : ℕ → List ℕ
created_srp srp = codes "\n  SRP srp-id " +> decimal srp +> codes " remove 0\n  LSP"

abbrev pub create_front : Create → List ℕ
create_front c = created_srp c.srp +> name_words c.name +> ends_line c.source c.destination

abbrev pub create_words : Create → List ℕ
create_words c = create_front c +> wishes c.ero c.attributes c.bandwidth

abbrev pub remove_words : (srp plsp : ℕ) → List ℕ
remove_words srp plsp = srp_line srp +> codes " remove 1" +> plsp_line plsp

abbrev pub asked_words : Initiate → List ℕ
asked_words (initiate.Create c) = create_words c
asked_words (initiate.Remove srp plsp) = remove_words srp plsp

abbrev pub initiate_words : Initiate → List ℕ
initiate_words i = codes "PCInitiate" +> asked_words i

-- ---- a message

abbrev pub opening_words : Open → List ℕ
opening_words opening = codes "Open\n  " +> open_words opening

abbrev pub close_line : ℕ → List ℕ
close_line reason = codes "Close\n  CLOSE reason " +> decimal reason

abbrev pub unknown_words : ℕ → List ℕ
unknown_words kind = codes "message of type " +> decimal kind

abbrev pub words_of : Message → List ℕ
words_of (messages.Opening opening) = opening_words opening
words_of messages.Keepalive = codes "Keepalive"
words_of (messages.Request requests) = requests_text requests
words_of (messages.Reply reply) = reply_words reply
words_of messages.Notify = codes "PCNtf"
words_of (messages.Error errors) = errors_words errors
words_of (messages.Close reason) = close_line reason
words_of (messages.Report reports) = reports_text reports
words_of (messages.Update update) = update_words update
words_of (messages.Initiate initiate) = initiate_words initiate
words_of (messages.Unknown kind) = unknown_words kind
