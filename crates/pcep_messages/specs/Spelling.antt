-- The one way in which messages are written: a header and objects in order (RFC 5440 section 6, RFC 8231 section 6, RFC
-- 8281 section 5).
use Rattle.std.specs.Prelude.{ℕ, ◌+◌, ◌^◌, Bool, true, false, ◌&&◌, List, [], ◌∷◌, ◌++◌, length, map, Option, Some, None, nat_lt}
use Rattle.std.specs.List.{flat_map, list_all}
use Rattle.byteorder.specs.Endian.{big_bytes}
use Rattle.pcep_objects.specs.Spelling as spelling
use Rattle.pcep_objects.specs.declared.object.BandwidthType.TheVariants.{Requested}
use Rattle.pcep_objects.specs.declared.object.LspObject.{LspObject}
use Rattle.pcep_objects.specs.declared.object.Object.{Object}
use Rattle.pcep_objects.specs.declared.object.Object.TheVariants as objects
use Rattle.pcep_objects.specs.declared.object.Operational.TheVariants.{Down}
use Rattle.pcep_objects.specs.declared.request_objects.NoPathVector.{NoPathVector}
use Rattle.pcep_messages.specs.declared.message.Answer.{Answer}
use Rattle.pcep_messages.specs.declared.message.Answer.TheVariants as answers
use Rattle.pcep_messages.specs.declared.message.Attributes.{Attributes}
use Rattle.pcep_messages.specs.declared.message.Cost.{Cost}
use Rattle.pcep_messages.specs.declared.message.Create.{Create}
use Rattle.pcep_messages.specs.declared.message.Errors.{Errors}
use Rattle.pcep_messages.specs.declared.message.Initiate.{Initiate}
use Rattle.pcep_messages.specs.declared.message.Initiate.TheVariants as initiates
use Rattle.pcep_messages.specs.declared.message.Message.{Message}
use Rattle.pcep_messages.specs.declared.message.Message.TheVariants as messages
use Rattle.pcep_messages.specs.declared.message.PathReply.{PathReply}
use Rattle.pcep_messages.specs.declared.message.Update.{Update}

-- ---- objects

-- an RP with this P flag and no other flag
abbrev pub rp_object : Bool → ℕ → Object
rp_object p id = objects.Rp (record { p = p; priority = 0; reoptimize = false; bidirectional = false; loose = false; id = id })

abbrev pub srp_object : Bool → ℕ → Object
srp_object remove id = objects.Srp (record { remove = remove; id = id })

-- an LSP with flags D and A as given, and no other flag
abbrev pub lsp_object : ℕ → Bool → Bool → Option (List ℕ) → LspObject
lsp_object plsp delegate admin name = record {
  plsp = plsp;
  delegate = delegate;
  sync = false;
  remove = false;
  admin = admin;
  operational = Down;
  created = false;
  name = name;
  identifiers = None;
  error_code = None;
  rsvp_error = None;
}

-- END-POINTS are written with P set
abbrev pub end_points_object : ℕ → ℕ → Object
end_points_object source destination = objects.EndPoints (record { p = true; source = source; destination = destination })

-- NO-PATH with nature 0 and C clear
abbrev pub no_path_object : Option NoPathVector → Object
no_path_object vector = objects.NoPath (record { nature = 0; constraints = false; vector = vector })

abbrev pub attributes_objects : Option Attributes → List Object
attributes_objects None = []
attributes_objects (Some attributes) =
    let priorities = attributes.priorities in
    objects.Lspa (record { colours = attributes.colours; setup = priorities.setup; hold = priorities.hold; local_protection = attributes.local_protection }) ∷ []

abbrev pub bandwidth_objects : Option ℕ → List Object
bandwidth_objects None = []
bandwidth_objects (Some bandwidth) = objects.Bandwidth Requested bandwidth ∷ []

abbrev pub constraint_objects : Option Attributes → Option ℕ → List Object
constraint_objects attributes bandwidth = attributes_objects attributes ++ bandwidth_objects bandwidth

-- METRIC with C set, if there is a cost
abbrev pub cost_objects : Option Cost → List Object
cost_objects None = []
cost_objects (Some cost) = objects.Metric (record { bound = false; computed = true; metric_type = cost.metric_type; value = cost.value }) ∷ []

-- ---- messages

-- a PCErr: its RPs with P clear, its SRPs, its PCEP-ERRORs
abbrev pub error_objects : Errors → List Object
error_objects errors = map (rp_object false) errors.requests ++ map (srp_object false) errors.srps ++ map (λ error. objects.Error error) errors.errors

abbrev pub answer_objects : Answer → List Object
answer_objects (answers.Found ero cost) = objects.Ero ero ∷ cost_objects cost
answer_objects (answers.NoPath vector) = no_path_object vector ∷ []

-- a PCRep: RP with P set, and its answer
abbrev pub reply_objects : PathReply → List Object
reply_objects reply = rp_object true reply.request ∷ answer_objects reply.answer

abbrev pub update_objects : Update → List Object
update_objects update =
    srp_object false update.srp ∷ objects.Lsp (lsp_object update.plsp update.delegate update.admin None) ∷ objects.Ero update.ero
    ∷ constraint_objects update.attributes update.bandwidth

-- a new LSP has PLSP-ID 0, and flags D and A
abbrev pub create_objects : Create → List Object
create_objects create =
    srp_object false create.srp ∷ objects.Lsp (lsp_object 0 true true (Some create.name))
    ∷ end_points_object create.source create.destination ∷ objects.Ero create.ero
    ∷ constraint_objects create.attributes create.bandwidth

-- a deletion: SRP with R set, LSP with only flag D
abbrev pub remove_objects : ℕ → ℕ → List Object
remove_objects srp plsp = srp_object true srp ∷ objects.Lsp (lsp_object plsp true false None) ∷ []

abbrev pub initiate_objects : Initiate → List Object
initiate_objects (initiates.Create create) = create_objects create
initiate_objects (initiates.Remove srp plsp) = remove_objects srp plsp

-- the objects of a message, if its kind is written
abbrev pub objects_written : Message → List Object
objects_written (messages.Opening opening) = objects.Open opening ∷ []
objects_written (messages.Reply reply) = reply_objects reply
objects_written (messages.Error errors) = error_objects errors
objects_written (messages.Close reason) = objects.Close (record { reason = reason }) ∷ []
objects_written (messages.Update update) = update_objects update
objects_written (messages.Initiate initiate) = initiate_objects initiate
objects_written message = []

-- PCReq, PCNtf, PCRpt and messages whose body isn't read aren't written
abbrev pub is_written : Message → Bool
is_written (messages.Request requests) = false
is_written messages.Notify = false
is_written (messages.Report reports) = false
is_written (messages.Unknown kind) = false
is_written message = true

abbrev pub kind_number : Message → ℕ
kind_number (messages.Opening opening) = 1
kind_number messages.Keepalive = 2
kind_number (messages.Request requests) = 3
kind_number (messages.Reply reply) = 4
kind_number messages.Notify = 5
kind_number (messages.Error errors) = 6
kind_number (messages.Close reason) = 7
kind_number (messages.Report reports) = 10
kind_number (messages.Update update) = 11
kind_number (messages.Initiate initiate) = 12
kind_number (messages.Unknown kind) = kind

-- ---- bytes

-- an object's bytes, and whether its lengths fit
unfoldable pub object_spelled : Object → List ℕ
object_spelled object = spelling.written object

unfoldable pub object_fits : Object → Bool
object_fits object = spelling.fits object

abbrev pub objects_spelled : List Object → List ℕ
objects_spelled objects = flat_map object_spelled objects

-- a body with its header: version 1 and no flags, the type, the length including the header
abbrev pub message_spelled : ℕ → List ℕ → List ℕ
message_spelled kind body = (0x20 ∷ kind ∷ []) ++ big_bytes 2 (length body + 4) ++ body

abbrev pub written : Message → List ℕ
written message = message_spelled (kind_number message) (objects_spelled (objects_written message))

-- each object fits, and the message has fewer than 2 ^ 16 bytes
abbrev pub objects_fit : List Object → Bool
objects_fit objects = list_all object_fits objects

abbrev pub fits : Message → Bool
fits message = objects_fit (objects_written message) && nat_lt (length (objects_spelled (objects_written message)) + 4) (2 ^ 16)
