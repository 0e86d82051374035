-- The requests of a PCReq (RFC 5440 section 6.4), or the first fault: SVECs, then requests, each an RP with the objects
-- after it.
use Rattle.std.specs.Prelude.{ℕ, Bool, true, false, not, ◌&&◌, List, [], ◌∷◌, Option, Some, None, Result, Ok, Err, if◌then◌else◌}
use Rattle.std.specs.List.{list_any}
use Rattle.std.specs.Option.{option_or}
use Rattle.pcep_objects.specs.Steps.{◌>>=◌}
use Rattle.pcep_objects.specs.declared.fault.ObjectFault.{ObjectFault}
use Rattle.pcep_objects.specs.declared.object.KeptClass.{KeptClass}
use Rattle.pcep_objects.specs.declared.object.KeptClass.TheVariants.{Iro, Svec, LoadBalancing}
use Rattle.pcep_objects.specs.declared.object.Object.{Object}
use Rattle.pcep_objects.specs.declared.object.Object.TheVariants as objects
use Rattle.pcep_objects.specs.declared.request_objects.EndPoints.{EndPoints}
use Rattle.pcep_objects.specs.declared.request_objects.Rp.{Rp}
use Rattle.pcep_objects.specs.declared.object.Lspa.{Lspa}
use Rattle.lsp_words.specs.declared.object.MetricType.{MetricType}
use Rattle.pcep_messages.specs.Constraints.{plsp_of, is_rro, is_above_zero, bandwidth_asked, minimised_by, or_te, bounds_of}
use Rattle.pcep_messages.specs.Counting.{first_of, end_points_of, lspa_of, greatest_of}
use Rattle.pcep_messages.specs.Objects.{found_in_request}
use Rattle.pcep_messages.specs.Reports.{priorities_of, colours_of}
use Rattle.pcep_messages.specs.declared.fault.About.{About}
use Rattle.pcep_messages.specs.declared.fault.About.TheVariants as about
use Rattle.pcep_messages.specs.declared.fault.MessageFault.{MessageFault}
use Rattle.pcep_messages.specs.declared.fault.MessageFault.TheVariants.{BadObject, BadP, Refused}
use Rattle.pcep_messages.specs.declared.message.Message.{Message}
use Rattle.pcep_messages.specs.declared.message.Message.TheVariants as messages
use Rattle.pcep_messages.specs.declared.message.Bounds.{Bounds}
use Rattle.pcep_messages.specs.declared.message.PathRequest.{PathRequest}

-- a fault of a request is about its RP
abbrev pub about_rp : Rp → About
about_rp rp = about.Request rp.id

abbrev pub is_rp : Object → Bool
is_rp (objects.Rp rp) = true
is_rp object = false

-- the objects before the first RP
abbrev pub up_to_rp : List Object → List Object
up_to_rp [] = []
up_to_rp (object ∷ objects) = if is_rp object then [] else object ∷ up_to_rp objects

-- an SVEC, IRO or LOAD-BALANCING that must be taken into account is 4/1
abbrev pub kept_fault : About → Object → Option MessageFault
kept_fault about (objects.Kept kept) = if kept.p then Some (Refused 4 1 about) else None
kept_fault about object = None

-- the first fault at a place among a request's objects: its first END-POINTS has P clear (10/1), or it has an SVEC, IRO
-- or LOAD-BALANCING that must be taken into account
abbrev pub fault_in_place : About → List Object → Option MessageFault
fault_in_place about [] = None
fault_in_place about (objects.EndPoints ends ∷ behind) = if ends.p then first_of (kept_fault about) behind else Some (BadP about)
fault_in_place about (object ∷ behind) = option_or (kept_fault about object) (fault_in_place about behind)

-- ---- one request, given its RP and what counts of the objects after it

abbrev pub request_with : Rp → EndPoints → Option ℕ → ℕ → Option Lspa → Option MetricType → Bounds → PathRequest
request_with rp ends plsp bandwidth lspa minimised bounds = record {
  request = rp.id;
  plsp = plsp;
  source = ends.source;
  destination = ends.destination;
  bandwidth = bandwidth;
  priorities = priorities_of lspa;
  colours = colours_of lspa;
  minimise = or_te minimised;
  bounds = bounds;
}

-- reoptimizing an LSP that has bandwidth needs the path that it takes now
abbrev pub lacks_rro : Rp → (has_rro : Bool) → (has_bandwidth : Bool) → Bool
lacks_rro rp has_rro has_bandwidth = rp.reoptimize && not has_rro && has_bandwidth

-- the end of a request: a missing END-POINTS is 6/3, a reoptimization without RRO is 6/2
abbrev pub whole_request : Rp → Option EndPoints → (lacks : Bool) → (EndPoints → PathRequest) → Result PathRequest MessageFault
whole_request rp None lacks request = Err (Refused 6 3 (about_rp rp))
whole_request rp (Some ends) lacks request = if lacks then Err (Refused 6 2 (about_rp rp)) else Ok (request ends)

-- the request, or the fault of an object that has one of its own
abbrev pub request_or_own_fault : Rp → List Object → Option ObjectFault → Result PathRequest MessageFault
request_or_own_fault rp objects (Some fault) = Err (BadObject fault (about_rp rp))
request_or_own_fault rp objects None =
    whole_request rp (first_of end_points_of objects) (lacks_rro rp (list_any is_rro objects) (list_any is_above_zero objects))
    (λ ends. request_with rp ends (first_of plsp_of objects) (greatest_of bandwidth_asked objects) (first_of lspa_of objects)
    (first_of minimised_by objects) (bounds_of objects))

abbrev pub request_or_fault : Rp → List Object → Option ObjectFault → Option MessageFault → Result PathRequest MessageFault
request_or_fault rp objects own (Some fault) = Err fault
request_or_fault rp objects own None = request_or_own_fault rp objects own

-- An RP, the objects after it up to the next RP, and perhaps an object's own fault after them. The RP must have P set.
abbrev pub request_of : Rp → List Object → Option ObjectFault → Result PathRequest MessageFault
request_of rp objects own =
    if not rp.p then Err (BadP (about_rp rp))
    else request_or_fault rp objects own (fault_in_place (about_rp rp) objects)

-- the fault belongs to the last request
abbrev pub own_fault : List Object → Option ObjectFault → Option ObjectFault
own_fault objects fault = if list_any is_rp objects then None else fault

-- each RP with the objects after it, up to the next RP
abbrev pub requests_of : List Object → Option ObjectFault → Result (List PathRequest) MessageFault
requests_of [] fault = Ok []
requests_of (objects.Rp rp ∷ behind) fault = do
  request ← request_of rp (up_to_rp behind) (own_fault behind fault)
  requests ← requests_of behind fault
  Ok (request ∷ requests)
requests_of (object ∷ behind) fault = requests_of behind fault

-- Only SVECs that need not be processed may come before the first RP. Any other object is 6/1 (RP missing), an SVEC
-- with P is 4/1.
abbrev pub fault_of_kept : KeptClass → Bool → Option MessageFault
fault_of_kept Svec p = if p then Some (Refused 4 1 about.Nothing) else None
fault_of_kept Iro p = Some (Refused 6 1 about.Nothing)
fault_of_kept LoadBalancing p = Some (Refused 6 1 about.Nothing)

abbrev pub fault_in_front : Object → Option MessageFault
fault_in_front (objects.Kept kept) = fault_of_kept kept.class kept.p
fault_in_front object = Some (Refused 6 1 about.Nothing)

-- the fault if there is no RP: an object's own fault, else 6/1
abbrev pub no_request : Option ObjectFault → MessageFault
no_request None = Refused 6 1 about.Nothing
no_request (Some fault) = BadObject fault about.Nothing

abbrev pub requests_behind : Option MessageFault → List Object → Option ObjectFault → Result (List PathRequest) MessageFault
requests_behind (Some fault) objects own = Err fault
requests_behind None objects own = if list_any is_rp objects then requests_of objects own else Err (no_request own)

abbrev pub requests_in : List Object → Option ObjectFault → Result (List PathRequest) MessageFault
requests_in objects own = requests_behind (first_of fault_in_front (up_to_rp objects)) objects own

unfoldable pub requests_in_body : List ℕ → Result (List PathRequest) MessageFault
requests_in_body body = requests_in (found_in_request body).objects (found_in_request body).fault

-- what the body of a PCReq reads as
unfoldable pub request_body : List ℕ → Result Message MessageFault
request_body body = requests_in_body body >>= λ requests. Ok (messages.Request requests)
