-- The steps by which a reader takes in the objects of a PCReq, one after the other. No public clause cites them: a
-- lemma shows that they give the requests (Requests).
use Rattle.std.specs.Prelude.{◌≡◌, max, false, true, not, ◌&&◌, ◌||◌, nat_lt, List, [], ◌∷◌, ◌++◌, Option, Some, None, is_none, Result, Ok, Err, if◌then◌else◌}
use Rattle.std.specs.Option.{option_or}
use Rattle.pcep_objects.specs.Steps.{◌>>=◌}
use Rattle.pcep_objects.specs.declared.fault.ObjectFault.{ObjectFault}
use Rattle.pcep_objects.specs.declared.object.Object.{Object}
use Rattle.pcep_objects.specs.declared.object.Object.TheVariants as objects
use Rattle.pcep_objects.specs.declared.request_objects.EndPoints.{EndPoints}
use Rattle.pcep_objects.specs.declared.request_objects.Rp.{Rp}
use Rattle.pcep_messages.specs.Constraints.{bandwidth_asked, minimised_by, bound_on, lesser}
use Rattle.pcep_messages.specs.Faults.{Fails}
use Rattle.pcep_messages.specs.Requests.{about_rp, kept_fault, lacks_rro, whole_request, request_with, fault_in_front, no_request}
use Rattle.pcep_messages.specs.declared.asked.Asked.{Asked}
use Rattle.pcep_messages.specs.declared.fault.About.{About}
use Rattle.pcep_messages.specs.declared.fault.MessageFault.{MessageFault}
use Rattle.pcep_messages.specs.declared.fault.MessageFault.TheVariants.{BadObject, BadP}
use Rattle.pcep_messages.specs.declared.message.PathRequest.{PathRequest}

-- the requests that have ended, and what was read of the next one
pub record State : Type 0 where
  pub requests : List PathRequest
  pub asked : Option Asked

abbrev pub begin : State
begin = record { requests = []; asked = None }

-- a request of which only the RP was read
abbrev pub begun : Rp → Asked
begun rp = record {
  rp = rp;
  ends = None;
  plsp = None;
  lspa = None;
  has_rro = false;
  has_bandwidth = false;
  bandwidth = 0;
  minimised = None;
  bounds = record { igp = None; te = None; hops = None };
}

-- a request with one more object
abbrev pub taken : Asked → Object → Asked
taken asked (objects.EndPoints ends) = record asked { ends = option_or asked.ends (Some ends) }
taken asked (objects.Lsp lsp) = record asked { plsp = option_or asked.plsp (Some lsp.plsp) }
taken asked (objects.Lspa lspa) = record asked { lspa = option_or asked.lspa (Some lspa) }
taken asked (objects.Rro hops) = record asked { has_rro = true }
taken asked (objects.Bandwidth kind bandwidth) = record asked {
  has_bandwidth = asked.has_bandwidth || nat_lt 0 bandwidth;
  bandwidth = max asked.bandwidth (bandwidth_asked (objects.Bandwidth kind bandwidth));
}
taken asked (objects.Metric metric) = record asked {
  minimised = option_or asked.minimised (minimised_by (objects.Metric metric));
  bounds = record {
    igp = lesser asked.bounds.igp (bound_on 1 (objects.Metric metric));
    te = lesser asked.bounds.te (bound_on 2 (objects.Metric metric));
    hops = lesser asked.bounds.hops (bound_on 3 (objects.Metric metric));
  };
}
taken asked object = asked

-- the fault of an object at its place in a request: only the first END-POINTS must have P set
abbrev pub place_fault : About → Option EndPoints → Object → Option MessageFault
place_fault about first (objects.EndPoints ends) = if is_none first && not ends.p then Some (BadP about) else None
place_fault about first object = kept_fault about object

-- the request that was read
abbrev pub request_from : Asked → Option ObjectFault → Result PathRequest MessageFault
request_from asked (Some fault) = Err (BadObject fault (about_rp asked.rp))
request_from asked None =
    whole_request asked.rp asked.ends (lacks_rro asked.rp asked.has_rro asked.has_bandwidth)
    (λ ends. request_with asked.rp ends asked.plsp asked.bandwidth asked.lspa asked.minimised asked.bounds)

abbrev pub with_request : List PathRequest → Result PathRequest MessageFault → Result (List PathRequest) MessageFault
with_request requests last = last >>= λ request. Ok (requests ++ request ∷ [])

-- the requests with the one that ends here
abbrev pub ended : Option Asked → List PathRequest → Result (List PathRequest) MessageFault
ended None requests = Ok requests
ended (Some asked) requests = with_request requests (request_from asked None)

abbrev pub unless : {A : Type 0} → Option MessageFault → A → Result A MessageFault
unless None x = Ok x
unless (Some fault) x = Err fault

abbrev pub at_rp : Rp → List PathRequest → Result State MessageFault
at_rp rp requests = if rp.p then Ok (record { requests = requests; asked = Some (begun rp) }) else Err (BadP (about_rp rp))

abbrev pub after_rp : Rp → Option Asked → List PathRequest → Result State MessageFault
after_rp rp asked requests = ended asked requests >>= λ before. at_rp rp before

abbrev pub at_other : Option Asked → Object → List PathRequest → Result State MessageFault
at_other None object requests = unless (fault_in_front object) (record { requests = requests; asked = None })
at_other (Some asked) object requests =
    unless (place_fault (about_rp asked.rp) asked.ends object) (record { requests = requests; asked = Some (taken asked object) })

abbrev pub after : Object → State → Result State MessageFault
after (objects.Rp rp) s = after_rp rp s.asked s.requests
after object s = at_other s.asked object s.requests

-- the requests at the end of the objects, or at an object that has a fault of its own
abbrev pub finished_at : Option Asked → List PathRequest → Option ObjectFault → Result (List PathRequest) MessageFault
finished_at None requests own = Err (no_request own)
finished_at (Some asked) requests own = with_request requests (request_from asked own)

abbrev pub finished : State → Option ObjectFault → Result (List PathRequest) MessageFault
finished s own = finished_at s.asked s.requests own

-- a step returned what the definition gives, with these requests and this part of the next one
abbrev pub Steps : {U : Type 0} → Result State MessageFault → Result U MessageFault → List PathRequest → Option Asked → Type 0
Steps step (Ok done) requests asked = step ≡ Ok (record { requests = requests; asked = asked })
Steps step (Err fault) requests asked = Fails fault step

-- a step that may add a request returned what the definition gives
abbrev pub Ends : {U : Type 0} → Result (List PathRequest) MessageFault → Result U MessageFault → List PathRequest → Type 0
Ends step (Ok done) requests = step ≡ Ok requests
Ends step (Err fault) requests = Fails fault step

-- the same for an object that is no RP, whatever requests have ended
abbrev pub Joins : {U : Type 0} → Option Asked → Object → Result U MessageFault → Option Asked → Type 0
Joins asked object (Ok done) asked' = (requests : List PathRequest) → at_other asked object requests ≡ Ok (record { requests = requests; asked = asked' })
Joins asked object (Err fault) asked' = (requests : List PathRequest) → at_other asked object requests ≡ Err fault
