-- A reader that takes in the objects of a PCReq one after the other gives its requests.
use Rattle.std.proofs.Common.{◌≡◌, ℕ, max, Bool, true, false, not, if◌then◌else◌, ◌||◌, List, [], ◌∷◌, ◌++◌, map, fold, Option, Some, None, Result, Ok, Err, refl, sym, ap, ◌∙◌}
use Rattle.std.specs.List.{list_any}
use Rattle.std.specs.Option.{option_or}
use Rattle.pcep_objects.specs.Steps.{◌>>=◌}
use Rattle.pcep_objects.specs.declared.fault.ObjectFault.{ObjectFault}
use Rattle.pcep_objects.specs.declared.object.Kept.{Kept}
use Rattle.pcep_objects.specs.declared.object.Object.{Object}
use Rattle.pcep_objects.specs.declared.object.Object.TheVariants as objects
use Rattle.pcep_objects.specs.declared.request_objects.EndPoints.{EndPoints}
use Rattle.pcep_objects.specs.declared.request_objects.Rp.{Rp}
use Rattle.pcep_messages.specs.Constraints.{plsp_of, is_rro, is_above_zero, bandwidth_asked, minimised_by, bound_on, lesser}
use Rattle.pcep_messages.specs.Counting.{first_of, end_points_of, lspa_of}
use Rattle.pcep_messages.specs.Objects.{found_in_request}
use Rattle.pcep_messages.specs.Requests.{about_rp, up_to_rp, kept_fault, fault_in_place, request_of, own_fault, request_or_fault, requests_of, fault_in_front, requests_behind, requests_in, requests_in_body}
use Rattle.pcep_messages.specs.RequestSteps.{State, begin, begun, taken, place_fault, request_from, with_request, at_rp, unless, after, finished}
use Rattle.pcep_messages.specs.declared.asked.Asked.{Asked}
use Rattle.pcep_messages.specs.declared.fault.About.{About}
use Rattle.pcep_messages.specs.declared.fault.MessageFault.{MessageFault}
use Rattle.pcep_messages.specs.declared.fault.MessageFault.TheVariants.{BadP}
use Rattle.pcep_messages.specs.declared.message.PathRequest.{PathRequest}
use Rattle.pcep_messages.proofs.Running.{with_front, regroup, no_front, run, run_to_end, rest_gives}
use Rattle.pcep_messages.proofs.Taking.{or_assoc, or_none, max_nothing}

-- ---- what counts of a request

lesser_none : (b : Option ℕ) → lesser b None ≡ b
lesser_none None = refl
lesser_none (Some n) = refl

or_false : (b : Bool) → (b || false) ≡ b
or_false true = refl
or_false false = refl

or_true : (b : Bool) → (b || true) ≡ true
or_true true = refl
or_true false = refl

or_or : (a b c : Bool) → ((a || b) || c) ≡ (a || (b || c))
or_or true b c = refl
or_or false b c = refl

-- one more object, each of its parts separately
abbrev each_taken : Asked → Object → Asked
each_taken asked object = record {
  rp = asked.rp;
  ends = option_or asked.ends (end_points_of object);
  plsp = option_or asked.plsp (plsp_of object);
  lspa = option_or asked.lspa (lspa_of object);
  has_rro = asked.has_rro || is_rro object;
  has_bandwidth = asked.has_bandwidth || is_above_zero object;
  bandwidth = max asked.bandwidth (bandwidth_asked object);
  minimised = option_or asked.minimised (minimised_by object);
  bounds = record {
    igp = lesser asked.bounds.igp (bound_on 1 object);
    te = lesser asked.bounds.te (bound_on 2 object);
    hops = lesser asked.bounds.hops (bound_on 3 object);
  };
}

-- an object of a class that a request doesn't name changes nothing
abbrev ignored : Asked → Asked
ignored asked = record {
  rp = asked.rp;
  ends = option_or asked.ends None;
  plsp = option_or asked.plsp None;
  lspa = option_or asked.lspa None;
  has_rro = asked.has_rro || false;
  has_bandwidth = asked.has_bandwidth || false;
  bandwidth = max asked.bandwidth 0;
  minimised = option_or asked.minimised None;
  bounds = record {
    igp = lesser asked.bounds.igp None;
    te = lesser asked.bounds.te None;
    hops = lesser asked.bounds.hops None;
  };
}

is_ignored : (a : Asked) → a ≡ ignored a
is_ignored a =
    rw (
      or_none a.ends,
      or_none a.plsp,
      or_none a.lspa,
      or_false a.has_rro,
      or_false a.has_bandwidth,
      or_none a.minimised,
      lesser_none a.bounds.igp,
      lesser_none a.bounds.te,
      lesser_none a.bounds.hops,
    ) (ap (λ (n : ℕ). record a { bandwidth = n }) (sym (max_nothing a.bandwidth)))

by_each : (a : Asked) (o : Object) → taken a o ≡ each_taken a o
by_each a (objects.Open x) = is_ignored a
by_each a (objects.Rp x) = is_ignored a
by_each a (objects.NoPath x) = is_ignored a
by_each a (objects.EndPoints x) = ap (λ (b : Asked). record b { ends = option_or a.ends (Some x) }) (is_ignored a)
by_each a (objects.Bandwidth k n) =
    ap (λ (b : Asked). record b { has_bandwidth = a.has_bandwidth || is_above_zero (objects.Bandwidth k n); bandwidth = max a.bandwidth (bandwidth_asked (objects.Bandwidth k n)) }) (is_ignored a)
by_each a (objects.Metric m) =
    ap (λ (b : Asked). record b {
      minimised = option_or a.minimised (minimised_by (objects.Metric m));
      bounds = record {
        igp = lesser a.bounds.igp (bound_on 1 (objects.Metric m));
        te = lesser a.bounds.te (bound_on 2 (objects.Metric m));
        hops = lesser a.bounds.hops (bound_on 3 (objects.Metric m));
      };
    }) (is_ignored a)
by_each a (objects.Ero x) = is_ignored a
by_each a (objects.Rro x) = ap (λ (b : Asked). record b { has_rro = true }) (is_ignored a) ∙ ap (λ (t : Bool). record (ignored a) { has_rro = t }) (sym (or_true a.has_rro))
by_each a (objects.Lspa x) = ap (λ (b : Asked). record b { lspa = option_or a.lspa (Some x) }) (is_ignored a)
by_each a (objects.Kept x) = is_ignored a
by_each a (objects.Notification x) = is_ignored a
by_each a (objects.Error x) = is_ignored a
by_each a (objects.Close x) = is_ignored a
by_each a (objects.Lsp x) = ap (λ (b : Asked). record b { plsp = option_or a.plsp (Some x.plsp) }) (is_ignored a)
by_each a (objects.Srp x) = is_ignored a

-- what was read of a request, with the objects of it that follow
abbrev with_objects : Asked → List Object → Asked
with_objects asked objects = record {
  rp = asked.rp;
  ends = option_or asked.ends (first_of end_points_of objects);
  plsp = option_or asked.plsp (first_of plsp_of objects);
  lspa = option_or asked.lspa (first_of lspa_of objects);
  has_rro = asked.has_rro || list_any is_rro objects;
  has_bandwidth = asked.has_bandwidth || list_any is_above_zero objects;
  bandwidth = fold max asked.bandwidth (map bandwidth_asked objects);
  minimised = option_or asked.minimised (first_of minimised_by objects);
  bounds = record {
    igp = fold lesser asked.bounds.igp (map (bound_on 1) objects);
    te = fold lesser asked.bounds.te (map (bound_on 2) objects);
    hops = fold lesser asked.bounds.hops (map (bound_on 3) objects);
  };
}

with_none : (a : Asked) → with_objects a [] ≡ a
with_none a = rw (or_none a.ends, or_none a.plsp, or_none a.lspa, or_false a.has_rro, or_false a.has_bandwidth, or_none a.minimised) refl

with_one : (a : Asked) (o : Object) (os : List Object) → with_objects (each_taken a o) os ≡ with_objects a (o ∷ os)
with_one a o os =
    rw (
      or_assoc a.ends (end_points_of o) (first_of end_points_of os),
      or_assoc a.plsp (plsp_of o) (first_of plsp_of os),
      or_assoc a.lspa (lspa_of o) (first_of lspa_of os),
      or_or a.has_rro (is_rro o) (list_any is_rro os),
      or_or a.has_bandwidth (is_above_zero o) (list_any is_above_zero os),
      or_assoc a.minimised (minimised_by o) (first_of minimised_by os),
    ) refl

takes : (a : Asked) (o : Object) (os : List Object) → with_objects (taken a o) os ≡ with_objects a (o ∷ os)
takes a o os = ap (λ (b : Asked). with_objects b os) (by_each a o) ∙ with_one a o os

-- ---- faults at a place

-- the first fault of the objects that follow, given the first END-POINTS so far
abbrev faults : About → Option EndPoints → List Object → Option MessageFault
faults about first [] = None
faults about first (o ∷ os) = option_or (place_fault about first o) (faults about (option_or first (end_points_of o)) os)

only_kept : (about : About) (ends : EndPoints) (os : List Object) → faults about (Some ends) os ≡ first_of (kept_fault about) os
only_kept about ends [] = refl
only_kept about ends (objects.EndPoints x ∷ os) = only_kept about ends os
only_kept about ends (objects.Open x ∷ os) = only_kept about ends os
only_kept about ends (objects.Rp x ∷ os) = only_kept about ends os
only_kept about ends (objects.NoPath x ∷ os) = only_kept about ends os
only_kept about ends (objects.Bandwidth k x ∷ os) = only_kept about ends os
only_kept about ends (objects.Metric x ∷ os) = only_kept about ends os
only_kept about ends (objects.Ero x ∷ os) = only_kept about ends os
only_kept about ends (objects.Rro x ∷ os) = only_kept about ends os
only_kept about ends (objects.Lspa x ∷ os) = only_kept about ends os
only_kept about ends (objects.Kept x ∷ os) = ap (option_or (kept_fault about (objects.Kept x))) (only_kept about ends os)
only_kept about ends (objects.Notification x ∷ os) = only_kept about ends os
only_kept about ends (objects.Error x ∷ os) = only_kept about ends os
only_kept about ends (objects.Close x ∷ os) = only_kept about ends os
only_kept about ends (objects.Lsp x ∷ os) = only_kept about ends os
only_kept about ends (objects.Srp x ∷ os) = only_kept about ends os

-- the first END-POINTS, depending on its P flag
at_first : (about : About) (p : Bool) (rest kept : Option MessageFault) → rest ≡ kept → option_or (if not p then Some (BadP about) else None) rest ≡ (if p then kept else Some (BadP about))
at_first about true rest kept e = e
at_first about false rest kept e = refl

in_place : (about : About) (os : List Object) → faults about None os ≡ fault_in_place about os
in_place about [] = refl
in_place about (objects.EndPoints x ∷ os) = at_first about x.p _ _ (only_kept about x os)
in_place about (objects.Open x ∷ os) = in_place about os
in_place about (objects.Rp x ∷ os) = in_place about os
in_place about (objects.NoPath x ∷ os) = in_place about os
in_place about (objects.Bandwidth k x ∷ os) = in_place about os
in_place about (objects.Metric x ∷ os) = in_place about os
in_place about (objects.Ero x ∷ os) = in_place about os
in_place about (objects.Rro x ∷ os) = in_place about os
in_place about (objects.Lspa x ∷ os) = in_place about os
in_place about (objects.Kept x ∷ os) = ap (option_or (kept_fault about (objects.Kept x))) (in_place about os)
in_place about (objects.Notification x ∷ os) = in_place about os
in_place about (objects.Error x ∷ os) = in_place about os
in_place about (objects.Close x ∷ os) = in_place about os
in_place about (objects.Lsp x ∷ os) = in_place about os
in_place about (objects.Srp x ∷ os) = in_place about os

-- ---- a request that has begun, and those after it

abbrev request_by : Option MessageFault → Asked → Option ObjectFault → Result PathRequest MessageFault
request_by None whole own = request_from whole own
request_by (Some fault) whole own = Err fault

abbrev others : List Object → Option ObjectFault → Result PathRequest MessageFault → Result (List PathRequest) MessageFault
others os own first = first >>= λ r. requests_of os own >>= λ rs. Ok (r ∷ rs)

abbrev open_then : Asked → List Object → Option ObjectFault → Result (List PathRequest) MessageFault
open_then a os own = others os own (request_by (faults (about_rp a.rp) a.ends (up_to_rp os)) (with_objects a (up_to_rp os)) (own_fault os own))

-- the objects after an RP give what was read of its request
at_fault : (rp : Rp) (os : List Object) (own : Option ObjectFault) (one other : Option MessageFault) → one ≡ other
    → request_by one (with_objects (begun rp) os) own ≡ request_or_fault rp os own other
at_fault rp os None None other e = rw (← e) refl
at_fault rp os (Some f) None other e = rw (← e) refl
at_fault rp os own (Some fault) other e = rw (← e) refl

picked : {A : Type 0} (p : Bool) (x y : A) → p ≡ true → (if not p then x else y) ≡ y
picked p x y is = rw is refl

not_picked : {A : Type 0} (p : Bool) (x y : A) → p ≡ false → (if not p then x else y) ≡ x
not_picked p x y is = rw is refl

taken_if : {A : Type 0} (p : Bool) (x y : A) → p ≡ true → (if p then x else y) ≡ x
taken_if p x y is = rw is refl

not_taken : {A : Type 0} (p : Bool) (x y : A) → p ≡ false → (if p then x else y) ≡ y
not_taken p x y is = rw is refl

said_by : (rp : Rp) (os : List Object) (own : Option ObjectFault) → rp.p ≡ true
    → request_of rp os own ≡ request_by (faults (about_rp rp) None os) (with_objects (begun rp) os) own
said_by rp os own p =
    picked rp.p (Err (BadP (about_rp rp))) (request_or_fault rp os own (fault_in_place (about_rp rp) os)) p
    ∙ sym (at_fault rp os own (faults (about_rp rp) None os) (fault_in_place (about_rp rp) os) (in_place (about_rp rp) os))

-- ---- the reader, from within a request on

abbrev gives : State → List Object → Option ObjectFault → Result (List PathRequest) MessageFault
gives s os own = run_to_end after finished s os own

abbrev state : List PathRequest → Option Asked → State
state requests asked = record { requests = requests; asked = asked }

last_request : (requests : List PathRequest) (r : Result PathRequest MessageFault) → with_request requests r ≡ with_front requests (r >>= λ x. Ok (x ∷ []))
last_request requests (Ok x) = refl
last_request requests (Err e) = refl

done : (requests : List PathRequest) (a : Asked) (own : Option ObjectFault) → with_request requests (request_from a own) ≡ with_front requests (open_then a [] own)
done requests a own =
    last_request requests (request_from a own) ∙ ap (λ (b : Asked). with_front requests (request_from b own >>= λ x. Ok (x ∷ []))) (sym (with_none a))

-- one more object of the request, which may be at a wrong place
by_place : (requests : List PathRequest) (fault : Option MessageFault) (a : Asked) (os : List Object) (own : Option ObjectFault) (more : Option MessageFault) (whole : Asked)
    → gives (state requests (Some a)) os own ≡ with_front requests (others os own (request_by more whole (own_fault os own)))
    → ((unless fault (state requests (Some a)) >>= λ t. run after t os) >>= λ t. finished t own)
    ≡ with_front requests (others os own (request_by (option_or fault more) whole (own_fault os own)))
by_place requests None a os own more whole goes = goes
by_place requests (Some f) a os own more whole goes = refl

abbrev ends_of : Asked → Object → Option EndPoints
ends_of a o = option_or a.ends (end_points_of o)

-- what the steps take in is what counts of all objects
one_more : (requests : List PathRequest) (a : Asked) (o : Object) (os : List Object) (own : Option ObjectFault)
    → gives (state requests (Some (taken a o))) os own ≡ with_front requests (open_then (taken a o) os own)
    → ((unless (place_fault (about_rp a.rp) a.ends o) (state requests (Some (taken a o))) >>= λ t. run after t os) >>= λ t. finished t own)
    ≡ with_front requests (others os own (request_by (faults (about_rp a.rp) a.ends (o ∷ up_to_rp os)) (with_objects a (o ∷ up_to_rp os)) (own_fault os own)))
one_more requests a o os own goes =
    by_place requests (place_fault (about_rp a.rp) a.ends o) (taken a o) os own (faults (about_rp a.rp) (ends_of a o) (up_to_rp os)) (with_objects a (o ∷ up_to_rp os))
    (goes ∙ ap (λ (b : Asked). with_front requests (others os own (request_by (faults (about_rp b.rp) b.ends (up_to_rp os)) (with_objects (taken a o) (up_to_rp os)) (own_fault os own)))) (by_each a o)
    ∙ ap (λ (b : Asked). with_front requests (others os own (request_by (faults (about_rp a.rp) (ends_of a o) (up_to_rp os)) b (own_fault os own)))) (takes a o (up_to_rp os)))

abbrev begun_at : Rp → List PathRequest → Result State MessageFault
begun_at rp requests = Ok (state requests (Some (begun rp)))

-- an RP ends the request before it
begins : (requests : List PathRequest) (rp : Rp) (p : Bool) (os : List Object) (own : Option ObjectFault) → rp.p ≡ p
    → ((before : List PathRequest) → gives (state before (Some (begun rp))) os own ≡ with_front before (open_then (begun rp) os own))
    → ((at_rp rp requests >>= λ t. run after t os) >>= λ t. finished t own) ≡ with_front requests (requests_of (objects.Rp rp ∷ os) own)
begins requests rp true os own is goes =
    ap (λ (r : Result State MessageFault). (r >>= λ t. run after t os) >>= λ t. finished t own) (taken_if rp.p (begun_at rp requests) (Err (BadP (about_rp rp))) is)
    ∙ goes requests
    ∙ ap (λ (r : Result PathRequest MessageFault). with_front requests (others os own r)) (sym (said_by rp (up_to_rp os) (own_fault os own) is))
begins requests rp false os own is goes =
    ap (λ (r : Result State MessageFault). (r >>= λ t. run after t os) >>= λ t. finished t own) (not_taken rp.p (begun_at rp requests) (Err (BadP (about_rp rp))) is)
    ∙ ap (λ (r : Result PathRequest MessageFault). with_front requests (others os own r))
    (sym (not_picked rp.p (Err (BadP (about_rp rp))) (request_or_fault rp (up_to_rp os) (own_fault os own) (fault_in_place (about_rp rp) (up_to_rp os))) is))

next_request : (requests : List PathRequest) (r : Result PathRequest MessageFault) (rp : Rp) (os : List Object) (own : Option ObjectFault)
    → ((before : List PathRequest) → gives (state before (Some (begun rp))) os own ≡ with_front before (open_then (begun rp) os own))
    → (((with_request requests r >>= λ before. at_rp rp before) >>= λ t. run after t os) >>= λ t. finished t own)
    ≡ with_front requests (r >>= λ x. requests_of (objects.Rp rp ∷ os) own >>= λ xs. Ok (x ∷ xs))
next_request requests (Ok x) rp os own goes = begins (requests ++ x ∷ []) rp rp.p os own refl goes ∙ sym (regroup requests x (requests_of (objects.Rp rp ∷ os) own))
next_request requests (Err e) rp os own goes = refl

goes_on : (requests : List PathRequest) (a : Asked) (os : List Object) (own : Option ObjectFault)
    → gives (state requests (Some a)) os own ≡ with_front requests (open_then a os own)
goes_on requests a [] own = done requests a own
goes_on requests a (objects.Rp rp ∷ os) own =
    next_request requests (request_from a None) rp os own (λ before. goes_on before (begun rp) os own)
    ∙ ap (λ (b : Asked). with_front requests (others (objects.Rp rp ∷ os) own (request_from b None))) (sym (with_none a))
goes_on requests a (objects.Open x ∷ os) own = one_more requests a (objects.Open x) os own (goes_on requests (taken a (objects.Open x)) os own)
goes_on requests a (objects.NoPath x ∷ os) own = one_more requests a (objects.NoPath x) os own (goes_on requests (taken a (objects.NoPath x)) os own)
goes_on requests a (objects.EndPoints x ∷ os) own = one_more requests a (objects.EndPoints x) os own (goes_on requests (taken a (objects.EndPoints x)) os own)
goes_on requests a (objects.Bandwidth k x ∷ os) own = one_more requests a (objects.Bandwidth k x) os own (goes_on requests (taken a (objects.Bandwidth k x)) os own)
goes_on requests a (objects.Metric x ∷ os) own = one_more requests a (objects.Metric x) os own (goes_on requests (taken a (objects.Metric x)) os own)
goes_on requests a (objects.Ero x ∷ os) own = one_more requests a (objects.Ero x) os own (goes_on requests (taken a (objects.Ero x)) os own)
goes_on requests a (objects.Rro x ∷ os) own = one_more requests a (objects.Rro x) os own (goes_on requests (taken a (objects.Rro x)) os own)
goes_on requests a (objects.Lspa x ∷ os) own = one_more requests a (objects.Lspa x) os own (goes_on requests (taken a (objects.Lspa x)) os own)
goes_on requests a (objects.Kept x ∷ os) own = one_more requests a (objects.Kept x) os own (goes_on requests (taken a (objects.Kept x)) os own)
goes_on requests a (objects.Notification x ∷ os) own = one_more requests a (objects.Notification x) os own (goes_on requests (taken a (objects.Notification x)) os own)
goes_on requests a (objects.Error x ∷ os) own = one_more requests a (objects.Error x) os own (goes_on requests (taken a (objects.Error x)) os own)
goes_on requests a (objects.Close x ∷ os) own = one_more requests a (objects.Close x) os own (goes_on requests (taken a (objects.Close x)) os own)
goes_on requests a (objects.Lsp x ∷ os) own = one_more requests a (objects.Lsp x) os own (goes_on requests (taken a (objects.Lsp x)) os own)
goes_on requests a (objects.Srp x ∷ os) own = one_more requests a (objects.Srp x) os own (goes_on requests (taken a (objects.Srp x)) os own)

-- ---- the reader, from the beginning of the message on

-- an object before the first RP
in_front : (fault : Option MessageFault) (os : List Object) (own : Option ObjectFault) (more : Option MessageFault)
    → gives begin os own ≡ requests_behind more os own
    → ((unless fault begin >>= λ t. run after t os) >>= λ t. finished t own) ≡ requests_behind (option_or fault more) os own
in_front None os own more goes = goes
in_front (Some f) os own more goes = refl

kept_behind : (fault : Option MessageFault) (x : Kept) (os : List Object) (own : Option ObjectFault) → requests_behind fault os own ≡ requests_behind fault (objects.Kept x ∷ os) own
kept_behind None x os own = refl
kept_behind (Some f) x os own = refl

-- an object before the first RP makes no difference to the objects after it
kept_first : (fault : Option MessageFault) (x : Kept) (os : List Object) (own : Option ObjectFault)
    → requests_behind (option_or fault (first_of fault_in_front (up_to_rp os))) os own ≡ requests_behind (option_or fault (first_of fault_in_front (up_to_rp os))) (objects.Kept x ∷ os) own
kept_first (Some f) x os own = refl
kept_first None x os own = kept_behind (first_of fault_in_front (up_to_rp os)) x os own

pub from_front : (os : List Object) (own : Option ObjectFault) → gives begin os own ≡ requests_in os own
from_front [] own = refl
from_front (objects.Rp rp ∷ os) own = begins [] rp rp.p os own refl (λ before. goes_on before (begun rp) os own) ∙ no_front (requests_of (objects.Rp rp ∷ os) own)
from_front (objects.Kept x ∷ os) own = in_front (fault_in_front (objects.Kept x)) os own (first_of fault_in_front (up_to_rp os)) (from_front os own) ∙ kept_first (fault_in_front (objects.Kept x)) x os own
from_front (objects.Open x ∷ os) own = refl
from_front (objects.NoPath x ∷ os) own = refl
from_front (objects.EndPoints x ∷ os) own = refl
from_front (objects.Bandwidth k x ∷ os) own = refl
from_front (objects.Metric x ∷ os) own = refl
from_front (objects.Ero x ∷ os) own = refl
from_front (objects.Rro x ∷ os) own = refl
from_front (objects.Lspa x ∷ os) own = refl
from_front (objects.Notification x ∷ os) own = refl
from_front (objects.Error x ∷ os) own = refl
from_front (objects.Close x ∷ os) own = refl
from_front (objects.Lsp x ∷ os) own = refl
from_front (objects.Srp x ∷ os) own = refl

pub starts_at : (bytes : List ℕ) → rest_gives after finished true begin bytes ≡ requests_in_body bytes
unfolding requests_in_body
starts_at bytes = from_front (found_in_request bytes).objects (found_in_request bytes).fault
