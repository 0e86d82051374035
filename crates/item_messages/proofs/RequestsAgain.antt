-- A request is read again from the objects that it is written as.
use Rattle.std.proofs.Common.{◌≡◌, ℕ, ◌+◌, ◌<◌, ◌≤◌, max, true, false, List, [], ◌∷◌, ◌++◌, length, drop, map, fold, Option, Some, None, Result, Ok, refl, sym, ap, ◌∙◌, arith}
use Rattle.std.specs.List.{list_any, AllByRecursion}
use Rattle.std.specs.Option.{option_or}
use Rattle.std.proofs.lemmas.List.{drop_at, length-append, map-append}
use Rattle.std.proofs.lemmas.List.Folds.{list_any-append}
use Rattle.std.proofs.lemmas.List.Sums.{fold-append}
use Rattle.std.proofs.lemmas.Grind.{flat_map-append}
use Rattle.pcep_word.specs.Priority.{InForce}
use Rattle.pcep_word.specs.Word.{IsBound, bound_of, magnitude, mantissa, scale}
use Rattle.pcep_word.proofs.Reading.{bound_known}
use Rattle.lsp_words.specs.declared.object.Colours.{Colours}
use Rattle.lsp_words.specs.declared.object.MetricType.{MetricType}
use Rattle.lsp_words.specs.declared.object.MetricType.TheVariants.{Igp, Te, Hops}
use Rattle.pcep_objects.specs.Objects.{object_at}
use Rattle.pcep_objects.specs.Spelling as spelling
use Rattle.pcep_objects.specs.Spelling.{colours_written}
use Rattle.pcep_objects.specs.Steps.{◌>>=◌}
use Rattle.pcep_objects.specs.declared.object.BandwidthType.TheVariants.{Requested}
use Rattle.pcep_objects.specs.declared.object.Lspa.{Lspa}
use Rattle.pcep_objects.specs.declared.object.Metric.{Metric}
use Rattle.pcep_objects.specs.declared.object.Object.{Object}
use Rattle.pcep_objects.specs.declared.object.Object.TheVariants as objects
use Rattle.pcep_objects.specs.declared.request_objects.Rp.{Rp}
use Rattle.pcep_objects.proofs.ObjectsAgain as read
use Rattle.pcep_messages.specs.Constraints.{plsp_of, bandwidth_asked, minimised_by, or_te, bound_on, lesser, bounds_of}
use Rattle.pcep_messages.specs.Counting.{first_of, lspa_of as lspa_in, greatest_of}
use Rattle.pcep_messages.specs.Messages.{Reads}
use Rattle.pcep_messages.specs.Objects.{Found, found_from, found_in_request}
use Rattle.pcep_messages.specs.Reports.{priorities_of, colours_of}
use Rattle.pcep_messages.specs.Requests.{about_rp, is_rp, up_to_rp, kept_fault, request_of, requests_of, requests_in, requests_in_body, request_body, request_with}
use Rattle.pcep_messages.specs.Spelling.{rp_object, lsp_object, end_points_object, object_spelled, object_fits, objects_spelled, objects_fit}
use Rattle.pcep_messages.specs.declared.fault.About.{About}
use Rattle.pcep_messages.specs.declared.fault.MessageFault.{MessageFault}
use Rattle.pcep_messages.specs.declared.message.Message.{Message}
use Rattle.pcep_messages.specs.declared.message.Message.TheVariants as messages
use Rattle.pcep_messages.specs.declared.message.PathRequest.{PathRequest}
use Rattle.pcep_messages.proofs.Finding.{step, passed}
use Rattle.pcep_messages.proofs.Spelled.{Good, all_good, whole, message_again}
use Rattle.item_messages.specs.Objects.{if_any, lspa_of, bandwidth_of, wish_objects}
use Rattle.item_messages.specs.Requests.{least_of, bound_object, bound_objects, metric_objects, ends_objects, request_objects, request_written, MayBePlsp, MayBeBound, IsRequest}
use Rattle.item_messages.proofs.Fitting.{both_fit}
use Rattle.item_messages.proofs.WishesAgain.{says, flow, flow_again, AreNormal, both_normal, wishes_normal}

-- ---- objects are found one after the other, also where P counts

object_first : (rest : List ℕ) (object : Object) (n : ℕ) → 0 < length rest → 0 < n → object_at rest ≡ Ok (object, n)
    → found_in_request rest ≡ record { objects = object ∷ (found_in_request (drop n rest)).objects; fault = (found_in_request (drop n rest)).fault }
object_first rest object n some pos e =
    step true rest some ∙ rw e (ap (λ (f : Found). record { objects = object ∷ f.objects; fault = f.fault }) (passed true rest n pos some))

one_more : (bytes more : List ℕ) (object : Object) (objects : List Object) → 0 < length bytes → object_at (bytes ++ more) ≡ Ok (object, length bytes) → found_in_request more ≡ record { objects = objects; fault = None }
    → found_in_request (bytes ++ more) ≡ record { objects = object ∷ objects; fault = None }
one_more bytes more object objects pos e found =
    object_first (bytes ++ more) object (length bytes) (omega (arith, length-append bytes more)) pos e ∙ rw (drop_at bytes more (length bytes) refl, found) refl

found_again : (objects : List Object) → AllByRecursion Good objects → found_in_request (objects_spelled objects) ≡ record { objects = objects; fault = None }
unfolding found_from object_spelled
found_again [] good = refl
found_again (object ∷ objects) good =
    let some : 0 < length (spelling.written object) = omega arith in
    one_more (spelling.written object) (objects_spelled objects) object objects some (read.again object (objects_spelled objects) good.0.0 good.0.1) (found_again objects good.1)

-- ---- one request, by its RP, its END-POINTS and what stands behind them

up_to_none : (objects : List Object) → list_any is_rp objects ≡ false → up_to_rp objects ≡ objects
up_to_none [] none = refl
up_to_none (objects.Rp rp ∷ rest) none = cc
up_to_none (object ∷ rest) none = ap (λ (xs : List Object). object ∷ xs) (up_to_none rest none)

none_left : (objects : List Object) → list_any is_rp objects ≡ false → requests_of objects None ≡ Ok []
none_left [] none = refl
none_left (objects.Rp rp ∷ rest) none = cc
none_left (object ∷ rest) none = none_left rest none

or_again : {B : Type 0} (a b c : Option B) → option_or (option_or a b) c ≡ option_or a (option_or b c)
or_again None b c = refl
or_again (Some x) b c = refl

first_both : {B : Type 0} (part : Object → Option B) (xs ys : List Object) → first_of part (xs ++ ys) ≡ option_or (first_of part xs) (first_of part ys)
first_both part [] ys = refl
first_both part (x ∷ xs) ys = ap (option_or (part x)) (first_both part xs ys) ∙ sym (or_again (part x) (first_of part xs) (first_of part ys))

fold_both : {A B : Type 0} (f : B → A → B) (start : B) (part : Object → A) (xs ys : List Object) → fold f start (map part (xs ++ ys)) ≡ fold f (fold f start (map part xs)) (map part ys)
fold_both f start part xs ys = ap (fold f start) (map-append part xs ys) ∙ fold-append f start (map part xs) (map part ys)

-- what counts of LSP, LSPA and BANDWIDTH
record Front (plsp : Option ℕ) (lspa : Option Lspa) (bandwidth : Option ℕ) (xs : List Object) : Type 0 where
  no_rp : list_any is_rp xs ≡ false
  no_kept : (about : About) → first_of (kept_fault about) xs ≡ None
  plsp_is : first_of plsp_of xs ≡ plsp
  lspa_is : first_of lspa_in xs ≡ lspa
  least_is : first_of minimised_by xs ≡ None
  flow_is : fold max 0 (map bandwidth_asked xs) ≡ flow bandwidth
  no_bounds : (number : ℕ) → fold lesser None (map (bound_on number) xs) ≡ None

abbrev front_of : Option ℕ → Option Lspa → Option ℕ → List Object
front_of plsp lspa bandwidth =
    if_any (λ plsp. objects.Lsp (lsp_object plsp false false None)) plsp ++ (if_any (λ lspa. objects.Lspa lspa) lspa ++ if_any (λ b. objects.Bandwidth Requested b) bandwidth)

front : (plsp : Option ℕ) (lspa : Option Lspa) (bandwidth : Option ℕ) → Front plsp lspa bandwidth (front_of plsp lspa bandwidth)
front None None None = record { no_rp = refl; no_kept = λ about. refl; plsp_is = refl; lspa_is = refl; least_is = refl; flow_is = refl; no_bounds = λ number. refl }
front None None (Some bandwidth) = record { no_rp = refl; no_kept = λ about. refl; plsp_is = refl; lspa_is = refl; least_is = refl; flow_is = refl; no_bounds = λ number. refl }
front None (Some lspa) None = record { no_rp = refl; no_kept = λ about. refl; plsp_is = refl; lspa_is = refl; least_is = refl; flow_is = refl; no_bounds = λ number. refl }
front None (Some lspa) (Some bandwidth) = record { no_rp = refl; no_kept = λ about. refl; plsp_is = refl; lspa_is = refl; least_is = refl; flow_is = refl; no_bounds = λ number. refl }
front (Some plsp) None None = record { no_rp = refl; no_kept = λ about. refl; plsp_is = refl; lspa_is = refl; least_is = refl; flow_is = refl; no_bounds = λ number. refl }
front (Some plsp) None (Some bandwidth) = record { no_rp = refl; no_kept = λ about. refl; plsp_is = refl; lspa_is = refl; least_is = refl; flow_is = refl; no_bounds = λ number. refl }
front (Some plsp) (Some lspa) None = record { no_rp = refl; no_kept = λ about. refl; plsp_is = refl; lspa_is = refl; least_is = refl; flow_is = refl; no_bounds = λ number. refl }
front (Some plsp) (Some lspa) (Some bandwidth) = record { no_rp = refl; no_kept = λ about. refl; plsp_is = refl; lspa_is = refl; least_is = refl; flow_is = refl; no_bounds = λ number. refl }

abbrev AskNone : List Object → Type 0
AskNone xs = AllByRecursion (λ object. bandwidth_asked object ≡ 0) xs

none_flows : (xs : List Object) → AskNone xs → (start : ℕ) → fold max start (map bandwidth_asked xs) ≡ start
none_flows [] none start = refl
none_flows (x ∷ xs) none start =
    let same : max start (bandwidth_asked x) ≡ start = omega (arith, none.0) in
    ap (λ (n : ℕ). fold max n (map bandwidth_asked xs)) same ∙ none_flows xs none.1 start

-- what counts of METRICs
record Back (minimise : MetricType) (igp te hops : Option ℕ) (xs : List Object) : Type 0 where
  no_rp : list_any is_rp xs ≡ false
  no_kept : (about : About) → first_of (kept_fault about) xs ≡ None
  no_plsp : first_of plsp_of xs ≡ None
  no_lspa : first_of lspa_in xs ≡ None
  least_is : or_te (first_of minimised_by xs) ≡ minimise
  no_flow : AskNone xs
  igp_is : fold lesser None (map (bound_on 1) xs) ≡ igp
  te_is : fold lesser None (map (bound_on 2) xs) ≡ te
  hops_is : fold lesser None (map (bound_on 3) xs) ≡ hops

abbrev back_of : MetricType → Option ℕ → Option ℕ → Option ℕ → List Object
back_of minimise igp te hops =
    if_any (λ metric. objects.Metric metric) (least_of minimise) ++ (if_any (bound_object Igp) igp ++ if_any (bound_object Te) te ++ if_any (bound_object Hops) hops)

back : (minimise : MetricType) (igp te hops : Option ℕ) → Back minimise igp te hops (back_of minimise igp te hops)
back Igp None None None = record { no_rp = refl; no_kept = λ about. refl; no_plsp = refl; no_lspa = refl; least_is = refl; no_flow = (refl, tt); igp_is = refl; te_is = refl; hops_is = refl }
back Igp None None (Some hops) = record { no_rp = refl; no_kept = λ about. refl; no_plsp = refl; no_lspa = refl; least_is = refl; no_flow = (refl, (refl, tt)); igp_is = refl; te_is = refl; hops_is = refl }
back Igp None (Some te) None = record { no_rp = refl; no_kept = λ about. refl; no_plsp = refl; no_lspa = refl; least_is = refl; no_flow = (refl, (refl, tt)); igp_is = refl; te_is = refl; hops_is = refl }
back Igp None (Some te) (Some hops) = record { no_rp = refl; no_kept = λ about. refl; no_plsp = refl; no_lspa = refl; least_is = refl; no_flow = (refl, (refl, (refl, tt))); igp_is = refl; te_is = refl; hops_is = refl }
back Igp (Some igp) None None = record { no_rp = refl; no_kept = λ about. refl; no_plsp = refl; no_lspa = refl; least_is = refl; no_flow = (refl, (refl, tt)); igp_is = refl; te_is = refl; hops_is = refl }
back Igp (Some igp) None (Some hops) = record { no_rp = refl; no_kept = λ about. refl; no_plsp = refl; no_lspa = refl; least_is = refl; no_flow = (refl, (refl, (refl, tt))); igp_is = refl; te_is = refl; hops_is = refl }
back Igp (Some igp) (Some te) None = record { no_rp = refl; no_kept = λ about. refl; no_plsp = refl; no_lspa = refl; least_is = refl; no_flow = (refl, (refl, (refl, tt))); igp_is = refl; te_is = refl; hops_is = refl }
back Igp (Some igp) (Some te) (Some hops) = record { no_rp = refl; no_kept = λ about. refl; no_plsp = refl; no_lspa = refl; least_is = refl; no_flow = (refl, (refl, (refl, (refl, tt)))); igp_is = refl; te_is = refl; hops_is = refl }
back Te None None None = record { no_rp = refl; no_kept = λ about. refl; no_plsp = refl; no_lspa = refl; least_is = refl; no_flow = tt; igp_is = refl; te_is = refl; hops_is = refl }
back Te None None (Some hops) = record { no_rp = refl; no_kept = λ about. refl; no_plsp = refl; no_lspa = refl; least_is = refl; no_flow = (refl, tt); igp_is = refl; te_is = refl; hops_is = refl }
back Te None (Some te) None = record { no_rp = refl; no_kept = λ about. refl; no_plsp = refl; no_lspa = refl; least_is = refl; no_flow = (refl, tt); igp_is = refl; te_is = refl; hops_is = refl }
back Te None (Some te) (Some hops) = record { no_rp = refl; no_kept = λ about. refl; no_plsp = refl; no_lspa = refl; least_is = refl; no_flow = (refl, (refl, tt)); igp_is = refl; te_is = refl; hops_is = refl }
back Te (Some igp) None None = record { no_rp = refl; no_kept = λ about. refl; no_plsp = refl; no_lspa = refl; least_is = refl; no_flow = (refl, tt); igp_is = refl; te_is = refl; hops_is = refl }
back Te (Some igp) None (Some hops) = record { no_rp = refl; no_kept = λ about. refl; no_plsp = refl; no_lspa = refl; least_is = refl; no_flow = (refl, (refl, tt)); igp_is = refl; te_is = refl; hops_is = refl }
back Te (Some igp) (Some te) None = record { no_rp = refl; no_kept = λ about. refl; no_plsp = refl; no_lspa = refl; least_is = refl; no_flow = (refl, (refl, tt)); igp_is = refl; te_is = refl; hops_is = refl }
back Te (Some igp) (Some te) (Some hops) = record { no_rp = refl; no_kept = λ about. refl; no_plsp = refl; no_lspa = refl; least_is = refl; no_flow = (refl, (refl, (refl, tt))); igp_is = refl; te_is = refl; hops_is = refl }
back Hops None None None = record { no_rp = refl; no_kept = λ about. refl; no_plsp = refl; no_lspa = refl; least_is = refl; no_flow = (refl, tt); igp_is = refl; te_is = refl; hops_is = refl }
back Hops None None (Some hops) = record { no_rp = refl; no_kept = λ about. refl; no_plsp = refl; no_lspa = refl; least_is = refl; no_flow = (refl, (refl, tt)); igp_is = refl; te_is = refl; hops_is = refl }
back Hops None (Some te) None = record { no_rp = refl; no_kept = λ about. refl; no_plsp = refl; no_lspa = refl; least_is = refl; no_flow = (refl, (refl, tt)); igp_is = refl; te_is = refl; hops_is = refl }
back Hops None (Some te) (Some hops) = record { no_rp = refl; no_kept = λ about. refl; no_plsp = refl; no_lspa = refl; least_is = refl; no_flow = (refl, (refl, (refl, tt))); igp_is = refl; te_is = refl; hops_is = refl }
back Hops (Some igp) None None = record { no_rp = refl; no_kept = λ about. refl; no_plsp = refl; no_lspa = refl; least_is = refl; no_flow = (refl, (refl, tt)); igp_is = refl; te_is = refl; hops_is = refl }
back Hops (Some igp) None (Some hops) = record { no_rp = refl; no_kept = λ about. refl; no_plsp = refl; no_lspa = refl; least_is = refl; no_flow = (refl, (refl, (refl, tt))); igp_is = refl; te_is = refl; hops_is = refl }
back Hops (Some igp) (Some te) None = record { no_rp = refl; no_kept = λ about. refl; no_plsp = refl; no_lspa = refl; least_is = refl; no_flow = (refl, (refl, (refl, tt))); igp_is = refl; te_is = refl; hops_is = refl }
back Hops (Some igp) (Some te) (Some hops) = record { no_rp = refl; no_kept = λ about. refl; no_plsp = refl; no_lspa = refl; least_is = refl; no_flow = (refl, (refl, (refl, (refl, tt)))); igp_is = refl; te_is = refl; hops_is = refl }

-- ---- what stands behind END-POINTS, whole

abbrev rp_for : ℕ → Rp
rp_for id = record { p = true; priority = 0; reoptimize = false; bidirectional = false; loose = false; id = id }

abbrev rebuilt : PathRequest → Option ℕ → ℕ → InForce → Colours → MetricType → Option ℕ → Option ℕ → Option ℕ → PathRequest
rebuilt r plsp bandwidth priorities colours minimise igp te hops =
    record r { plsp = plsp; bandwidth = bandwidth; priorities = priorities; colours = colours; minimise = minimise; bounds = record { igp = igp; te = te; hops = hops } }

same_request : (r : PathRequest) (plsp : Option ℕ) (bandwidth : ℕ) (priorities : InForce) (colours : Colours) (minimise : MetricType) (igp te hops : Option ℕ)
    → plsp ≡ r.plsp → bandwidth ≡ r.bandwidth → priorities ≡ r.priorities → colours ≡ r.colours → minimise ≡ r.minimise → igp ≡ (r.bounds).igp → te ≡ (r.bounds).te → hops ≡ (r.bounds).hops
    → rebuilt r plsp bandwidth priorities colours minimise igp te hops ≡ r
same_request r plsp bandwidth priorities colours minimise igp te hops a b c d e f g h =
    ap (λ (x : Option ℕ). rebuilt r x bandwidth priorities colours minimise igp te hops) a
    ∙ ap (λ (x : ℕ). rebuilt r r.plsp x priorities colours minimise igp te hops) b
    ∙ ap (λ (x : InForce). rebuilt r r.plsp r.bandwidth x colours minimise igp te hops) c
    ∙ ap (λ (x : Colours). rebuilt r r.plsp r.bandwidth r.priorities x minimise igp te hops) d
    ∙ ap (λ (x : MetricType). rebuilt r r.plsp r.bandwidth r.priorities r.colours x igp te hops) e
    ∙ ap (λ (x : Option ℕ). rebuilt r r.plsp r.bandwidth r.priorities r.colours r.minimise x te hops) f
    ∙ ap (λ (x : Option ℕ). rebuilt r r.plsp r.bandwidth r.priorities r.colours r.minimise (r.bounds).igp x hops) g
    ∙ ap (λ (x : Option ℕ). rebuilt r r.plsp r.bandwidth r.priorities r.colours r.minimise (r.bounds).igp (r.bounds).te x) h

abbrev wished : PathRequest → Option Lspa
wished r = lspa_of r.priorities r.colours false

abbrev fronts : PathRequest → List Object
fronts r = front_of r.plsp (wished r) (bandwidth_of r.bandwidth)

abbrev backs : PathRequest → List Object
backs r = back_of r.minimise (r.bounds).igp (r.bounds).te (r.bounds).hops

abbrev ends_of : PathRequest → Object
ends_of r = end_points_object r.source r.destination

-- the objects behind the RP
abbrev behind : PathRequest → List Object
behind r = ends_of r ∷ (fronts r ++ backs r)

in_order : (r : PathRequest) → request_objects r ≡ rp_object true r.request ∷ behind r
in_order r = refl

abbrev read_of : PathRequest → List Object → PathRequest
read_of r objects =
    request_with (rp_for r.request) (record { p = true; source = r.source; destination = r.destination }) (first_of plsp_of objects) (greatest_of bandwidth_asked objects) (first_of lspa_in objects) (first_of minimised_by objects) (bounds_of objects)

no_rp_behind : (r : PathRequest) → list_any is_rp (fronts r ++ backs r) ≡ false
no_rp_behind r =
    list_any-append is_rp (fronts r) (backs r)
    ∙ rw ((front r.plsp (wished r) (bandwidth_of r.bandwidth)).no_rp, (back r.minimise (r.bounds).igp (r.bounds).te (r.bounds).hops).no_rp) refl

none_kept : (r : PathRequest) (about : About) → first_of (kept_fault about) (fronts r ++ backs r) ≡ None
none_kept r about =
    first_both (kept_fault about) (fronts r) (backs r)
    ∙ rw ((front r.plsp (wished r) (bandwidth_of r.bandwidth)).no_kept about, (back r.minimise (r.bounds).igp (r.bounds).te (r.bounds).hops).no_kept about) refl

or_none : {B : Type 0} (a : Option B) → option_or a None ≡ a
or_none None = refl
or_none (Some x) = refl

read_again : (r : PathRequest) → IsRequest r → read_of r (behind r) ≡ r
read_again r is =
    let f = front r.plsp (wished r) (bandwidth_of r.bandwidth) in
    let b = back r.minimise (r.bounds).igp (r.bounds).te (r.bounds).hops in
    let s = says r.priorities r.colours false is.priorities.hold in
    let plsp : first_of plsp_of (behind r) ≡ r.plsp = first_both plsp_of (fronts r) (backs r) ∙ rw (f.plsp_is, b.no_plsp) (or_none r.plsp) in
    let lspa : first_of lspa_in (behind r) ≡ wished r = first_both lspa_in (fronts r) (backs r) ∙ rw (f.lspa_is, b.no_lspa) (or_none (wished r)) in
    let least : first_of minimised_by (behind r) ≡ first_of minimised_by (backs r) = first_both minimised_by (fronts r) (backs r) ∙ rw f.least_is refl in
    let minimise : or_te (first_of minimised_by (behind r)) ≡ r.minimise = ap or_te least ∙ b.least_is in
    let flowing : greatest_of bandwidth_asked (behind r) ≡ r.bandwidth = fold_both max 0 bandwidth_asked (fronts r) (backs r) ∙ none_flows (backs r) b.no_flow (fold max 0 (map bandwidth_asked (fronts r))) ∙ f.flow_is ∙ flow_again r.bandwidth in
    let igp : fold lesser None (map (bound_on 1) (behind r)) ≡ (r.bounds).igp = fold_both lesser None (bound_on 1) (fronts r) (backs r) ∙ rw (f.no_bounds 1) b.igp_is in
    let te : fold lesser None (map (bound_on 2) (behind r)) ≡ (r.bounds).te = fold_both lesser None (bound_on 2) (fronts r) (backs r) ∙ rw (f.no_bounds 2) b.te_is in
    let hops : fold lesser None (map (bound_on 3) (behind r)) ≡ (r.bounds).hops = fold_both lesser None (bound_on 3) (fronts r) (backs r) ∙ rw (f.no_bounds 3) b.hops_is in
    same_request r (first_of plsp_of (behind r)) (greatest_of bandwidth_asked (behind r)) (priorities_of (first_of lspa_in (behind r))) (colours_of (first_of lspa_in (behind r))) (or_te (first_of minimised_by (behind r)))
    (fold lesser None (map (bound_on 1) (behind r))) (fold lesser None (map (bound_on 2) (behind r))) (fold lesser None (map (bound_on 3) (behind r)))
    plsp flowing (ap priorities_of lspa ∙ s.same_priorities) (ap colours_of lspa ∙ s.same_colours) minimise igp te hops

-- ---- the one request

request_again : (r : PathRequest) → IsRequest r → request_of (rp_for r.request) (behind r) None ≡ Ok r
request_again r is = rw (none_kept r (about_rp (rp_for r.request))) (ap (λ (x : PathRequest). Ok x) (read_again r is))

one_request : (r : PathRequest) → IsRequest r → requests_in (rp_object true r.request ∷ behind r) None ≡ Ok (r ∷ [])
one_request r is =
    rw (up_to_none (fronts r ++ backs r) (no_rp_behind r), no_rp_behind r, none_left (fronts r ++ backs r) (no_rp_behind r), request_again r is) refl

-- ---- the objects are normal, and fit

plsp_normal : (plsp : Option ℕ) → MayBePlsp plsp → AreNormal (if_any (λ plsp. objects.Lsp (lsp_object plsp false false None)) plsp)
plsp_normal None is = tt
plsp_normal (Some plsp) is = (record { plsp = is; identifiers = tt; error_code = tt; rsvp_error = tt }, tt)

bound_normal : (kind : MetricType) (bound : Option ℕ) → MayBeBound bound → AreNormal (if_any (bound_object kind) bound)
bound_normal kind None is = tt
bound_normal kind (Some bound) is = (is, tt)

zero_bound : IsBound 0
unfolding bound_of magnitude mantissa scale
zero_bound = bound_known 0 0 refl

least_normal : (kind : MetricType) → AreNormal (if_any (λ metric. objects.Metric metric) (least_of kind))
least_normal Igp = (zero_bound, tt)
least_normal Te = tt
least_normal Hops = (zero_bound, tt)

objects_normal : (r : PathRequest) → IsRequest r → AreNormal (request_objects r)
objects_normal r is =
    let ends : AreNormal (ends_objects r) = (record { priority = omega arith; id = is.request }, ((refl, record { source = is.source; destination = is.destination }), plsp_normal r.plsp is.plsp)) in
    let wishes : AreNormal (wish_objects r.priorities r.colours false r.bandwidth) = wishes_normal r.priorities r.colours false r.bandwidth is.priorities is.exclude_any is.include_any is.include_all is.bandwidth in
    let two : AreNormal (if_any (bound_object Igp) (r.bounds).igp ++ if_any (bound_object Te) (r.bounds).te) = both_normal (if_any (bound_object Igp) (r.bounds).igp) (if_any (bound_object Te) (r.bounds).te) (bound_normal Igp (r.bounds).igp is.igp) (bound_normal Te (r.bounds).te is.te) in
    let bounds : AreNormal (bound_objects r.bounds) = both_normal (if_any (bound_object Igp) (r.bounds).igp ++ if_any (bound_object Te) (r.bounds).te) (if_any (bound_object Hops) (r.bounds).hops) two (bound_normal Hops (r.bounds).hops is.hops) in
    let metrics : AreNormal (metric_objects r) = both_normal (if_any (λ metric. objects.Metric metric) (least_of r.minimise)) (bound_objects r.bounds) (least_normal r.minimise) bounds in
    let front : AreNormal (ends_objects r ++ wish_objects r.priorities r.colours false r.bandwidth) = both_normal (ends_objects r) (wish_objects r.priorities r.colours false r.bandwidth) ends wishes in
    both_normal (ends_objects r ++ wish_objects r.priorities r.colours false r.bandwidth) (metric_objects r) front metrics

-- objects that fit, and have so many bytes at the most
pub record Fit (most : ℕ) (xs : List Object) : Type 0 where
  pub fits : objects_fit xs ≡ true
  pub short : length (objects_spelled xs) ≤ most

fit_both : (m n : ℕ) (xs ys : List Object) → Fit m xs → Fit n ys → Fit (m + n) (xs ++ ys)
fit_both m n xs ys first second =
    let spelled : length (objects_spelled (xs ++ ys)) ≡ length (objects_spelled xs) + length (objects_spelled ys) = ap length (flat_map-append object_spelled xs ys) ∙ length-append (objects_spelled xs) (objects_spelled ys) in
    record { fits = both_fit xs ys first.fits second.fits; short = omega (arith, spelled, first.short, second.short) }

none_fit : Fit 24 []
none_fit = record { fits = refl; short = omega arith }

rp_fits : (id : ℕ) → Fit 24 (rp_object true id ∷ [])
unfolding object_fits object_spelled
rp_fits id = record { fits = refl; short = omega arith }

ends_fit : (source destination : ℕ) → Fit 24 (end_points_object source destination ∷ [])
unfolding object_fits object_spelled
ends_fit source destination = record { fits = refl; short = omega arith }

plsp_fits : (plsp : Option ℕ) → Fit 24 (if_any (λ plsp. objects.Lsp (lsp_object plsp false false None)) plsp)
unfolding object_fits object_spelled
plsp_fits None = none_fit
plsp_fits (Some plsp) = record { fits = refl; short = omega arith }

lspa_fits : (lspa : Option Lspa) → Fit 24 (if_any (λ lspa. objects.Lspa lspa) lspa)
unfolding object_fits object_spelled colours_written
lspa_fits None = none_fit
lspa_fits (Some lspa) = record { fits = refl; short = omega arith }

bandwidth_fits : (bandwidth : Option ℕ) → Fit 24 (if_any (λ b. objects.Bandwidth Requested b) bandwidth)
unfolding object_fits object_spelled
bandwidth_fits None = none_fit
bandwidth_fits (Some bandwidth) = record { fits = refl; short = omega arith }

metric_fits : (metric : Option Metric) → Fit 24 (if_any (λ metric. objects.Metric metric) metric)
unfolding object_fits object_spelled
metric_fits None = none_fit
metric_fits (Some metric) = record { fits = refl; short = omega arith }

bound_fit : (kind : MetricType) (bound : Option ℕ) → Fit 24 (if_any (bound_object kind) bound)
unfolding object_fits object_spelled
bound_fit kind None = none_fit
bound_fit kind (Some bound) = record { fits = refl; short = omega arith }

pub request_fit : (r : PathRequest) → Fit 216 (request_objects r)
request_fit r =
    let two : Fit 48 (if_any (bound_object Igp) (r.bounds).igp ++ if_any (bound_object Te) (r.bounds).te) = fit_both 24 24 (if_any (bound_object Igp) (r.bounds).igp) (if_any (bound_object Te) (r.bounds).te) (bound_fit Igp (r.bounds).igp) (bound_fit Te (r.bounds).te) in
    let bounds : Fit 72 (bound_objects r.bounds) = fit_both 48 24 (if_any (bound_object Igp) (r.bounds).igp ++ if_any (bound_object Te) (r.bounds).te) (if_any (bound_object Hops) (r.bounds).hops) two (bound_fit Hops (r.bounds).hops) in
    let metrics : Fit 96 (metric_objects r) = fit_both 24 72 (if_any (λ metric. objects.Metric metric) (least_of r.minimise)) (bound_objects r.bounds) (metric_fits (least_of r.minimise)) bounds in
    let wishes : Fit 48 (wish_objects r.priorities r.colours false r.bandwidth) = fit_both 24 24 (if_any (λ lspa. objects.Lspa lspa) (wished r)) (if_any (λ b. objects.Bandwidth Requested b) (bandwidth_of r.bandwidth)) (lspa_fits (wished r)) (bandwidth_fits (bandwidth_of r.bandwidth)) in
    let named : Fit 48 (ends_of r ∷ if_any (λ plsp. objects.Lsp (lsp_object plsp false false None)) r.plsp) = fit_both 24 24 (ends_of r ∷ []) (if_any (λ plsp. objects.Lsp (lsp_object plsp false false None)) r.plsp) (ends_fit r.source r.destination) (plsp_fits r.plsp) in
    let ends : Fit 72 (ends_objects r) = fit_both 24 48 (rp_object true r.request ∷ []) (ends_of r ∷ if_any (λ plsp. objects.Lsp (lsp_object plsp false false None)) r.plsp) (rp_fits r.request) named in
    let front : Fit 120 (ends_objects r ++ wish_objects r.priorities r.colours false r.bandwidth) = fit_both 72 48 (ends_objects r) (wish_objects r.priorities r.colours false r.bandwidth) ends wishes in
    fit_both 120 96 (ends_objects r ++ wish_objects r.priorities r.colours false r.bandwidth) (metric_objects r) front metrics

pub request_short : (r : PathRequest) → length (objects_spelled (request_objects r)) ≤ 216
request_short r = (request_fit r).short

-- ---- the message

abbrev read_from : Found → Result Message MessageFault
read_from found = requests_in found.objects found.fault >>= λ requests. Ok (messages.Request requests)

body_again : (r : PathRequest) → IsRequest r → found_in_request (objects_spelled (request_objects r)) ≡ record { objects = request_objects r; fault = None } → request_body (objects_spelled (request_objects r)) ≡ Ok (messages.Request (r ∷ []))
unfolding request_body requests_in_body
body_again r is found =
    ap read_from found
    ∙ ap (λ (objects : List Object). requests_in objects None >>= λ requests. Ok (messages.Request requests)) (in_order r)
    ∙ ap (λ (read : Result (List PathRequest) MessageFault). read >>= λ requests. Ok (messages.Request requests)) (one_request r is)

pub again : (r : PathRequest) → IsRequest r → Reads (request_written r) (messages.Request (r ∷ []))
unfolding request_written
again r is =
    let each = objects_normal r is in
    let fit = request_fit r in
    let body = objects_spelled (request_objects r) in
    message_again 3 body (omega (arith, fit.short)) (whole (request_objects r) each)
    ∙ body_again r is (found_again (request_objects r) (all_good (request_objects r) each fit.fits))
