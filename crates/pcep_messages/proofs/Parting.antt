-- Taking in objects one after the other, as a loop does, gives the parts of all objects.
use Rattle.std.proofs.Common.{◌≡◌, ℕ, List, [], ◌∷◌, map, fold, Option, Some, None, Result, Ok, Err, refl, sym, ap, ◌∙◌}
use Rattle.std.specs.Option.{option_or}
use Rattle.pcep_objects.specs.declared.fault.BodyFault.{BodyFault}
use Rattle.pcep_objects.specs.declared.fault.ObjectFault.{ObjectFault}
use Rattle.lsp_words.specs.declared.object.Hop.{Hop}
use Rattle.pcep_objects.specs.declared.object.LspObject.{LspObject}
use Rattle.pcep_objects.specs.declared.object.Lspa.{Lspa}
use Rattle.pcep_objects.specs.declared.object.Metric.{Metric}
use Rattle.pcep_objects.specs.declared.object.Object.{Object}
use Rattle.pcep_objects.specs.declared.object.Srp.{Srp}
use Rattle.pcep_objects.specs.declared.request_objects.EndPoints.{EndPoints}
use Rattle.pcep_objects.specs.declared.request_objects.NoPath.{NoPath}
use Rattle.pcep_objects.specs.declared.request_objects.Rp.{Rp}
use Rattle.pcep_objects.specs.declared.session_objects.Close.{Close}
use Rattle.pcep_objects.specs.declared.session_objects.Open.{Open}
use Rattle.pcep_objects.specs.declared.object.Object.TheVariants as objects
use Rattle.pcep_messages.specs.declared.parts.Parts.{Parts}
use Rattle.pcep_messages.specs.Counting.{first_of, opening_of, rp_of, no_path_of, end_points_of, metric_of, ero_of, lspa_of, close_of, lsp_of, srp_of, requested_of, greater_of}
use Rattle.pcep_messages.specs.Objects.{Found, stopped_by}
use Rattle.pcep_messages.specs.ObjectSteps.{begun_by, nothing_found}
use Rattle.pcep_messages.specs.Parts as all
use Rattle.pcep_messages.specs.PartSteps.{no_parts, and_then, joined, kept, ArePartsOf}
use Rattle.pcep_messages.proofs.Taking.{or_assoc, or_none}

-- parts that were taken in, together with the objects that follow
abbrev pub with_objects : Parts → List Object → all.Parts
with_objects parts objects = record {
  opening = option_or parts.opening (first_of opening_of objects);
  rp = option_or parts.rp (first_of rp_of objects);
  no_path = option_or parts.no_path (first_of no_path_of objects);
  end_points = option_or parts.end_points (first_of end_points_of objects);
  bandwidth = fold greater_of parts.bandwidth (map requested_of objects);
  metric = option_or parts.metric (first_of metric_of objects);
  ero = option_or parts.ero (first_of ero_of objects);
  lspa = option_or parts.lspa (first_of lspa_of objects);
  close = option_or parts.close (first_of close_of objects);
  lsp = option_or parts.lsp (first_of lsp_of objects);
  srp = option_or parts.srp (first_of srp_of objects);
}

with_none : (parts : Parts) → with_objects parts [] ≡ kept parts
with_none parts =
    rw (or_none parts.opening, or_none parts.rp, or_none parts.no_path, or_none parts.end_points, or_none parts.metric, or_none parts.ero, or_none parts.lspa, or_none parts.close, or_none parts.lsp, or_none parts.srp) refl

greater_none : (b : Option ℕ) → greater_of b None ≡ b
greater_none None = refl
greater_none (Some b) = refl

-- an object that asks for no bandwidth doesn't change the bandwidth
quiet : (parts : Parts) (whole : all.Parts) (os : List Object)
    → record whole { bandwidth = fold greater_of (greater_of parts.bandwidth None) (map requested_of os) } ≡ record whole { bandwidth = fold greater_of parts.bandwidth (map requested_of os) }
quiet parts whole os = ap (λ (b : Option ℕ). record whole { bandwidth = fold greater_of b (map requested_of os) }) (greater_none parts.bandwidth)

takes : (parts : Parts) (object : Object) (os : List Object) → with_objects parts (object ∷ os) ≡ with_objects (and_then parts object) os
takes parts (objects.Open x) os = quiet parts (with_objects parts (objects.Open x ∷ os)) os ∙ ap (λ (y : Option (Open)). record (with_objects parts os) { opening = y }) (sym (or_assoc parts.opening (Some x) (first_of opening_of os)))
takes parts (objects.Rp x) os = quiet parts (with_objects parts (objects.Rp x ∷ os)) os ∙ ap (λ (y : Option (Rp)). record (with_objects parts os) { rp = y }) (sym (or_assoc parts.rp (Some x) (first_of rp_of os)))
takes parts (objects.NoPath x) os = quiet parts (with_objects parts (objects.NoPath x ∷ os)) os ∙ ap (λ (y : Option (NoPath)). record (with_objects parts os) { no_path = y }) (sym (or_assoc parts.no_path (Some x) (first_of no_path_of os)))
takes parts (objects.EndPoints x) os = quiet parts (with_objects parts (objects.EndPoints x ∷ os)) os ∙ ap (λ (y : Option (EndPoints)). record (with_objects parts os) { end_points = y }) (sym (or_assoc parts.end_points (Some x) (first_of end_points_of os)))
takes parts (objects.Bandwidth kind bandwidth) os = refl
takes parts (objects.Metric x) os = quiet parts (with_objects parts (objects.Metric x ∷ os)) os ∙ ap (λ (y : Option (Metric)). record (with_objects parts os) { metric = y }) (sym (or_assoc parts.metric (Some x) (first_of metric_of os)))
takes parts (objects.Ero x) os = quiet parts (with_objects parts (objects.Ero x ∷ os)) os ∙ ap (λ (y : Option (List Hop)). record (with_objects parts os) { ero = y }) (sym (or_assoc parts.ero (Some x) (first_of ero_of os)))
takes parts (objects.Rro x) os = quiet parts (with_objects parts (objects.Rro x ∷ os)) os
takes parts (objects.Lspa x) os = quiet parts (with_objects parts (objects.Lspa x ∷ os)) os ∙ ap (λ (y : Option (Lspa)). record (with_objects parts os) { lspa = y }) (sym (or_assoc parts.lspa (Some x) (first_of lspa_of os)))
takes parts (objects.Kept x) os = quiet parts (with_objects parts (objects.Kept x ∷ os)) os
takes parts (objects.Notification x) os = quiet parts (with_objects parts (objects.Notification x ∷ os)) os
takes parts (objects.Error x) os = quiet parts (with_objects parts (objects.Error x ∷ os)) os
takes parts (objects.Close x) os = quiet parts (with_objects parts (objects.Close x ∷ os)) os ∙ ap (λ (y : Option (Close)). record (with_objects parts os) { close = y }) (sym (or_assoc parts.close (Some x) (first_of close_of os)))
takes parts (objects.Lsp x) os = quiet parts (with_objects parts (objects.Lsp x ∷ os)) os ∙ ap (λ (y : Option (LspObject)). record (with_objects parts os) { lsp = y }) (sym (or_assoc parts.lsp (Some x) (first_of lsp_of os)))
takes parts (objects.Srp x) os = quiet parts (with_objects parts (objects.Srp x ∷ os)) os ∙ ap (λ (y : Option (Srp)). record (with_objects parts os) { srp = y }) (sym (or_assoc parts.srp (Some x) (first_of srp_of os)))

-- the parts so far with those of the rest are the parts of all objects, and the rest has the same fault
abbrev pub Continues : Parts → Found → Found → Type 0
Continues parts rest whole = (with_objects parts rest.objects ≡ all.parts_of whole.objects) × (rest.fault ≡ whole.fault)

pub begins : (whole : Found) → Continues no_parts whole whole
unfolding all.parts_of
begins whole = (refl, refl)

goes_on : (parts taken : Parts) (found rest whole : Found) (object : Object) → found ≡ record { objects = object ∷ rest.objects; fault = rest.fault } → taken ≡ and_then parts object
    → Continues parts found whole → Continues taken rest whole
goes_on parts taken found rest whole object one is so_far =
    (ap (λ (p : Parts). with_objects p rest.objects) is ∙ sym (takes parts object rest.objects) ∙ ap (λ (f : Found). with_objects parts f.objects) (sym one) ∙ so_far.0, ap (λ (f : Found). f.fault) (sym one) ∙ so_far.1)

pub takes_body : (parts taken : Parts) (found rest whole : Found) (read : Result Object BodyFault) → found ≡ begun_by read rest → joined read parts ≡ Ok taken
    → Continues parts found whole → Continues taken rest whole
takes_body parts taken found rest whole (Ok object) one took so_far = let is : taken ≡ and_then parts object = cc in goes_on parts taken found rest whole object one is so_far
takes_body parts taken found rest whole (Err fault) one took so_far = cc

pub stops : (parts : Parts) (found whole : Found) (fault : ObjectFault) → found ≡ stopped_by fault → Continues parts found whole → ArePartsOf whole parts (Some fault)
stops parts found whole fault one so_far =
    (sym so_far.0 ∙ ap (λ (f : Found). with_objects parts f.objects) one ∙ with_none parts, sym so_far.1 ∙ ap (λ (f : Found). f.fault) one)

pub ends : (parts : Parts) (found whole : Found) → found ≡ nothing_found → Continues parts found whole → ArePartsOf whole parts None
ends parts found whole one so_far =
    (sym so_far.0 ∙ ap (λ (f : Found). with_objects parts f.objects) one ∙ with_none parts, sym so_far.1 ∙ ap (λ (f : Found). f.fault) one)
