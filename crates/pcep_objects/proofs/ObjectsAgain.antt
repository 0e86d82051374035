-- Objects of every kind are read again from their spelling.
use Rattle.std.proofs.Common.{◌≡◌, ℕ, ◌+◌, ◌%◌, ◌^◌, ◌<◌, Bool, true, false, List, ◌++◌, length, Option, Some, None, Ok, refl, sym, ap, ◌∙◌, arith}
use Rattle.std.proofs.lemmas.Bool.{and_parts, ltb-true}
use Rattle.std.proofs.lemmas.List.{length-append}
use Rattle.pcep_objects.specs.declared.kind.Kind.{Kind}
use Rattle.pcep_objects.specs.declared.kind.Kind.TheVariants as kinds
use Rattle.pcep_objects.specs.declared.object.BandwidthType.{BandwidthType}
use Rattle.pcep_objects.specs.declared.object.BandwidthType.TheVariants.{Requested, Current}
use Rattle.pcep_objects.specs.declared.object.KeptClass.{KeptClass}
use Rattle.pcep_objects.specs.declared.object.KeptClass.TheVariants.{Iro, Svec, LoadBalancing}
use Rattle.pcep_objects.specs.declared.object.Identifiers.{Identifiers}
use Rattle.pcep_objects.specs.declared.object.Kept.{Kept}
use Rattle.pcep_objects.specs.declared.object.RsvpError.{RsvpError}
use Rattle.pcep_objects.specs.declared.object.Object.{Object}
use Rattle.pcep_objects.specs.declared.object.Object.TheVariants as objects
use Rattle.pcep_objects.specs.declared.request_objects.NoPathVector.{NoPathVector}
use Rattle.lsp_words.specs.declared.object.Capabilities.{Capabilities}
use Rattle.pcep_objects.specs.RequestObjects.{vector_after}
use Rattle.pcep_objects.specs.SessionObjects.{capabilities_after}
use Rattle.pcep_objects.specs.Kinds.{kind_at, class_number, type_number}
use Rattle.pcep_objects.specs.Objects.{body_of, Reads}
use Rattle.pcep_objects.specs.Spelling.{colours_written, name_written, details_written, bandwidth_kind, kept_kind, kind_of, p_written, body_written, written, fits, IsKept, IsNormal}
use Rattle.pcep_objects.proofs.Again.{object_again, srp_again, ero_again, rro_again, fours}
use Rattle.pcep_objects.proofs.SessionAgain.{open_again, close_again, notification_again, error_again}
use Rattle.pcep_objects.proofs.RequestAgain.{rp_again, no_path_again, end_points_again}
use Rattle.pcep_objects.proofs.TlvAgain.{length_tlv}
use Rattle.pcep_objects.proofs.PathAgain.{bandwidth_again, metric_again, lspa_again, lsp_again}

-- each kind is found again by its class and type
kind_again : (kind : Kind) → kind_at (class_number kind) (type_number kind) ≡ Some kind
kind_again kinds.Open = refl
kind_again kinds.Rp = refl
kind_again kinds.NoPath = refl
kind_again kinds.EndPoints = refl
kind_again kinds.RequestedBandwidth = refl
kind_again kinds.CurrentBandwidth = refl
kind_again kinds.Metric = refl
kind_again kinds.Ero = refl
kind_again kinds.Rro = refl
kind_again kinds.Lspa = refl
kind_again kinds.Iro = refl
kind_again kinds.Svec = refl
kind_again kinds.Notification = refl
kind_again kinds.Error = refl
kind_again kinds.LoadBalancing = refl
kind_again kinds.Close = refl
kind_again kinds.Lsp = refl
kind_again kinds.Srp = refl

type_small : (kind : Kind) → type_number kind < 16
type_small kinds.Open = omega arith
type_small kinds.Rp = omega arith
type_small kinds.NoPath = omega arith
type_small kinds.EndPoints = omega arith
type_small kinds.RequestedBandwidth = omega arith
type_small kinds.CurrentBandwidth = omega arith
type_small kinds.Metric = omega arith
type_small kinds.Ero = omega arith
type_small kinds.Rro = omega arith
type_small kinds.Lspa = omega arith
type_small kinds.Iro = omega arith
type_small kinds.Svec = omega arith
type_small kinds.Notification = omega arith
type_small kinds.Error = omega arith
type_small kinds.LoadBalancing = omega arith
type_small kinds.Close = omega arith
type_small kinds.Lsp = omega arith
type_small kinds.Srp = omega arith

-- ---- the length of a body is a multiple of 4

vector_fours : (vector : Option NoPathVector) → length (vector_after vector) % 4 ≡ 0
vector_fours None = refl
vector_fours (Some vector) = refl

capabilities_fours : (capabilities : Option Capabilities) → length (capabilities_after capabilities) % 4 ≡ 0
capabilities_fours None = refl
capabilities_fours (Some capabilities) = refl

name_fours : (name : Option (List ℕ)) → length (name_written name) % 4 ≡ 0
name_fours None = refl
name_fours (Some name) = omega (arith, length_tlv 17 name)

details_fours : (ids : Option Identifiers) (code : Option ℕ) (error : Option RsvpError) → length (details_written ids code error) % 4 ≡ 0
details_fours None None None = refl
details_fours None None (Some error) = refl
details_fours None (Some code) None = refl
details_fours None (Some code) (Some error) = refl
details_fours (Some ids) None None = refl
details_fours (Some ids) None (Some error) = refl
details_fours (Some ids) (Some code) None = refl
details_fours (Some ids) (Some code) (Some error) = refl

pub body_fours : (object : Object) → IsNormal object → length (body_written object) % 4 ≡ 0
unfolding colours_written
body_fours (objects.Open object) normal = let e = capabilities_fours object.capabilities in omega arith
body_fours (objects.Rp object) normal = refl
body_fours (objects.NoPath object) normal = let e = vector_fours object.vector in omega arith
body_fours (objects.EndPoints object) normal = refl
body_fours (objects.Bandwidth kind bandwidth) normal = refl
body_fours (objects.Metric object) normal = refl
body_fours (objects.Ero hops) normal = fours true hops normal
body_fours (objects.Rro hops) normal = fours false hops normal
body_fours (objects.Lspa object) normal = refl
body_fours (objects.Kept object) normal = normal.whole
body_fours (objects.Notification object) normal = refl
body_fours (objects.Error object) normal = refl
body_fours (objects.Close object) normal = refl
body_fours (objects.Lsp object) normal =
    let name = name_written object.name in
    let details = details_written object.identifiers object.error_code object.rsvp_error in
    omega (arith, name_fours object.name, details_fours object.identifiers object.error_code object.rsvp_error, length-append name details)
body_fours (objects.Srp object) normal = refl

-- ---- bodies

of_class : (class : KeptClass) (p : Bool) (body : List ℕ) → body_of (kept_kind class) p body ≡ Ok (objects.Kept (record { class = class; p = p; body = body }))
of_class Iro p body = refl
of_class Svec p body = refl
of_class LoadBalancing p body = refl

kept_again : (object : Kept) → IsKept object → body_of (kept_kind object.class) false object.body ≡ Ok (objects.Kept object)
kept_again object normal =
    ap (λ (p : Bool). body_of (kept_kind object.class) p object.body) (sym normal.p) ∙ of_class object.class object.p object.body

bandwidth_body_again : (kind : BandwidthType) (bandwidth : ℕ) → IsNormal (objects.Bandwidth kind bandwidth) → body_of (bandwidth_kind kind) false (body_written (objects.Bandwidth kind bandwidth)) ≡ Ok (objects.Bandwidth kind bandwidth)
bandwidth_body_again Requested bandwidth normal = bandwidth_again Requested bandwidth normal
bandwidth_body_again Current bandwidth normal = bandwidth_again Current bandwidth normal

body_again : (object : Object) → IsNormal object → length (body_written object) + 4 < 2 ^ 16 → body_of (kind_of object) (p_written object) (body_written object) ≡ Ok object
body_again (objects.Open object) normal fit = rw (open_again object) refl
body_again (objects.Rp object) normal fit = rw (rp_again object normal) refl
body_again (objects.NoPath object) normal fit = rw (no_path_again object) refl
body_again (objects.EndPoints object) normal fit = rw (← normal.0, end_points_again object normal.1) refl
body_again (objects.Bandwidth kind bandwidth) normal fit = bandwidth_body_again kind bandwidth normal
body_again (objects.Metric object) normal fit = rw (metric_again object normal) refl
body_again (objects.Ero hops) normal fit = ero_again hops normal
body_again (objects.Rro hops) normal fit = rro_again hops normal
body_again (objects.Lspa object) normal fit = lspa_again object normal
body_again (objects.Kept object) normal fit = kept_again object normal
body_again (objects.Notification object) normal fit = rw (notification_again object) refl
body_again (objects.Error object) normal fit = rw (error_again object) refl
body_again (objects.Close object) normal fit = rw (close_again object) refl
body_again (objects.Lsp object) normal fit =
    let name = name_written object.name in
    let details = details_written object.identifiers object.error_code object.rsvp_error in
    lsp_again object normal (omega (arith, fit, length-append name details))
body_again (objects.Srp object) normal fit = srp_again object normal

pub again : (object : Object) (rest : List ℕ) → IsNormal object → fits object ≡ true → Reads (written object ++ rest) (length (written object)) object
again object rest normal fit =
    let kind = kind_of object in
    let body = body_written object in
    let whole : length (written object) ≡ length body + 4 = omega arith in
    let len : length body + 4 < 2 ^ 16 = ltb-true _ _ (and_parts _ _ fit).1 in
    object_again (class_number kind) (type_number kind) (p_written object) body rest (type_small kind) len (body_fours object normal)
    ∙ rw (kind_again kind, body_again object normal len, whole) refl
