-- The objects of a PCErr fit, and are written one list after the other.
use Rattle.std.proofs.Common.{◌≡◌, ℕ, true, false, List, [], ◌∷◌, ◌++◌, map, refl, ap, ◌∙◌, append_assoc}
use Rattle.std.specs.List.{flat_map}
use Rattle.std.proofs.lemmas.List.Concat.{flat_map-append}
use Rattle.std.proofs.lemmas.List.Folds.{list_all-append}
use Rattle.pcep_objects.specs.declared.object.Object.{Object}
use Rattle.pcep_objects.specs.declared.object.Object.TheVariants as objects
use Rattle.pcep_objects.specs.declared.session_objects.PcepError.{PcepError}
use Rattle.pcep_messages.specs.Spelling.{rp_object, srp_object, error_objects, object_spelled, object_fits, objects_spelled, objects_fit}
use Rattle.pcep_messages.specs.declared.message.Errors.{Errors}

-- the bytes of each object of a list
abbrev pub each_spelled : {A : Type 0} → (A → Object) → List A → List ℕ
each_spelled object xs = flat_map (λ x. object_spelled (object x)) xs

spelled_map : {A : Type 0} (object : A → Object) (xs : List A) → objects_spelled (map object xs) ≡ each_spelled object xs
spelled_map object [] = refl
spelled_map object (x ∷ xs) = ap (λ (bytes : List ℕ). object_spelled (object x) ++ bytes) (spelled_map object xs)

pub errors_spelled : (errors : Errors) → objects_spelled (error_objects errors)
    ≡ (each_spelled (rp_object false) errors.requests ++ each_spelled (srp_object false) errors.srps) ++ each_spelled (λ error. objects.Error error) errors.errors
errors_spelled errors =
    let rps = map (rp_object false) errors.requests in
    let srps = map (srp_object false) errors.srps in
    let each = map (λ (error : PcepError). objects.Error error) errors.errors in
    flat_map-append object_spelled (rps ++ srps) each ∙ ap (λ (bytes : List ℕ). bytes ++ objects_spelled each) (flat_map-append object_spelled rps srps)
    ∙ rw (spelled_map (rp_object false) errors.requests, spelled_map (srp_object false) errors.srps, spelled_map (λ (error : PcepError). objects.Error error) errors.errors) refl

pub errors_put : (errors : Errors) (old one two new : List ℕ) → one ≡ old ++ each_spelled (rp_object false) errors.requests → two ≡ one ++ each_spelled (srp_object false) errors.srps
    → new ≡ two ++ each_spelled (λ error. objects.Error error) errors.errors → new ≡ old ++ objects_spelled (error_objects errors)
errors_put errors old one two new a b c =
    c ∙ rw (b, a, errors_spelled errors) (simp append_assoc)

rps_fit : (ids : List ℕ) → objects_fit (map (rp_object false) ids) ≡ true
unfolding object_fits
rps_fit [] = refl
rps_fit (id ∷ ids) = rps_fit ids

srps_fit : (ids : List ℕ) → objects_fit (map (srp_object false) ids) ≡ true
unfolding object_fits
srps_fit [] = refl
srps_fit (id ∷ ids) = srps_fit ids

each_fits : (errors : List PcepError) → objects_fit (map (λ error. objects.Error error) errors) ≡ true
unfolding object_fits
each_fits [] = refl
each_fits (error ∷ errors) = each_fits errors

pub errors_fit : (errors : Errors) → objects_fit (error_objects errors) ≡ true
errors_fit errors =
    let rps = map (rp_object false) errors.requests in
    let srps = map (srp_object false) errors.srps in
    let each = map (λ (error : PcepError). objects.Error error) errors.errors in
    list_all-append object_fits (rps ++ srps) each ∙ rw (list_all-append object_fits rps srps, rps_fit errors.requests, srps_fit errors.srps, each_fits errors.errors) refl
