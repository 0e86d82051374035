-- The objects of a written message give its parts, and these give the message.
use Rattle.std.proofs.Common.{◌≡◌, ℕ, ◌≤◌, min, Bool, false, List, [], ◌∷◌, ◌++◌, map, Option, Some, None, Result, Ok, refl, ap, ◌∙◌, arith}
use Rattle.std.specs.List.{filter_map}
use Rattle.std.proofs.lemmas.List.Elements.{filter_map-append}
use Rattle.std.proofs.lemmas.List.{append-nil}
use Rattle.pcep_word.specs.Priority.{in_force}
use Rattle.lsp_words.specs.declared.object.Hop.{Hop}
use Rattle.pcep_objects.specs.declared.object.Object.{Object}
use Rattle.pcep_objects.specs.declared.object.Object.TheVariants as objects
use Rattle.pcep_objects.specs.declared.session_objects.PcepError.{PcepError}
use Rattle.pcep_messages.specs.Normal.{MayBeAttributes}
use Rattle.pcep_messages.specs.Parts.{parts_of}
use Rattle.pcep_messages.specs.Errors.{named_request, named_srp, named_error, errors_of}
use Rattle.pcep_messages.specs.Replies.{reply_of}
use Rattle.pcep_messages.specs.Updates.{update_of, initiate_of}
use Rattle.pcep_messages.specs.Spelling.{rp_object, srp_object, error_objects, reply_objects, update_objects, create_objects, initiate_objects}
use Rattle.pcep_messages.specs.declared.fault.MessageFault.{MessageFault}
use Rattle.pcep_messages.specs.declared.message.Answer.{Answer}
use Rattle.pcep_messages.specs.declared.message.Answer.TheVariants as answers
use Rattle.pcep_messages.specs.declared.message.Attributes.{Attributes}
use Rattle.pcep_messages.specs.declared.message.Create.{Create}
use Rattle.pcep_messages.specs.declared.message.Errors.{Errors}
use Rattle.pcep_messages.specs.declared.message.Initiate.{Initiate}
use Rattle.pcep_messages.specs.declared.message.Initiate.TheVariants as initiates
use Rattle.pcep_messages.specs.declared.message.Message.{Message}
use Rattle.pcep_messages.specs.declared.message.Message.TheVariants as messages
use Rattle.pcep_messages.specs.declared.message.PathReply.{PathReply}
use Rattle.pcep_messages.specs.declared.message.Update.{Update}

-- ---- PCErr

kept : {X Y : Type 0} (h : X → Option Y) (f : Y → X) → ((y : Y) → h (f y) ≡ Some y) → (ys : List Y) → filter_map h (map f ys) ≡ ys
kept h f each [] = refl
kept h f each (y ∷ ys) = rw (each y) (ap (λ zs. y ∷ zs) (kept h f each ys))

left_out : {X Y Z : Type 0} (h : X → Option Y) (f : Z → X) → ((z : Z) → h (f z) ≡ None) → (zs : List Z) → filter_map h (map f zs) ≡ []
left_out h f each [] = refl
left_out h f each (z ∷ zs) = rw (each z) (left_out h f each zs)

in_three : {Y : Type 0} (h : Object → Option Y) (xs ys zs : List Object) → filter_map h ((xs ++ ys) ++ zs) ≡ (filter_map h xs ++ filter_map h ys) ++ filter_map h zs
in_three h xs ys zs = filter_map-append h (xs ++ ys) zs ∙ ap (λ w. w ++ filter_map h zs) (filter_map-append h xs ys)

-- the objects of a PCErr, by what each names
named : {Y : Type 0} (h : Object → Option Y) (errors : Errors) → filter_map h (error_objects errors)
    ≡ (filter_map h (map (rp_object false) errors.requests) ++ filter_map h (map (srp_object false) errors.srps)) ++ filter_map h (map (λ error. objects.Error error) errors.errors)
named h errors = in_three h (map (rp_object false) errors.requests) (map (srp_object false) errors.srps) (map (λ error. objects.Error error) errors.errors)

requests_again : (errors : Errors) → filter_map named_request (error_objects errors) ≡ errors.requests
requests_again errors =
    named named_request errors
    ∙ rw (kept named_request (rp_object false) (λ y. refl) errors.requests, left_out named_request (srp_object false) (λ z. refl) errors.srps, left_out named_request (λ (error : PcepError). objects.Error error) (λ z. refl) errors.errors)
    (append-nil (errors.requests ++ []) ∙ append-nil errors.requests)

srps_again : (errors : Errors) → filter_map named_srp (error_objects errors) ≡ errors.srps
srps_again errors =
    named named_srp errors
    ∙ rw (left_out named_srp (rp_object false) (λ z. refl) errors.requests, kept named_srp (srp_object false) (λ y. refl) errors.srps, left_out named_srp (λ (error : PcepError). objects.Error error) (λ z. refl) errors.errors)
    (append-nil errors.srps)

each_again : (errors : Errors) → filter_map named_error (error_objects errors) ≡ errors.errors
each_again errors =
    named named_error errors
    ∙ rw (left_out named_error (rp_object false) (λ z. refl) errors.requests, left_out named_error (srp_object false) (λ z. refl) errors.srps, kept named_error (λ (error : PcepError). objects.Error error) (λ y. refl) errors.errors) refl

abbrev listed : List ℕ → List ℕ → List PcepError → Errors
listed requests srps errors = record { requests = requests; srps = srps; errors = errors }

pub errors_again : (errors : Errors) → errors_of (error_objects errors) ≡ errors
errors_again errors =
    ap (λ (rs : List ℕ). listed rs (filter_map named_srp (error_objects errors)) (filter_map named_error (error_objects errors))) (requests_again errors)
    ∙ ap (λ (ss : List ℕ). listed errors.requests ss (filter_map named_error (error_objects errors))) (srps_again errors)
    ∙ ap (λ (es : List PcepError). listed errors.requests errors.srps es) (each_again errors)

-- ---- PCRep

abbrev replied : ℕ → Answer → PathReply
replied request answer = record { request = request; answer = answer }

answered_again : (request : ℕ) (answer : Answer) → reply_of (parts_of (reply_objects (replied request answer))) ≡ Ok (messages.Reply (replied request answer))
unfolding parts_of
answered_again request (answers.Found ero None) = refl
answered_again request (answers.Found ero (Some cost)) = refl
answered_again request (answers.NoPath vector) = refl

pub reply_again : (reply : PathReply) → reply_of (parts_of (reply_objects reply)) ≡ Ok (messages.Reply reply)
reply_again reply = answered_again reply.request reply.answer

-- ---- PCUpd

attributes_again : (attributes : Attributes) → attributes.priorities.hold ≤ attributes.priorities.setup
    → record { colours = attributes.colours; priorities = in_force attributes.priorities.setup attributes.priorities.hold; local_protection = attributes.local_protection } ≡ attributes
attributes_again attributes better =
    let setup = attributes.priorities.setup in
    let hold : min attributes.priorities.hold setup ≡ attributes.priorities.hold = omega arith in
    let with_hold : ℕ → Attributes = λ n. record { colours = attributes.colours; priorities = record { setup = setup; hold = n }; local_protection = attributes.local_protection } in
    ap with_hold hold

abbrev updated : ℕ → ℕ → Bool → Bool → List Hop → Option Attributes → Option ℕ → Update
updated srp plsp delegate admin ero attributes bandwidth =
    record { srp = srp; plsp = plsp; delegate = delegate; admin = admin; ero = ero; attributes = attributes; bandwidth = bandwidth }

abbrev update_ok : Update → Result Message MessageFault
update_ok update = Ok (messages.Update update)

updated_again : (srp plsp : ℕ) (delegate admin : Bool) (ero : List Hop) (attributes : Option Attributes) (bandwidth : Option ℕ) → MayBeAttributes attributes
    → update_of (parts_of (update_objects (updated srp plsp delegate admin ero attributes bandwidth))) ≡ update_ok (updated srp plsp delegate admin ero attributes bandwidth)
unfolding parts_of
updated_again srp plsp delegate admin ero None None normal = refl
updated_again srp plsp delegate admin ero None (Some bandwidth) normal = refl
updated_again srp plsp delegate admin ero (Some attributes) None normal =
    ap (λ (a : Attributes). update_ok (updated srp plsp delegate admin ero (Some a) None)) (attributes_again attributes normal.priorities.hold)
updated_again srp plsp delegate admin ero (Some attributes) (Some bandwidth) normal =
    ap (λ (a : Attributes). update_ok (updated srp plsp delegate admin ero (Some a) (Some bandwidth))) (attributes_again attributes normal.priorities.hold)

pub update_again : (update : Update) → MayBeAttributes update.attributes → update_of (parts_of (update_objects update)) ≡ Ok (messages.Update update)
update_again update normal = updated_again update.srp update.plsp update.delegate update.admin update.ero update.attributes update.bandwidth normal

-- ---- PCInitiate

abbrev created : ℕ → List ℕ → ℕ → ℕ → List Hop → Option Attributes → Option ℕ → Create
created srp name source destination ero attributes bandwidth =
    record { srp = srp; name = name; source = source; destination = destination; ero = ero; attributes = attributes; bandwidth = bandwidth }

abbrev create_ok : Create → Result Message MessageFault
create_ok create = Ok (messages.Initiate (initiates.Create create))

created_again : (srp : ℕ) (name : List ℕ) (source destination : ℕ) (ero : List Hop) (attributes : Option Attributes) (bandwidth : Option ℕ) → MayBeAttributes attributes
    → initiate_of (parts_of (create_objects (created srp name source destination ero attributes bandwidth))) ≡ create_ok (created srp name source destination ero attributes bandwidth)
unfolding parts_of
created_again srp name source destination ero None None normal = refl
created_again srp name source destination ero None (Some bandwidth) normal = refl
created_again srp name source destination ero (Some attributes) None normal =
    ap (λ (a : Attributes). create_ok (created srp name source destination ero (Some a) None)) (attributes_again attributes normal.priorities.hold)
created_again srp name source destination ero (Some attributes) (Some bandwidth) normal =
    ap (λ (a : Attributes). create_ok (created srp name source destination ero (Some a) (Some bandwidth))) (attributes_again attributes normal.priorities.hold)

abbrev pub MayBeNormal : Initiate → Type 0
MayBeNormal (initiates.Create create) = MayBeAttributes create.attributes
MayBeNormal (initiates.Remove srp plsp) = Unit {0}

pub initiate_again : (initiate : Initiate) → MayBeNormal initiate → initiate_of (parts_of (initiate_objects initiate)) ≡ Ok (messages.Initiate initiate)
unfolding parts_of
initiate_again (initiates.Create create) normal = created_again create.srp create.name create.source create.destination create.ero create.attributes create.bandwidth normal
initiate_again (initiates.Remove srp plsp) normal = refl
