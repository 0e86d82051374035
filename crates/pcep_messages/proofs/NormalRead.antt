-- A message that bytes read as is normal.
use Rattle.std.proofs.Common.{◌≡◌, ℕ, inl, inr, max, Bool, true, false, not, ◌&&◌, cond, eqb, List, [], ◌∷◌, drop, get_or, fold, map, Option, Some, None, is_none, Result, Ok, Err, sym, subst, arith}
use Rattle.std.proofs.lemmas.Bool.{cases_lt}
use Rattle.std.specs.List.{AllByRecursion, filter_map, cons_option}
use Rattle.std.specs.Option.{option_or, option_map, unwrap_or}
use Rattle.pcep_word.specs.Word.{IsBandwidth, IsBound}
use Rattle.pcep_objects.specs.Steps.{◌>>=◌}
use Rattle.pcep_objects.specs.Kinds.{class_number}
use Rattle.pcep_objects.specs.declared.kind.Kind.TheVariants.{Ero}
use Rattle.pcep_objects.specs.RequestObjects.{IsRp, IsEndPoints}
use Rattle.pcep_objects.specs.Spelling.{IsHop, IsLspa, IsLsp}
use Rattle.pcep_objects.specs.declared.fault.ObjectFault.{ObjectFault}
use Rattle.lsp_words.specs.declared.object.Hop.{Hop}
use Rattle.pcep_objects.specs.declared.object.LspObject.{LspObject}
use Rattle.pcep_objects.specs.declared.object.Lspa.{Lspa}
use Rattle.pcep_objects.specs.declared.object.Metric.{Metric}
use Rattle.pcep_objects.specs.declared.object.Object.{Object}
use Rattle.pcep_objects.specs.declared.object.Srp.{Srp}
use Rattle.pcep_objects.specs.declared.request_objects.EndPoints.{EndPoints}
use Rattle.pcep_objects.specs.declared.request_objects.NoPath.{NoPath}
use Rattle.pcep_objects.specs.declared.request_objects.Rp.{Rp}
use Rattle.pcep_objects.specs.declared.session_objects.Open.{Open}
use Rattle.pcep_messages.specs.Counting.{first_of, rp_of, end_points_of, metric_of, ero_of, lspa_of, lsp_of, srp_of, requested_of, greater_of}
use Rattle.pcep_messages.specs.Errors.{named_request, named_srp, errors_of, errors_body}
use Rattle.pcep_messages.specs.Messages.{has_header, message_of, message_in, report_message}
use Rattle.pcep_messages.specs.Normal.{IsWord, IsNormal, IsAnswer, MayBeCost, MayBeAttributes, MayBeBandwidth}
use Rattle.pcep_messages.specs.Notifications.{notify_or_fault, notification_body}
use Rattle.pcep_messages.specs.Objects.{found_in}
use Rattle.pcep_messages.specs.Parts.{Parts, parts_of, unless_bad}
use Rattle.pcep_messages.specs.Replies.{about_reply, cost_of, answer_or_missing, reply_or_missing, reply_body}
use Rattle.pcep_messages.specs.Reports.{report_body}
use Rattle.pcep_messages.specs.Requests.{requests_in_body, request_body}
use Rattle.pcep_messages.specs.Sessions.{opening_or_missing, opening_body, keepalive_body, reason_of, close_body}
use Rattle.pcep_messages.specs.Updates.{about_parts, attributes_of, update_with, update_or_missing, update_body, create_with, create_or_missing, initiate_or_missing, initiate_body}
use Rattle.pcep_messages.specs.declared.fault.About.{About}
use Rattle.pcep_messages.specs.declared.fault.MessageFault.{MessageFault}
use Rattle.pcep_messages.specs.declared.fault.MessageFault.TheVariants.{Missing}
use Rattle.pcep_messages.specs.declared.message.Answer.{Answer}
use Rattle.pcep_messages.specs.declared.message.Answer.TheVariants as answers
use Rattle.pcep_messages.specs.declared.message.Initiate.TheVariants as initiates
use Rattle.pcep_messages.specs.declared.message.Message.{Message}
use Rattle.pcep_messages.specs.declared.message.Message.TheVariants as messages
use Rattle.pcep_messages.proofs.SoundObjects.{AreBytes, dropped, MayBe, IsSound, AreSound, found_sound}

-- ---- what counts of the objects

or_may : {A : Type 0} (Good : A → Type 0) (x y : Option A) → MayBe Good x → MayBe Good y → MayBe Good (option_or x y)
or_may Good None y first second = second
or_may Good (Some x) y first second = first

first_may : {A : Type 0} (Good : A → Type 0) (part : Object → Option A) → ((o : Object) → IsSound o → MayBe Good (part o)) → (os : List Object) → AreSound os → MayBe Good (first_of part os)
first_may Good part each [] sound = tt
first_may Good part each (o ∷ os) sound = or_may Good (part o) (first_of part os) (each o sound.0) (first_may Good part each os sound.1)

greater_known : (b c : ℕ) → IsBandwidth b → IsBandwidth c → IsBandwidth (max b c)
greater_known b c known other =
    elim (cases_lt b c) [
      | inl less ↦ let is : max b c ≡ c = omega arith in subst IsBandwidth (sym is) other
      | inr more ↦ let is : max b c ≡ b = omega arith in subst IsBandwidth (sym is) known
    ]

greater_may : (b c : Option ℕ) → MayBe IsBandwidth b → MayBe IsBandwidth c → MayBe IsBandwidth (greater_of b c)
greater_may None c known other = other
greater_may (Some b) None known other = known
greater_may (Some b) (Some c) known other = greater_known b c known other

greatest_may : (b : Option ℕ) (os : List Object) → MayBe IsBandwidth b → AreSound os → MayBe IsBandwidth (fold greater_of b (map requested_of os))
greatest_may b [] known sound = known
greatest_may b (o ∷ os) known sound = greatest_may (greater_of b (requested_of o)) os (greater_may b (requested_of o) known sound.0.bandwidth) sound.1

record AreGood (parts : Parts) : Type 0 where
  rp : MayBe IsRp parts.rp
  end_points : MayBe IsEndPoints parts.end_points
  bandwidth : MayBe IsBandwidth parts.bandwidth
  metric : MayBe (λ (metric : Metric). IsBound metric.value) parts.metric
  ero : MayBe (AllByRecursion (IsHop true)) parts.ero
  lspa : MayBe IsLspa parts.lspa
  lsp : MayBe IsLsp parts.lsp
  srp : MayBe (λ (srp : Srp). IsWord srp.id) parts.srp

parts_good : (os : List Object) → AreSound os → AreGood (parts_of os)
unfolding parts_of
parts_good os sound = record {
  rp = first_may IsRp rp_of (λ o s. s.rp) os sound;
  end_points = first_may IsEndPoints end_points_of (λ o s. s.end_points) os sound;
  bandwidth = greatest_may None os tt sound;
  metric = first_may (λ (metric : Metric). IsBound metric.value) metric_of (λ o s. s.metric) os sound;
  ero = first_may (AllByRecursion (IsHop true)) ero_of (λ o s. s.ero) os sound;
  lspa = first_may IsLspa lspa_of (λ o s. s.lspa) os sound;
  lsp = first_may IsLsp lsp_of (λ o s. s.lsp) os sound;
  srp = first_may (λ (srp : Srp). IsWord srp.id) srp_of (λ o s. s.srp) os sound;
}

-- ---- steps that gave a message

abbrev Read : Type 0
Read = Result Message MessageFault

abbrev AreNormal : Read → Type 0
AreNormal read = (message : Message) → read ≡ Ok message → IsNormal message

gives : (x : Message) → IsNormal x → AreNormal (Ok x)
gives x normal message e = let is : x ≡ message = cc in subst IsNormal is normal

fails : (fault : MessageFault) → AreNormal (Err fault)
fails fault message e = cc

either : (t : Bool) (r s : Read) → AreNormal r → AreNormal s → AreNormal (cond t r s)
either true r s first second = first
either false r s first second = second

mapped : {A : Type 0} (r : Result A MessageFault) (f : A → Message) → ((a : A) → IsNormal (f a)) → AreNormal (r >>= λ a. Ok (f a))
mapped (Ok a) f each = gives (f a) (each a)
mapped (Err fault) f each = fails fault

unless : (own : Option ObjectFault) (about : About) (r : Read) → AreNormal r → AreNormal (unless_bad own about r)
unless None about r normal = normal
unless (Some fault) about r normal = fails _

-- ---- each kind

opening : (object : Option Open) → AreNormal (opening_or_missing object)
opening None = fails _
opening (Some object) = gives (messages.Opening object) tt

notified : (own : Option ObjectFault) → AreNormal (notify_or_fault own)
notified None = gives messages.Notify tt
notified (Some fault) = fails _

one_word : (x : Option ℕ) (xs : List ℕ) → MayBe IsWord x → AllByRecursion IsWord xs → AllByRecursion IsWord (cons_option x xs)
one_word None xs word others = others
one_word (Some x) xs word others = (word, others)

all_words : (name : Object → Option ℕ) → ((o : Object) → IsSound o → MayBe IsWord (name o)) → (os : List Object) → AreSound os → AllByRecursion IsWord (filter_map name os)
all_words name each [] sound = tt
all_words name each (o ∷ os) sound = one_word (name o) (filter_map name os) (each o sound.0) (all_words name each os sound.1)

errors : (os : List Object) → AreSound os → AreNormal (Ok (messages.Error (errors_of os)))
errors os sound = gives (messages.Error (errors_of os)) (record {
  requests = all_words named_request (λ o s. s.request) os sound;
  srps = all_words named_srp (λ o s. s.srp_id) os sound;
})

cost : (metric : Option Metric) → MayBe (λ (metric : Metric). IsBound metric.value) metric → MayBeCost (option_map cost_of metric)
cost None known = tt
cost (Some metric) known = known

replied : (answer : Answer) (rp : Option Rp) → IsAnswer answer → MayBe IsRp rp → AreNormal (reply_or_missing answer rp)
replied answer None normal good = fails _
replied answer (Some rp) normal good = gives (messages.Reply (record { request = rp.id; answer = answer })) (record { request = good.id; answer = normal })

answered : (about : About) (no_path : Option NoPath) (ero : Option (List Hop)) (metric : Option Metric) (rp : Option Rp)
    → MayBe (AllByRecursion (IsHop true)) ero → MayBe (λ (metric : Metric). IsBound metric.value) metric → MayBe IsRp rp
    → AreNormal (answer_or_missing about no_path ero metric >>= λ answer. reply_or_missing answer rp)
answered about (Some no_path) ero metric rp hops known good = replied (answers.NoPath no_path.vector) rp tt good
answered about None (Some ero) metric rp hops known good = replied (answers.Found ero (option_map cost_of metric)) rp (hops, cost metric known) good
answered about None None metric rp hops known good = fails _

attributes : (lspa : Option Lspa) → MayBe IsLspa lspa → MayBeAttributes (option_map attributes_of lspa)
attributes None good = tt
attributes (Some lspa) good = record {
  exclude_any = good.exclude_any;
  include_any = good.include_any;
  include_all = good.include_all;
  priorities = record { setup = good.setup; hold = omega arith };
}

bandwidth : (b : Option ℕ) → MayBe IsBandwidth b → MayBeBandwidth b
bandwidth None known = tt
bandwidth (Some b) known = known

hops : (ero : Option (List Hop)) → MayBe (AllByRecursion (IsHop true)) ero → AllByRecursion (IsHop true) (unwrap_or ero [])
hops None good = tt
hops (Some ero) good = good

updated : (parts : Parts) (srp : Option Srp) (lsp : Option LspObject) → AreGood parts → MayBe (λ (srp : Srp). IsWord srp.id) srp → MayBe IsLsp lsp → AreNormal (update_or_missing parts srp lsp)
updated parts None lsp good word number = fails _
updated parts (Some srp) None good word number = fails _
updated parts (Some srp) (Some lsp) good word number =
    either (is_none parts.ero && not srp.remove) (Err (Missing (class_number Ero) (about_parts parts))) (Ok (messages.Update (update_with srp lsp parts))) (fails _)
    (gives (messages.Update (update_with srp lsp parts)) (record {
      srp = word;
      plsp = number.plsp;
      ero = hops parts.ero good.ero;
      attributes = attributes parts.lspa good.lspa;
      bandwidth = bandwidth parts.bandwidth good.bandwidth;
    }))

created : (srp : Srp) (lsp : LspObject) (parts : Parts) (ero : Option (List Hop)) (end_points : Option EndPoints) → AreGood parts → IsWord srp.id
    → MayBe (AllByRecursion (IsHop true)) ero → MayBe IsEndPoints end_points → AreNormal (create_or_missing srp lsp parts ero end_points)
created srp lsp parts None end_points good word route ends = fails _
created srp lsp parts (Some ero) None good word route ends = fails _
created srp lsp parts (Some ero) (Some end_points) good word route ends =
    gives (messages.Initiate (initiates.Create (create_with srp lsp end_points ero parts))) (record {
      srp = word;
      source = ends.source;
      destination = ends.destination;
      ero = route;
      attributes = attributes parts.lspa good.lspa;
      bandwidth = bandwidth parts.bandwidth good.bandwidth;
    })

initiated : (parts : Parts) (srp : Option Srp) (lsp : Option LspObject) → AreGood parts → MayBe (λ (srp : Srp). IsWord srp.id) srp → MayBe IsLsp lsp → AreNormal (initiate_or_missing parts srp lsp)
initiated parts None lsp good word number = fails _
initiated parts (Some srp) None good word number = fails _
initiated parts (Some srp) (Some lsp) good word number =
    either srp.remove (Ok (messages.Initiate (initiates.Remove srp.id lsp.plsp))) (create_or_missing srp lsp parts parts.ero parts.end_points)
    (gives (messages.Initiate (initiates.Remove srp.id lsp.plsp)) (word, number.plsp)) (created srp lsp parts parts.ero parts.end_points good word good.ero good.end_points)

-- ---- bodies

opening_normal : (body : List ℕ) → AreNormal (opening_body body)
unfolding opening_body
opening_normal body = unless (found_in body).fault _ _ (opening (parts_of (found_in body).objects).opening)

keepalive_normal : (body : List ℕ) → AreNormal (keepalive_body body)
unfolding keepalive_body
keepalive_normal body = unless (found_in body).fault _ _ (gives messages.Keepalive tt)

request_normal : (body : List ℕ) → AreNormal (request_body body)
unfolding request_body
request_normal body = mapped (requests_in_body body) (λ requests. messages.Request requests) (λ requests. tt)

reply_normal : (body : List ℕ) → AreBytes body → AreNormal (reply_body body)
unfolding reply_body
reply_normal body good =
    let parts = parts_of (found_in body).objects in
    let g = parts_good (found_in body).objects (found_sound body good) in
    unless (found_in body).fault _ _ (answered (about_reply parts) parts.no_path parts.ero parts.metric parts.rp g.ero g.metric g.rp)

notification_normal : (body : List ℕ) → AreNormal (notification_body body)
unfolding notification_body
notification_normal body = notified (found_in body).fault

errors_normal : (body : List ℕ) → AreBytes body → AreNormal (errors_body body)
unfolding errors_body
errors_normal body good = unless (found_in body).fault _ _ (errors (found_in body).objects (found_sound body good))

close_normal : (body : List ℕ) → AreNormal (close_body body)
unfolding close_body
close_normal body = unless (found_in body).fault _ _ (gives (messages.Close (reason_of (parts_of (found_in body).objects).close)) tt)

report_normal : (body : List ℕ) → AreNormal (report_message body)
report_normal body = mapped (report_body body) (λ reports. messages.Report reports) (λ reports. tt)

update_normal : (body : List ℕ) → AreBytes body → AreNormal (update_body body)
unfolding update_body
update_normal body good =
    let parts = parts_of (found_in body).objects in
    let g = parts_good (found_in body).objects (found_sound body good) in
    unless (found_in body).fault _ _ (updated parts parts.srp parts.lsp g g.srp g.lsp)

initiate_normal : (body : List ℕ) → AreBytes body → AreNormal (initiate_body body)
unfolding initiate_body
initiate_normal body good =
    let parts = parts_of (found_in body).objects in
    let g = parts_good (found_in body).objects (found_sound body good) in
    unless (found_in body).fault _ _ (initiated parts parts.srp parts.lsp g g.srp g.lsp)

body_normal : (kind : ℕ) (body : List ℕ) → AreBytes body → AreNormal (message_of kind body)
body_normal kind body good =
    either (eqb kind 1) _ _ (opening_normal body) (
    either (eqb kind 2) _ _ (keepalive_normal body) (
    either (eqb kind 3) _ _ (request_normal body) (
    either (eqb kind 4) _ _ (reply_normal body good) (
    either (eqb kind 5) _ _ (notification_normal body) (
    either (eqb kind 6) _ _ (errors_normal body good) (
    either (eqb kind 7) _ _ (close_normal body) (
    either (eqb kind 10) _ _ (report_normal body) (
    either (eqb kind 11) _ _ (update_normal body good) (
    either (eqb kind 12) _ _ (initiate_normal body good) (gives (messages.Unknown kind) tt)
    )
    )
    )
    )
    )
    )
    )
    )
    )

pub read_normal : (bytes : List ℕ) (message : Message) → AreBytes bytes → message_in bytes ≡ Ok message → IsNormal message
unfolding message_in
read_normal bytes message good e = either (has_header bytes) (message_of (get_or bytes 1 0) (drop 4 bytes)) _ (body_normal (get_or bytes 1 0) (drop 4 bytes) (dropped 4 bytes good)) (fails _) message e
