-- The objects of a normal message are normal.
use Rattle.std.proofs.Common.{ℕ, List, [], ◌∷◌, ◌++◌, map, Option, Some, None, false, refl, arith}
use Rattle.std.specs.List.{AllByRecursion}
use Rattle.pcep_objects.specs.Spelling as spelling
use Rattle.pcep_objects.specs.declared.object.Object.{Object}
use Rattle.pcep_objects.specs.declared.object.Object.TheVariants as objects
use Rattle.pcep_objects.specs.declared.session_objects.PcepError.{PcepError}
use Rattle.pcep_messages.specs.Normal.{IsWord, IsAnswer, MayBeCost, MayBeAttributes, MayBeBandwidth, IsUpdate, IsCreate, IsInitiate, IsNormal}
use Rattle.pcep_messages.specs.Spelling.{rp_object, srp_object, attributes_objects, bandwidth_objects, cost_objects, answer_objects, update_objects, create_objects, initiate_objects, objects_written}
use Rattle.pcep_messages.specs.declared.message.Answer.{Answer}
use Rattle.pcep_messages.specs.declared.message.Answer.TheVariants as answers
use Rattle.pcep_messages.specs.declared.message.Attributes.{Attributes}
use Rattle.pcep_messages.specs.declared.message.Cost.{Cost}
use Rattle.pcep_messages.specs.declared.message.Create.{Create}
use Rattle.pcep_messages.specs.declared.message.Initiate.{Initiate}
use Rattle.pcep_messages.specs.declared.message.Initiate.TheVariants as initiates
use Rattle.pcep_messages.specs.declared.message.Message.{Message}
use Rattle.pcep_messages.specs.declared.message.Message.TheVariants as messages
use Rattle.pcep_messages.specs.declared.message.Update.{Update}

abbrev AreNormal : List Object → Type 0
AreNormal objects = AllByRecursion spelling.IsNormal objects

both : (xs ys : List Object) → AreNormal xs → AreNormal ys → AreNormal (xs ++ ys)
both [] ys first second = second
both (x ∷ xs) ys first second = (first.0, both xs ys first.1 second)

requests : (ids : List ℕ) → AllByRecursion IsWord ids → AreNormal (map (rp_object false) ids)
requests [] words = tt
requests (id ∷ ids) words = (record { priority = omega arith; id = words.0 }, requests ids words.1)

srps : (ids : List ℕ) → AllByRecursion IsWord ids → AreNormal (map (srp_object false) ids)
srps [] words = tt
srps (id ∷ ids) words = (words.0, srps ids words.1)

errors : (es : List PcepError) → AreNormal (map (λ error. objects.Error error) es)
errors [] = tt
errors (e ∷ es) = (tt, errors es)

attributes : (a : Option Attributes) → MayBeAttributes a → AreNormal (attributes_objects a)
attributes None normal = tt
attributes (Some a) normal =
    (record { exclude_any = normal.exclude_any; include_any = normal.include_any; include_all = normal.include_all; setup = normal.priorities.setup; hold = omega (arith, normal.priorities.setup, normal.priorities.hold) }, tt)

bandwidth : (b : Option ℕ) → MayBeBandwidth b → AreNormal (bandwidth_objects b)
bandwidth None normal = tt
bandwidth (Some b) normal = (normal, tt)

cost : (c : Option Cost) → MayBeCost c → AreNormal (cost_objects c)
cost None normal = tt
cost (Some c) normal = (normal, tt)

answer : (a : Answer) → IsAnswer a → AreNormal (answer_objects a)
answer (answers.Found ero c) normal = (normal.0, cost c normal.1)
answer (answers.NoPath vector) normal = (tt, tt)

update : (u : Update) → IsUpdate u → AreNormal (update_objects u)
update u normal =
    (normal.srp, (record { plsp = normal.plsp; identifiers = tt; error_code = tt; rsvp_error = tt }, (normal.ero, both (attributes_objects u.attributes) (bandwidth_objects u.bandwidth) (attributes u.attributes normal.attributes) (bandwidth u.bandwidth normal.bandwidth))))

create : (c : Create) → IsCreate c → AreNormal (create_objects c)
create c normal = (
  normal.srp,
  (
    record { plsp = omega arith; identifiers = tt; error_code = tt; rsvp_error = tt },
    (
      (refl, record { source = normal.source; destination = normal.destination }),
      (normal.ero, both (attributes_objects c.attributes) (bandwidth_objects c.bandwidth) (attributes c.attributes normal.attributes) (bandwidth c.bandwidth normal.bandwidth)),
    ),
  ),
)

initiate : (i : Initiate) → IsInitiate i → AreNormal (initiate_objects i)
initiate (initiates.Create c) normal = create c normal
initiate (initiates.Remove srp plsp) normal = (normal.0, (record { plsp = normal.1; identifiers = tt; error_code = tt; rsvp_error = tt }, tt))

pub normal_objects : (message : Message) → IsNormal message → AllByRecursion spelling.IsNormal (objects_written message)
normal_objects (messages.Opening opening) normal = (tt, tt)
normal_objects messages.Keepalive normal = tt
normal_objects (messages.Request rs) normal = tt
normal_objects (messages.Reply reply) normal = (record { priority = omega arith; id = normal.request }, answer reply.answer normal.answer)
normal_objects messages.Notify normal = tt
normal_objects (messages.Error es) normal =
    let rps = map (rp_object false) es.requests in
    let named = map (srp_object false) es.srps in
    both (rps ++ named) (map (λ error. objects.Error error) es.errors) (both rps named (requests es.requests normal.requests) (srps es.srps normal.srps)) (errors es.errors)
normal_objects (messages.Close reason) normal = (tt, tt)
normal_objects (messages.Report reports) normal = tt
normal_objects (messages.Update u) normal = update u normal
normal_objects (messages.Initiate i) normal = initiate i normal
normal_objects (messages.Unknown kind) normal = tt
