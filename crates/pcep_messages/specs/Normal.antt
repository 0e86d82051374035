-- Normal messages: each field has a value that the wire can carry, so that the message is written as it reads.
use Rattle.std.specs.Prelude.{ℕ, ◌^◌, ◌<◌, ◌≤◌, true, Option, Some, None}
use Rattle.std.specs.List.{AllByRecursion}
use Rattle.pcep_word.specs.Priority.{InForce}
use Rattle.pcep_word.specs.Word.{IsBandwidth, IsBound}
use Rattle.pcep_objects.specs.Spelling.{IsHop}
use Rattle.pcep_messages.specs.declared.message.Answer.{Answer}
use Rattle.pcep_messages.specs.declared.message.Answer.TheVariants as answers
use Rattle.pcep_messages.specs.declared.message.Attributes.{Attributes}
use Rattle.pcep_messages.specs.declared.message.Cost.{Cost}
use Rattle.pcep_messages.specs.declared.message.Create.{Create}
use Rattle.pcep_messages.specs.declared.message.Errors.{Errors}
use Rattle.pcep_messages.specs.declared.message.Initiate.{Initiate}
use Rattle.pcep_messages.specs.declared.message.Initiate.TheVariants as initiates
use Rattle.pcep_messages.specs.declared.message.Message.{Message}
use Rattle.pcep_messages.specs.declared.message.Message.TheVariants as messages
use Rattle.pcep_messages.specs.declared.message.PathReply.{PathReply}
use Rattle.pcep_messages.specs.declared.message.Update.{Update}

abbrev pub IsWord : ℕ → Type 0
IsWord number = number < 2 ^ 32

pub record AreErrors (errors : Errors) : Type 0 where
  pub requests : AllByRecursion IsWord errors.requests
  pub srps : AllByRecursion IsWord errors.srps

abbrev pub MayBeCost : Option Cost → Type 0
MayBeCost None = Unit {0}
MayBeCost (Some cost) = IsBound cost.value

abbrev pub IsAnswer : Answer → Type 0
IsAnswer (answers.Found ero cost) = AllByRecursion (IsHop true) ero × MayBeCost cost
IsAnswer (answers.NoPath vector) = Unit {0}

pub record IsReply (reply : PathReply) : Type 0 where
  pub request : IsWord reply.request
  pub answer : IsAnswer reply.answer

-- both priorities are in their ranges
pub record ArePriorities (priorities : InForce) : Type 0 where
  pub setup : priorities.setup ≤ 7
  pub hold : priorities.hold ≤ priorities.setup

pub record AreAttributes (attributes : Attributes) : Type 0 where
  pub exclude_any : IsWord attributes.colours.exclude_any
  pub include_any : IsWord attributes.colours.include_any
  pub include_all : IsWord attributes.colours.include_all
  pub priorities : ArePriorities attributes.priorities

abbrev pub MayBeAttributes : Option Attributes → Type 0
MayBeAttributes None = Unit {0}
MayBeAttributes (Some attributes) = AreAttributes attributes

abbrev pub MayBeBandwidth : Option ℕ → Type 0
MayBeBandwidth None = Unit {0}
MayBeBandwidth (Some bandwidth) = IsBandwidth bandwidth

pub record IsUpdate (update : Update) : Type 0 where
  pub srp : IsWord update.srp
  pub plsp : update.plsp < 2 ^ 20
  pub ero : AllByRecursion (IsHop true) update.ero
  pub attributes : MayBeAttributes update.attributes
  pub bandwidth : MayBeBandwidth update.bandwidth

pub record IsCreate (create : Create) : Type 0 where
  pub srp : IsWord create.srp
  pub source : IsWord create.source
  pub destination : IsWord create.destination
  pub ero : AllByRecursion (IsHop true) create.ero
  pub attributes : MayBeAttributes create.attributes
  pub bandwidth : MayBeBandwidth create.bandwidth

abbrev pub IsInitiate : Initiate → Type 0
IsInitiate (initiates.Create create) = IsCreate create
IsInitiate (initiates.Remove srp plsp) = IsWord srp × (plsp < 2 ^ 20)

abbrev pub IsNormal : Message → Type 0
IsNormal (messages.Reply reply) = IsReply reply
IsNormal (messages.Error errors) = AreErrors errors
IsNormal (messages.Update update) = IsUpdate update
IsNormal (messages.Initiate initiate) = IsInitiate initiate
IsNormal message = Unit {0}
