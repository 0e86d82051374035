-- What a PCRep says about a path that was asked for (RFC 5440 section 6.5), or the first fault.
use Rattle.std.specs.Prelude.{ℕ, List, Option, Some, None, Result, Ok, Err}
use Rattle.std.specs.Option.{option_map}
use Rattle.pcep_objects.specs.Kinds.{class_number}
use Rattle.pcep_objects.specs.Steps.{◌>>=◌}
use Rattle.pcep_objects.specs.declared.kind.Kind.TheVariants as kinds
use Rattle.lsp_words.specs.declared.object.Hop.{Hop}
use Rattle.pcep_objects.specs.declared.object.Metric.{Metric}
use Rattle.pcep_objects.specs.declared.request_objects.NoPath.{NoPath}
use Rattle.pcep_objects.specs.declared.request_objects.Rp.{Rp}
use Rattle.pcep_messages.specs.Objects.{found_in}
use Rattle.pcep_messages.specs.Parts.{Parts, read_parts}
use Rattle.pcep_messages.specs.declared.fault.About.{About}
use Rattle.pcep_messages.specs.declared.fault.About.TheVariants as about
use Rattle.pcep_messages.specs.declared.fault.MessageFault.{MessageFault}
use Rattle.pcep_messages.specs.declared.fault.MessageFault.TheVariants.{Missing}
use Rattle.pcep_messages.specs.declared.message.Answer.{Answer}
use Rattle.pcep_messages.specs.declared.message.Answer.TheVariants as answers
use Rattle.pcep_messages.specs.declared.message.Cost.{Cost}
use Rattle.pcep_messages.specs.declared.message.Message.{Message}
use Rattle.pcep_messages.specs.declared.message.Message.TheVariants as messages

-- a fault of a reply is about its request
abbrev pub about_first_rp : Option Rp → About
about_first_rp None = about.Nothing
about_first_rp (Some rp) = about.Request rp.id

abbrev pub about_reply : Parts → About
about_reply parts = about_first_rp parts.rp

-- the cost is the first METRIC
abbrev pub cost_of : Metric → Cost
cost_of metric = record { metric_type = metric.metric_type; value = metric.value }

-- NO-PATH says that there is no path, even if there is an ERO. Without either the ERO is missing.
abbrev pub answer_or_missing : About → Option NoPath → Option (List Hop) → Option Metric → Result Answer MessageFault
answer_or_missing about (Some no_path) ero metric = Ok (answers.NoPath no_path.vector)
answer_or_missing about None (Some hops) metric = Ok (answers.Found hops (option_map cost_of metric))
answer_or_missing about None None metric = Err (Missing (class_number kinds.Ero) about)

-- RP must be present too
abbrev pub reply_or_missing : Answer → Option Rp → Result Message MessageFault
reply_or_missing answer None = Err (Missing (class_number kinds.Rp) about.Nothing)
reply_or_missing answer (Some rp) = Ok (messages.Reply (record { request = rp.id; answer = answer }))

abbrev pub reply_of : Parts → Result Message MessageFault
reply_of parts = do
  answer ← answer_or_missing (about_reply parts) parts.no_path parts.ero parts.metric
  reply_or_missing answer parts.rp

unfoldable pub reply_body : List ℕ → Result Message MessageFault
reply_body body = read_parts about_reply reply_of (found_in body)
