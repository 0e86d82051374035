-- What the search for a job may answer.
use Rattle.std.specs.Prelude.{ℕ, List, Option, Some, None}
use Rattle.path_finder.specs.Answers.{IsAnswer, IsRefused}
use Rattle.step_core.specs.declared.event.Reply.{Reply}
use Rattle.step_core.specs.declared.event.Reply.TheVariants as reply
use Rattle.step_core.specs.declared.job.Job.{Job}

-- a search may answer this to the job: the links of an admissible path of least cost that keeps the other bounds, or
-- none if there is no such path or a least one breaks another bound
abbrev pub MayAnswer : Job → Option (List ℕ) → Type 0
MayAnswer job None = IsRefused job.snapshot (job.ticket).constraints job.own
MayAnswer job (Some links) = (cost : ℕ) × IsAnswer job.snapshot (job.ticket).constraints job.own (record { links = links; cost = cost })

-- a search may answer this to the job of the reply, if it is one
abbrev pub MayAnswerTo : Reply → Option (List ℕ) → Type 0
MayAnswerTo (reply.Job job) answer = MayAnswer job answer
MayAnswerTo reply answer = Unit {0}
