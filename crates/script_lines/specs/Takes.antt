-- The line `take`: a ticket is taken, and its path is searched for.
use Rattle.std.specs.Prelude.{◌≡◌, ℕ, List, ◌++◌, codes, Option, None, Result, Ok, Err}
use Rattle.step_core.specs.Steps.{step}
use Rattle.step_core.specs.declared.event.Event.TheVariants as event
use Rattle.step_core.specs.declared.event.Reply.{Reply}
use Rattle.step_core.specs.declared.event.Reply.TheVariants as reply
use Rattle.step_core.specs.declared.job.Job.{Job}
use Rattle.history_core.specs.Histories.{Content}
use Rattle.step_core.specs.Searches.{MayAnswerTo}
use Rattle.history_core.specs.declared.step.Brief.TheVariants as brief
use Rattle.script_lines.specs.Texts.{brief_text, reply_text, answer_text}
use Rattle.script_lines.specs.Submits.{submitted}
use Rattle.script_lines.specs.LineAnswer.{LineAnswer, line_answer, ◌>>=◌, Fails}
use Rattle.script_lines.specs.declared.fault.CommandFault.{CommandFault}

-- the line of a job, if its search answers this
abbrev pub job_line : Job → Option (List ℕ) → List ℕ
job_line job answer = brief_text (brief.Job (job.ticket).id) ++ codes " " ++ answer_text answer

-- the text of the reply to Take
abbrev pub taken_text : Option (List ℕ) → Reply → List ℕ
taken_text answer (reply.Job job) = job_line job answer
taken_text answer reply = reply_text reply

-- `take`, if the search answers this
unfoldable pub take_line : Option (List ℕ) → Content → Result (LineAnswer Content) CommandFault
take_line answer d = do
  given ← submitted d event.Take
  Ok (line_answer (taken_text answer given.reply ++ codes "\n") given.after)

-- a call returned and left what the line gives for some answer of its search; a fault comes before the search
abbrev pub AnswersTaken : {X : Type 0} → (X → List ℕ) → Result X CommandFault → Content → Content → Type 0
AnswersTaken view (Ok x) old new = (answer : Option (List ℕ)) × MayAnswerTo (step old.state event.Take).reply answer × (take_line answer old ≡ Ok (line_answer (view x) new))
AnswersTaken view (Err fault) old new = Fails fault (take_line None old)
