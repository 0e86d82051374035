-- What the line `take` answers, for an answer that its search may give.
use Rattle.std.proofs.Common.{◌≡◌, ℕ, Bool, true, false, List, ◌++◌, codes, Option, Result, Ok, Err, sym, ap, subst, ◌∙◌, if◌then◌else◌}
use Rattle.step_core.specs.Steps.{step}
use Rattle.step_core.specs.declared.event.Event.{Event}
use Rattle.step_core.specs.declared.event.Event.TheVariants as event
use Rattle.step_core.specs.declared.event.Reply.{Reply}
use Rattle.history_core.specs.Histories.{Content, is_full, stepped}
use Rattle.history_core.specs.declared.fault.Fault.TheVariants.{HistoryFull}
use Rattle.script_lines.specs.Submits.{Answer, answer, answer_of, submitted}
use Rattle.step_core.specs.Searches.{MayAnswerTo}
use Rattle.script_lines.specs.Takes.{taken_text, take_line}
use Rattle.script_lines.specs.LineAnswer.{line_answer, ◌>>=◌}
use Rattle.script_lines.specs.declared.fault.CommandFault.{CommandFault}

reply_at : (full : Bool) (reply : Reply) (after : Content) (a : Answer) → answer_of (if full then Err HistoryFull else Ok (reply, after)) ≡ Ok a → a.reply ≡ reply
reply_at true reply after a h = cc
reply_at false reply after a h = let same : answer reply after ≡ a = cc in ap (λ (x : Answer). x.reply) (sym same)

-- the reply to an event is that of its step
reply_of : (d : Content) (event : Event) (a : Answer) → submitted d event ≡ Ok a → a.reply ≡ (step d.state event).reply
unfolding submitted
reply_of d event a h = reply_at (is_full d) (step d.state event).reply (stepped d event (step d.state event).reply) a h

pub taken : (d new : Content) (reply : Reply) (found : Option (List ℕ)) (text : List ℕ) → submitted d event.Take ≡ Ok (answer reply new) → MayAnswerTo reply found → text ≡ taken_text found reply ++ codes "\n"
    → (x : Option (List ℕ)) × MayAnswerTo (step d.state event.Take).reply x × (take_line x d ≡ Ok (line_answer text new))
unfolding take_line
taken d new reply found text e may is = (
  found,
  subst (λ (r : Reply). MayAnswerTo r found) (reply_of d event.Take (answer reply new) e) may,
  ap (λ (r : Result Answer CommandFault). r >>= λ given. Ok (line_answer (taken_text found given.reply ++ codes "\n") given.after)) e ∙ ap (λ (t : List ℕ). Ok (line_answer t new)) (sym is),
)
