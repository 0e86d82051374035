-- What an operator's line does in a store.
use Rattle.std.specs.Prelude.{◌≡◌, ℕ, List, [], ◌∷◌, Option, Some, None, Result, Ok, Err}
use Rattle.step_core.specs.declared.event.Event.{Event}
use Rattle.step_core.specs.declared.event.Reply.{Reply}
use Rattle.history_core.specs.declared.fault.Fault.TheVariants.{OutOfMemory, HistoryFull}
use Rattle.engine_core.specs.Calls.{called}
use Rattle.engine_core.specs.Deeds.{Deed}
use Rattle.script_lines.specs.Commands.{Command}
use Rattle.script_lines.specs.Commands.Command.{Roll, Submit}
use Rattle.script_lines.specs.Rolls.{rolled_text}
use Rattle.script_lines.specs.Texts.{reply_text}
use Rattle.script_lines.specs.declared.fault.CommandFault.{CommandFault}
use Rattle.script_lines.specs.declared.fault.CommandFault.TheVariants.{BadLine, Store}

-- the event was submitted, once, and this is the text of its reply
abbrev pub Replied : {S : Type 0} → (S → List Deed → S → Type 0) → Event → List ℕ → S → S → Type 0
Replied moves event text old new = (reply : Reply) × moves old (called event reply ∷ []) new × (text ≡ reply_text reply)

-- the history was rolled, and this says how many steps were taken before its base
abbrev pub Rolled : {S : Type 0} → (S → ℕ → S → Type 0) → List ℕ → S → S → Type 0
Rolled rolls text old new = (steps : ℕ) × rolls old steps new × (text ≡ rolled_text steps)

-- nothing was submitted
abbrev pub NotTaken : {S : Type 0} → (S → List Deed → S → Type 0) → (S → Type 0) → CommandFault → S → S → Type 0
NotTaken moves is_full BadLine old new = ⊥
NotTaken moves is_full (Store OutOfMemory) old new = moves old [] new
NotTaken moves is_full (Store HistoryFull) old new = moves old [] new × is_full new

-- the event was submitted and answered, or it wasn't, for this reason
abbrev pub AnswersEvent : {X S : Type 0} → (X → List ℕ) → (S → List Deed → S → Type 0) → (S → Type 0) → Event → Result X CommandFault → S → S → Type 0
AnswersEvent view moves is_full event (Ok text) old new = Replied moves event (view text) old new
AnswersEvent view moves is_full event (Err fault) old new = NotTaken moves is_full fault old new

-- the history was rolled, or memory ran out
abbrev pub AnswersRoll : {X S : Type 0} → (X → List ℕ) → (S → List Deed → S → Type 0) → (S → ℕ → S → Type 0) → Result X CommandFault → S → S → Type 0
AnswersRoll view moves rolls (Ok text) old new = Rolled rolls (view text) old new
AnswersRoll view moves rolls (Err fault) old new = moves old [] new × (fault ≡ Store OutOfMemory)

-- what a line asks for is done once and answered; a bad line leaves the store as it was
abbrev pub Answers : {X S : Type 0} → (X → List ℕ) → (S → List Deed → S → Type 0) → (S → ℕ → S → Type 0) → (S → Type 0) → Option Command → Result X CommandFault → S → S → Type 0
Answers view moves rolls is_full None result old new = (result ≡ Err BadLine) × (new ≡ old)
Answers view moves rolls is_full (Some Roll) result old new = AnswersRoll view moves rolls result old new
Answers view moves rolls is_full (Some (Submit event)) result old new = AnswersEvent view moves is_full event result old new
