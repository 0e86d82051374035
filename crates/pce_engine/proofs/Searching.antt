-- Lines that make no search, and the line `take`.
use Rattle.std.proofs.Common.{ℕ, List, Option, Some, None, Result, Ok, Err, ap}
use Rattle.history_core.specs.Histories.{Content}
use Rattle.script_lines.proofs.LineAnswers.{fails_more}
use Rattle.script_lines.specs.Takes.{take_line, AnswersTaken}
use Rattle.script_lines.specs.LineAnswer.{LineAnswer, ◌>>=◌, AnswersLine}
use Rattle.script_lines.specs.declared.fault.CommandFault.{CommandFault}
use Rattle.script_lines.specs.declared.orders.Order.{Order}
use Rattle.script_lines.specs.declared.orders.Order.TheVariants.{Take}
use Rattle.pce_engine.specs.Standing.{with_database, obeyed, MaySearch, AnswersSearched}
use Rattle.pce_engine.specs.declared.standing.Standing.{Standing}

-- a line that searches for nothing has this answer, whatever a search would answer
pub no_search : {X : Type 0} (view : X → List ℕ) (result : Result X CommandFault) (order : Option Order) (line : Option (List ℕ) → Result (LineAnswer Standing) CommandFault) (old new : Standing)
    → MaySearch None old order → AnswersLine view result (line None) new → AnswersSearched view result order line old new
no_search view (Ok x) order line old new may h = (None, may, h)
no_search view (Err fault) order line old new may h = h

-- only the database changes
pub of_database : {X : Type 0} (view : X → List ℕ) (result : Result X CommandFault) (given : Result (LineAnswer Content) CommandFault) (old : Standing) (after : Content)
    → AnswersLine view result given after → AnswersLine view result (given >>= λ t. Ok (with_database old t)) (record old { database = after })
of_database view (Ok x) given old after h = ap (λ r. r >>= λ t. Ok (with_database old t)) h
of_database view (Err fault) given old after h = fails_more fault given (λ t. Ok (with_database old t)) h

pub of_taken : {X : Type 0} (view : X → List ℕ) (result : Result X CommandFault) (old : Standing) (after : Content)
    → AnswersTaken view result old.database after → AnswersSearched view result (Some Take) (λ answer. obeyed answer Take old) old (record old { database = after })
unfolding obeyed
of_taken view (Ok x) old after h = (h.0, h.1, ap (λ r. r >>= λ t. Ok (with_database old t)) h.2)
of_taken view (Err fault) old after h = fails_more fault (take_line None old.database) (λ t. Ok (with_database old t)) h
