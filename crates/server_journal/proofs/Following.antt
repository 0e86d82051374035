-- What is seen of the history, or dropped by a roll, is what comes next of all steps.
use Rattle.std.proofs.Common.{◌≡◌, ℕ, ◌+◌, ◌-◌, ◌≤◌, Bool, List, [], ◌∷◌, ◌++◌, length, take, drop, Option, Some, refl, sym, ap, subst, ◌∙◌, arith}
use Rattle.std.specs.Io.KnownBytes.{Appends}
use Rattle.std.proofs.KnownBytes.{Appends-nil}
use Rattle.std.proofs.Math.Seq.{take-length}
use Rattle.std.proofs.lemmas.List.{length-take, length-drop, take_min}
use Rattle.te_base.specs.Ted.{Ted}
use Rattle.step_core.specs.declared.event.Event.{Event}
use Rattle.step_core.specs.Steps.{step}
use Rattle.step_core.specs.States.{State, empty}
use Rattle.history_core.specs.declared.step.Step.{Step}
use Rattle.history_core.specs.Histories.{Content, kept_step, rolled_up, steps_of}
use Rattle.history_tokens.specs.declared.rule.Happening.{Happening}
use Rattle.history_tokens.specs.declared.rule.Happening.TheVariants.{Took, Rolled}
use Rattle.history_seats.specs.Past.{database_at, steps_from, steps_at}
use Rattle.history_seats.specs.Receipts.{SeatContent}
use Rattle.history_seats.proofs.AllSteps.{are_all}
use Rattle.history_seats.proofs.Pasts.{at_more}
use Rattle.journal_writing.specs.Steps.{AreFrom, most_seen}
use Rattle.journal_writing.proofs.Seen.{from_place, of_all}
use Rattle.journal_writing.specs.Texts.{lines_of}
use Rattle.shared_pce.specs.Turns.{GivesIf}
use Rattle.shared_pce.specs.declared.rolled.RolledSteps.{RolledSteps}
use Rattle.server_journal.specs.Writes.{Writes, WritesOn, GoesOn}
use Rattle.server_journal.proofs.Lines.{text_joined, moments_first, lines_only}

-- steps that come next are written
writes_next : (text : Ted) (past : List (Happening Event)) (from to : ℕ) (steps : List Step) (a b : Option (List ℕ)) → take (length steps) (drop from (steps_at text past)) ≡ steps
    → to ≡ from + length steps → Writes from steps a b → WritesOn text past from to a b
writes_next text past from to steps a b is next writes = record {
  count = length steps;
  next = next;
  taken = ap length is;
  writes = subst (λ (s : List Step). Writes from s a b) (sym is) writes;
}

-- the journal goes on by one call
pub by_one : (text : Ted) (past : List (Happening Event)) (from to : ℕ) (a b : Option (List ℕ)) → WritesOn text past from to a b → GoesOn text past from to a b
by_one text past from to a b one =
    let steps : List Step = take one.count (drop from (steps_at text past)) in
    let moments : List (List ℕ) = one.writes.moments in
    let lines : List (List ℕ) = lines_of from steps in
    record {
      count = one.count;
      next = one.next;
      taken = one.taken;
      lines = moments ++ lines;
      are = moments_first from steps moments lines one.writes.are (lines_only from steps);
      written = subst (λ (t : List ℕ). Appends a b t) (sym (text_joined moments lines)) one.writes.written;
    }

-- ---- by a look

as_many : (n : ℕ) (xs : List Step) → take (length (take n xs)) xs ≡ take n xs
as_many n xs = ap (λ (k : ℕ). take k xs) (length-take n xs) ∙ take_min n xs

pub followed : (text : Ted) (past : List (Happening Event)) (from to : ℕ) (seen : List Step) (a b : Option (List ℕ)) → AreFrom from (database_at text past) seen
    → to ≡ from + length seen → Writes from seen a b → WritesOn text past from to a b
followed text past from to seen a b are next writes =
    let rest : List Step = drop from (steps_at text past) in
    let is : seen ≡ take most_seen rest = of_all from (database_at text past) (steps_at text past) seen (are_all text past) are in
    writes_next text past from to seen a b (ap (λ (s : List Step). take (length s) rest) is ∙ as_many most_seen rest ∙ sym is) next writes

-- as many are seen as come next, 512 at most
pub all_that_come : (text : Ted) (past : List (Happening Event)) (from : ℕ) (seen : List Step) → AreFrom from (database_at text past) seen
    → length seen ≡ length (take most_seen (drop from (steps_at text past)))
all_that_come text past from seen are = ap length (of_all from (database_at text past) (steps_at text past) seen (are_all text past) are)

-- ---- by a roll

rolls_leave : (s : State) (past : List (Happening Event)) → steps_from s (past ++ Rolled ∷ []) ≡ steps_from s past
rolls_leave s [] = refl
rolls_leave s (Took e ∷ past) = ap (λ (rest : List Step). kept_step e (step s e).reply ∷ rest) (rolls_leave (step s e).state past)
rolls_leave s (Rolled ∷ past) = rolls_leave s past

same_steps : (text : Ted) (past : List (Happening Event)) → steps_at text (past ++ Rolled ∷ []) ≡ steps_at text past
unfolding steps_at
same_steps text past = rolls_leave (empty text) past

pub rolled_on : (text : Ted) (past : List (Happening Event)) (from to : ℕ) (a b : Option (List ℕ)) → (database_at text past).rolled ≤ from
    → to ≡ from + length (drop (from - (database_at text past).rolled) (database_at text past).history)
    → Writes from (drop (from - (database_at text past).rolled) (database_at text past).history) a b → WritesOn text (past ++ Rolled ∷ []) from to a b
rolled_on text past from to a b begun next writes =
    let d : Content = database_at text past in
    let rest : List Step = drop (from - d.rolled) d.history in
    let is : rest ≡ drop from (steps_at text past) = from_place from d (steps_at text past) (are_all text past) begun in
    let all : drop from (steps_at text (past ++ Rolled ∷ [])) ≡ rest = ap (drop from) (same_steps text past) ∙ sym is in
    writes_next text (past ++ Rolled ∷ []) from to rest a b (ap (take (length rest)) all ∙ take-length rest) next writes

pub none_written : (text : Ted) (past : List (Happening Event)) (from : ℕ) (a : Option (List ℕ)) → WritesOn text past from from a a
none_written text past from a = record {
  count = 0;
  next = omega arith;
  taken = refl;
  writes = record { moments = []; are = tt; written = Appends-nil a };
}

pub stays : (text : Ted) (past : List (Happening Event)) (from : ℕ) (a : Option (List ℕ)) → GoesOn text past from from a a
stays text past from a = by_one text past from from a a (none_written text past from a)

-- once the rolled steps are written, all are
all_written : (text : Ted) (past : List (Happening Event)) (from to : ℕ) → (database_at text past).rolled ≤ from → from ≤ (database_at text past).rolled + length (database_at text past).history
    → to ≡ from + length (drop (from - (database_at text past).rolled) (database_at text past).history) → to ≡ steps_of (database_at text (past ++ Rolled ∷ []))
all_written text past from to begun within next =
    let d : Content = database_at text past in
    let left : length (drop (from - d.rolled) d.history) ≡ length d.history - (from - d.rolled) = length-drop (from - d.rolled) d.history in
    let all : to ≡ steps_of d = omega (arith, left, begun, within, next) in
    let same : steps_of (rolled_up d) ≡ steps_of d = omega arith in
    all ∙ sym (ap steps_of (at_more text past Rolled) ∙ same)

pub all_given : (text : Ted) (due : Content → Bool) (old new : SeatContent) (found : Option RolledSteps) (rolled : RolledSteps) (from to : ℕ) → found ≡ Some rolled → GivesIf due text old new found
    → rolled.first ≤ from → from ≤ rolled.first + length rolled.steps.items → to ≡ from + length (drop (from - rolled.first) rolled.steps.items) → to ≡ steps_of (database_at text new.seen)
all_given text due old new found rolled from to is gives begun within next =
    let given : GivesIf due text old new (Some rolled) = subst (λ (o : Option RolledSteps). GivesIf due text old new o) is gives in
    let past : List (Happening Event) = given.0 in
    let d : Content = database_at text past in
    let first : rolled.first ≡ d.rolled = given.3 in
    let steps : rolled.steps.items ≡ d.history = given.4 in
    let seen : new.seen ≡ past ++ Rolled ∷ [] = ap (λ (s : SeatContent). s.seen) given.5 in
    let many : length rolled.steps.items ≡ length d.history = ap length steps in
    let on : to ≡ from + length (drop (from - d.rolled) d.history) =
    next ∙ ap (λ (n : ℕ). from + length (drop (from - n) rolled.steps.items)) first ∙ ap (λ (xs : List Step). from + length (drop (from - d.rolled) xs)) steps in
    all_written text past from to (omega (arith, first, begun)) (omega (arith, first, many, within)) on ∙ ap (λ (p : List (Happening Event)). steps_of (database_at text p)) (sym seen)
