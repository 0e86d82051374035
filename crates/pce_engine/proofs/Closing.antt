-- The end of the input, whose last line may lack its line break.
use Rattle.std.proofs.Common.{◌≡◌, ◌≢◌, ℕ, List, [], ◌∷◌, ◌++◌, false, Option, Some, None, Result, Ok, Err, IfOk, OnOk, is_err, refl, sym, subst, ap, ◌∙◌}
use Rattle.std.proofs.lemmas.List.{append-nil}
use Rattle.std.specs.Io.KnownBytes.{Appends}
use Rattle.script_lines.specs.LineAnswer.{LineAnswer, line_answer}
use Rattle.pce_engine.specs.declared.fault.ScriptFault.{ScriptFault}
use Rattle.pce_engine.specs.declared.fault.ScriptFault.TheVariants.{BadLine, Te, ReadFault, WriteFault, OutOfMemory, HistoryFull}
use Rattle.pce_engine.specs.Script.{Stage, Outcome, answer_of_line, MayFind, ending, on_line_answer}
use Rattle.pce_engine.specs.Ends.{Writes, WritesLast, Closes, ClosesAt, ClosesBy}
use Rattle.pce_engine.specs.Machine.{Halts}
use Rattle.pce_engine.proofs.Laws.{appends_more}

-- ---- without a last line

nothing_last : (old new : Option (List ℕ)) (s : Stage) (fault : Option ScriptFault) → Appends old new [] → ending s.number s.standing ≡ fault → WritesLast old new fault s []
nothing_last old new s fault a is = (None, tt, (a, is))

pub closes_nothing : {X : Type 0} (r : Result X ScriptFault) (old new : Option (List ℕ)) (s : Stage) → ClosesAt r old new (ending s.number s.standing) → Closes r old new s []
closes_nothing (Ok x) old new s h = nothing_last old new s None h.0 h.1
closes_nothing (Err (BadLine n)) old new s h = nothing_last old new s (Some (BadLine n)) h.0 h.1
closes_nothing (Err (Te fault)) old new s h = nothing_last old new s (Some (Te fault)) h.0 h.1
closes_nothing (Err ReadFault) old new s h = absurd h
closes_nothing (Err WriteFault) old new s h = tt
closes_nothing (Err (OutOfMemory n)) old new s h = absurd h
closes_nothing (Err HistoryFull) old new s h = nothing_last old new s (Some HistoryFull) h.0 h.1

-- ---- with one

-- what the last line prints, and how the script ends after it
abbrev closed : Result (LineAnswer Stage) ScriptFault → Outcome
closed given = on_line_answer [] given (λ all t. record { text = all; fault = ending t.number t.standing })

last_answer : (old mid new : Option (List ℕ)) (s t : Stage) (b : ℕ) (bs text : List ℕ) (answer : Option (List ℕ)) (fault : Option ScriptFault) → MayFind answer s.standing (b ∷ bs)
    → answer_of_line answer s (b ∷ bs) ≡ Ok (line_answer text t) → Appends old mid text → Appends mid new [] → ending t.number t.standing ≡ fault → WritesLast old new fault s (b ∷ bs)
last_answer old mid new s t b bs text answer fault may is first rest ends =
    let whole : Appends old new text = subst (Appends old new) (append-nil text) (appends_more old mid new text [] first rest) in (
      answer,
      subst (λ (r : Result (LineAnswer Stage) ScriptFault). IfOk r (λ _. MayFind answer s.standing (b ∷ bs))) (sym is) may,
      subst (λ (r : Result (LineAnswer Stage) ScriptFault). Writes old new fault (closed r)) (sym is) (whole, ends),
    )

answer_by : {X : Type 0} (r : Result X ScriptFault) (old mid new : Option (List ℕ)) (s t : Stage) (b : ℕ) (bs text : List ℕ) (answer : Option (List ℕ)) → MayFind answer s.standing (b ∷ bs)
    → answer_of_line answer s (b ∷ bs) ≡ Ok (line_answer text t) → Appends old mid text → ClosesAt r mid new (ending t.number t.standing) → Closes r old new s (b ∷ bs)
answer_by (Ok x) old mid new s t b bs text answer may is first h = last_answer old mid new s t b bs text answer None may is first h.0 h.1
answer_by (Err (BadLine n)) old mid new s t b bs text answer may is first h = last_answer old mid new s t b bs text answer (Some (BadLine n)) may is first h.0 h.1
answer_by (Err (Te fault)) old mid new s t b bs text answer may is first h = last_answer old mid new s t b bs text answer (Some (Te fault)) may is first h.0 h.1
answer_by (Err ReadFault) old mid new s t b bs text answer may is first h = absurd h
answer_by (Err WriteFault) old mid new s t b bs text answer may is first h = tt
answer_by (Err (OutOfMemory n)) old mid new s t b bs text answer may is first h = absurd h
answer_by (Err HistoryFull) old mid new s t b bs text answer may is first h = last_answer old mid new s t b bs text answer (Some HistoryFull) may is first h.0 h.1

pub closes_answer : {X : Type 0} (r : Result X ScriptFault) (old mid new : Option (List ℕ)) (s t : Stage) (line none out : List ℕ) (answer : Option (List ℕ)) (text : List ℕ) → line ≢ [] → none ≡ []
    → MayFind answer s.standing line → answer_of_line answer s line ≡ Ok (line_answer text t) → out ≡ none ++ text → Appends old mid out → ClosesAt r mid new (ending t.number t.standing) → Closes r old new s line
closes_answer r old mid new s t [] none out answer text some empty may is out_is first h = absurd (some refl)
closes_answer r old mid new s t (b ∷ bs) none out answer text some empty may is out_is first h =
    let text_is : out ≡ text = out_is ∙ ap (λ (n : List ℕ). n ++ text) empty in
    answer_by r old mid new s t b bs text answer may is (subst (Appends old mid) text_is first) h

-- the line met a fault: nothing of it was written
fault_last : (w : Option (List ℕ)) (s : Stage) (b : ℕ) (bs : List ℕ) (e : ScriptFault) → Appends w w [] → answer_of_line None s (b ∷ bs) ≡ Err e → WritesLast w w (Some e) s (b ∷ bs)
fault_last w s b bs e nothing is = (
  None,
  subst (λ (r : Result (LineAnswer Stage) ScriptFault). IfOk r (λ _. MayFind None s.standing (b ∷ bs))) (sym is) tt,
  subst (λ (r : Result (LineAnswer Stage) ScriptFault). Writes w w (Some e) (closed r)) (sym is) (nothing, refl),
)

appends_none : (w : Option (List ℕ)) → Appends w w []
appends_none None = tt
appends_none (Some xs) = sym (append-nil xs)

halted_last : (e : ScriptFault) (w : Option (List ℕ)) (s : Stage) (b : ℕ) (bs none out : List ℕ) → Halts s.number e (answer_of_line None s (b ∷ bs)) none out → ClosesBy e w w s (b ∷ bs)
halted_last (BadLine n) w s b bs none out h = fault_last w s b bs (BadLine n) (appends_none w) h.0
halted_last (Te fault) w s b bs none out h = fault_last w s b bs (Te fault) (appends_none w) h.0
halted_last ReadFault w s b bs none out h = absurd h
halted_last WriteFault w s b bs none out h = absurd h
halted_last (OutOfMemory n) w s b bs none out h = (refl, h.1)
halted_last HistoryFull w s b bs none out h = fault_last w s b bs HistoryFull (appends_none w) h.0

pub closes_halted : (e : ScriptFault) (w : Option (List ℕ)) (s : Stage) (line none out : List ℕ) → line ≢ [] → Halts s.number e (answer_of_line None s line) none out → ClosesBy e w w s line
closes_halted e w s [] none out some h = absurd (some refl)
closes_halted e w s (b ∷ bs) none out some h = halted_last e w s b bs none out h

-- what holds on success holds if the writing did not fail
pub written : {A E : Type 0} (r : Result A E) (P : Type 0) → OnOk r P → false ≡ is_err r → P
written (Ok a) P h is = h
written (Err e) P h is = absurd (cc (is))
