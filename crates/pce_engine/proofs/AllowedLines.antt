-- What the searches may answer along bytes they may answer along the lines that the bytes make.
use Rattle.std.proofs.Common.{◌≡◌, ℕ, ◌==◌, Bool, true, false, List, [], ◌∷◌, ◌++◌, Some, None, Result, Ok, Err, IfOk, fold, refl, sym, ap, subst, ◌∙◌, append_assoc, arith}
use Rattle.std.proofs.lemmas.Bool.Decides.{nat_tests}
use Rattle.std.proofs.lemmas.List.{append-nil}
use Rattle.pce_engine.specs.declared.fault.ScriptFault.{ScriptFault}
use Rattle.script_lines.specs.LineAnswer.{LineAnswer}
use Rattle.script_lines.specs.Lines.{Cut, cut, cut_at, with_rest, lines_of}
use Rattle.script_lines.proofs.Cutting.{cut_break, cut_other}
use Rattle.pce_engine.specs.Script.{Searches, Stage, start, answer_of_line, MayFind, Allowed}
use Rattle.pce_engine.specs.Machine.{Machine, started, Fed, after_line, fed_on, fed, MayTake, AllowedBytes, Goes}
use Rattle.pce_engine.specs.Ends.{MayClose}
use Rattle.pce_engine.proofs.Laws.{cut_on, took_break, took_other, front_of}

also_none : {X E : Type 0} (r : Result X E) (P : Type 0) → IfOk r (λ _. P) → IfOk r (λ _. P × Unit {0})
also_none (Ok x) P h = (h, tt)
also_none (Err e) P h = tt

module _ (answers : Searches) where
  -- these lines lead to the stage: what the searches of further lines may answer from there, they may answer after
  -- these lines
  abbrev GoesOn : List (List ℕ) → Stage → Type 0
  GoesOn ls s = (more : List (List ℕ)) → Allowed answers more s → Allowed answers (ls ++ more) start

  -- a line that was answered
  may_line : (ls : List (List ℕ)) (p : List ℕ) (s : Stage) (r : LineAnswer Stage) → answer_of_line (answers s.number) s p ≡ Ok r → MayFind (answers s.number) s.standing p → GoesOn ls s → GoesOn (ls ++ p ∷ []) r.after
  may_line ls p s r e may goes more h =
      subst (λ (all : List (List ℕ)). Allowed answers all start) (sym (append_assoc ls (p ∷ []) more))
      (goes (p ∷ more) (subst (λ (t : Result (LineAnswer Stage) ScriptFault). IfOk t (λ t. MayFind (answers s.number) s.standing p × Allowed answers more t.after)) (sym e) (may, h)))

  -- a line that met a fault
  may_fault : (ls : List (List ℕ)) (p : List ℕ) (s : Stage) (fault : ScriptFault) (more : List (List ℕ)) → answer_of_line (answers s.number) s p ≡ Err fault → GoesOn ls s → Allowed answers (ls ++ p ∷ more) start
  may_fault ls p s fault more e goes =
      goes (p ∷ more) (subst (λ (t : Result (LineAnswer Stage) ScriptFault). IfOk t (λ t. MayFind (answers s.number) s.standing p × Allowed answers more t.after)) (sym e) tt)

  -- if the searches are allowed along bytes that begin with a line break, the search of the line that it ends is
  -- allowed
  may_break : (r : Result (LineAnswer Stage) ScriptFault) (b : ℕ) (bytes : List ℕ) (m : Machine) → (b == 10) ≡ true → answer_of_line (answers m.stage.number) m.stage m.pending ≡ r → AllowedBytes answers (b ∷ bytes) m
      → IfOk (after_line r) (λ t. MayFind (answers m.stage.number) m.stage.standing m.pending × AllowedBytes answers bytes t.after)
  may_break (Ok r) b bytes m e is h =
      let line : b ≡ 10 = grind (arith, nat_tests) in
      let k = subst (λ (t : Result (LineAnswer Machine) ScriptFault). IfOk t (λ t. MayTake (answers m.stage.number) m b × AllowedBytes answers bytes t.after)) (took_break (answers m.stage.number) m b e ∙ ap after_line is) h in
      (k.0 line, k.1)
  may_break (Err fault) b bytes m e is h = tt

  may_other : (b : ℕ) (bytes : List ℕ) (m : Machine) → (b == 10) ≡ false → AllowedBytes answers (b ∷ bytes) m → AllowedBytes answers bytes (record { stage = m.stage; pending = m.pending ++ b ∷ [] })
  may_other b bytes m e h =
      (subst (λ (t : Result (LineAnswer Machine) ScriptFault). IfOk t (λ t. MayTake (answers m.stage.number) m b × AllowedBytes answers bytes t.after)) (took_other (answers m.stage.number) m b e) h).1

  -- ---- the whole lines of a front

  abbrev Fronts : List ℕ → Type 0
  Fronts bytes = (ls : List (List ℕ)) (p text : List ℕ) (s : Stage) (all : List ℕ) (n : Machine) → GoesOn ls s → Goes answers bytes text (record { stage = s; pending = p }) all n
      → GoesOn (fold cut_at (ls, p) bytes).0 n.stage × ((fold cut_at (ls, p) bytes).1 ≡ n.pending)

  fronts_answer : (r : Result (LineAnswer Stage) ScriptFault) (bytes : List ℕ) (ls : List (List ℕ)) (p text : List ℕ) (s : Stage) (all : List ℕ) (n : Machine) → answer_of_line (answers s.number) s p ≡ r → Fronts bytes → GoesOn ls s
      → IfOk (after_line r) (λ t. MayFind (answers s.number) s.standing p × AllowedBytes answers bytes t.after)
      → fed_on text (record { stage = s; pending = p }) (after_line r) (fed answers bytes) ≡ record { text = all; machine = n; fault = None }
      → GoesOn (fold cut_at (ls ++ p ∷ [], []) bytes).0 n.stage × ((fold cut_at (ls ++ p ∷ [], []) bytes).1 ≡ n.pending)
  fronts_answer (Ok r) bytes ls p text s all n e ih goes may h = ih (ls ++ p ∷ []) [] (text ++ r.text) r.after all n (may_line ls p s r e may.0 goes) (h, may.1)
  fronts_answer (Err fault) bytes ls p text s all n e ih goes may h = let bad : Some fault ≡ None = ap (λ (f : Fed). f.fault) h in absurd cc

  fronts_at : (t : Bool) (b : ℕ) (bytes : List ℕ) → (b == 10) ≡ t → Fronts bytes → Fronts (b ∷ bytes)
  fronts_at true b bytes e ih ls p text s all n goes h =
      let m : Machine = record { stage = s; pending = p } in
      let r = answer_of_line (answers s.number) s p in
      subst (λ (c : Cut). GoesOn (fold cut_at c bytes).0 n.stage × ((fold cut_at c bytes).1 ≡ n.pending)) (sym (cut_break ls p b e))
      (fronts_answer r bytes ls p text s all n refl ih goes (may_break r b bytes m e refl h.1) (sym (ap (λ t. fed_on text m t (fed answers bytes)) (took_break (answers s.number) m b e)) ∙ h.0))
  fronts_at false b bytes e ih ls p text s all n goes h =
      let m : Machine = record { stage = s; pending = p } in
      let k : Machine = record { stage = s; pending = p ++ b ∷ [] } in
      subst (λ (c : Cut). GoesOn (fold cut_at c bytes).0 n.stage × ((fold cut_at c bytes).1 ≡ n.pending)) (sym (cut_other ls p b e))
      (ih ls (p ++ b ∷ []) text s all n goes (ap (λ (t : List ℕ). fed answers bytes t k) (sym (append-nil text)) ∙ sym (ap (λ t. fed_on text m t (fed answers bytes)) (took_other (answers s.number) m b e)) ∙ h.0, may_other b bytes m e h.1))

  fronts : (bytes : List ℕ) → Fronts bytes
  fronts [] ls p text s all n goes h = let same : record { stage = s; pending = p } ≡ n = ap (λ (f : Fed). f.machine) h.0 in (subst (λ (k : Machine). GoesOn ls k.stage) same goes, ap (λ (k : Machine). k.pending) same)
  fronts (b ∷ bytes) ls p text s all n goes h = fronts_at (b == 10) b bytes refl (λ ls p text s all n goes h. fronts bytes ls p text s all n goes h) ls p text s all n goes h

  pub allowed_front : (front text : List ℕ) (m : Machine) → Goes answers front [] started text m → Allowed answers (cut front).0 start
  allowed_front front text m h =
      subst (λ (ls : List (List ℕ)). Allowed answers ls start) (append-nil (cut front).0) ((fronts front [] [] [] start text m (λ more k. k) h).0 [] tt)

  -- ---- all lines

  last_line : (ls : List (List ℕ)) (p : List ℕ) (s : Stage) → GoesOn ls s → MayClose (answers s.number) s p → Allowed answers (with_rest ls p) start
  last_line ls [] s goes may = subst (λ (ls : List (List ℕ)). Allowed answers ls start) (append-nil ls) (goes [] tt)
  last_line ls (b ∷ p) s goes may = goes ((b ∷ p) ∷ []) (also_none (answer_of_line (answers s.number) s (b ∷ p)) (MayFind (answers s.number) s.standing (b ∷ p)) may)

  -- the input ended after these bytes
  pub allowed_whole : (input text : List ℕ) (m : Machine) → Goes answers input [] started text m → MayClose (answers m.stage.number) m.stage m.pending → Allowed answers (lines_of input) start
  allowed_whole input text m h may =
      let k = fronts input [] [] [] start text m (λ more k. k) h in
      last_line (cut input).0 (cut input).1 m.stage k.0 (subst (MayClose (answers m.stage.number) m.stage) (sym k.1) may)

  abbrev Stopped : List ℕ → Type 0
  Stopped bytes = (ls : List (List ℕ)) (p text : List ℕ) (s : Stage) (fault : ScriptFault) → GoesOn ls s → AllowedBytes answers bytes (record { stage = s; pending = p })
      → (fed answers bytes text (record { stage = s; pending = p })).fault ≡ Some fault → Allowed answers (cut_on (ls, p) bytes) start

  stopped_answer : (r : Result (LineAnswer Stage) ScriptFault) (bytes : List ℕ) (ls : List (List ℕ)) (p text : List ℕ) (s : Stage) (fault : ScriptFault) → answer_of_line (answers s.number) s p ≡ r → Stopped bytes → GoesOn ls s
      → IfOk (after_line r) (λ t. MayFind (answers s.number) s.standing p × AllowedBytes answers bytes t.after)
      → (fed_on text (record { stage = s; pending = p }) (after_line r) (fed answers bytes)).fault ≡ Some fault → Allowed answers (cut_on (ls ++ p ∷ [], []) bytes) start
  stopped_answer (Ok r) bytes ls p text s fault e ih goes may h = ih (ls ++ p ∷ []) [] (text ++ r.text) r.after fault (may_line ls p s r e may.0 goes) may.1 h
  stopped_answer (Err f) bytes ls p text s fault e ih goes may h =
      let rest = front_of bytes (ls ++ p ∷ []) [] in
      subst (λ (all : List (List ℕ)). Allowed answers all start) (sym (rest.1 ∙ append_assoc ls (p ∷ []) rest.0)) (may_fault ls p s f rest.0 e goes)

  stopped_at : (t : Bool) (b : ℕ) (bytes : List ℕ) → (b == 10) ≡ t → Stopped bytes → Stopped (b ∷ bytes)
  stopped_at true b bytes e ih ls p text s fault goes may h =
      let m : Machine = record { stage = s; pending = p } in
      let r = answer_of_line (answers s.number) s p in
      subst (λ (c : Cut). Allowed answers (cut_on c bytes) start) (sym (cut_break ls p b e))
      (stopped_answer r bytes ls p text s fault refl ih goes (may_break r b bytes m e refl may) (sym (ap (λ t. (fed_on text m t (fed answers bytes)).fault) (took_break (answers s.number) m b e)) ∙ h))
  stopped_at false b bytes e ih ls p text s fault goes may h =
      let m : Machine = record { stage = s; pending = p } in
      let k : Machine = record { stage = s; pending = p ++ b ∷ [] } in
      subst (λ (c : Cut). Allowed answers (cut_on c bytes) start) (sym (cut_other ls p b e))
      (ih ls (p ++ b ∷ []) text s fault goes (may_other b bytes m e may) (ap (λ (t : List ℕ). (fed answers bytes t k).fault) (sym (append-nil text)) ∙ sym (ap (λ t. (fed_on text m t (fed answers bytes)).fault) (took_other (answers s.number) m b e)) ∙ h))

  stopped : (bytes : List ℕ) → Stopped bytes
  stopped [] ls p text s fault goes may h = absurd cc
  stopped (b ∷ bytes) ls p text s fault goes may h = stopped_at (b == 10) b bytes refl (λ ls p text s fault goes may h. stopped bytes ls p text s fault goes may h) ls p text s fault goes may h

  -- a fault stopped the bytes
  pub allowed_stopped : (input : List ℕ) (fault : ScriptFault) → AllowedBytes answers input started → (fed answers input [] started).fault ≡ Some fault → Allowed answers (lines_of input) start
  allowed_stopped input fault may h = stopped input [] [] [] start fault (λ more k. k) may h
