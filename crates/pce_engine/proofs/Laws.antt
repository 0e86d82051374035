-- The machine that takes a script byte by byte writes what the script's lines print.
use Rattle.std.proofs.Common.{◌≡◌, ℕ, ◌+◌, ◌==◌, Bool, true, false, List, [], ◌∷◌, ◌++◌, length, Option, Some, None, Result, Ok, Err, fold, refl, sym, ap, ◌∙◌, append_assoc}
use Rattle.std.proofs.lemmas.List.{append-nil, length-append}
use Rattle.std.specs.Io.KnownBytes.{Appends}
use Rattle.pce_engine.specs.declared.fault.ScriptFault.{ScriptFault}
use Rattle.script_lines.specs.LineAnswer.{LineAnswer, line_answer, ◌>>=◌}
use Rattle.script_lines.specs.Lines.{Cut, cut_at, with_rest}
use Rattle.script_lines.proofs.Cutting.{cut_break, cut_other}
use Rattle.pce_engine.specs.Script.{Searches, Stage, start, answered, counted, answer_of_line, Outcome, on_line_answer, printed, script, next_number, text_of_lines}
use Rattle.pce_engine.specs.Machine.{Machine, started, Fed, after_line, took, fed_on, fed, Leads, completed}

-- the lines of what was cut and of the bytes after it
abbrev pub cut_on : Cut → List ℕ → List (List ℕ)
cut_on c bytes = with_rest (fold cut_at c bytes).0 (fold cut_at c bytes).1

pub took_break : (answer : Option (List ℕ)) (m : Machine) (b : ℕ) → (b == 10) ≡ true → took answer m b ≡ after_line (answer_of_line answer m.stage m.pending)
took_break answer m b e = rw e

pub took_other : (answer : Option (List ℕ)) (m : Machine) (b : ℕ) → (b == 10) ≡ false → took answer m b ≡ Ok (line_answer [] (record { stage = m.stage; pending = m.pending ++ b ∷ [] }))
took_other answer m b e = rw e

abbrev Keeps_front : List ℕ → Type 0
Keeps_front bytes = (ls : List (List ℕ)) (p : List ℕ) → (more : List (List ℕ)) × (cut_on (ls, p) bytes ≡ ls ++ more)

front_at : (t : Bool) (b : ℕ) (bytes : List ℕ) → (b == 10) ≡ t → Keeps_front bytes → Keeps_front (b ∷ bytes)
front_at true b bytes e ih ls p =
    let h = ih (ls ++ p ∷ []) [] in
    (p ∷ h.0, ap (λ (c : Cut). cut_on c bytes) (cut_break ls p b e) ∙ h.1 ∙ append_assoc ls (p ∷ []) h.0)
front_at false b bytes e ih ls p =
    let h = ih ls (p ++ b ∷ []) in
    (h.0, ap (λ (c : Cut). cut_on c bytes) (cut_other ls p b e) ∙ h.1)

-- whole lines stay in front of what follows
pub front_of : (bytes : List ℕ) → Keeps_front bytes
front_of [] ls [] = ([], sym (append-nil ls))
front_of [] ls (b ∷ p) = ((b ∷ p) ∷ [], refl)
front_of (b ∷ bytes) ls p = front_at (b == 10) b bytes refl (λ ls p. front_of bytes ls p) ls p

number_after : (answer : Result (LineAnswer Stage) ScriptFault) (number : ℕ) (r : LineAnswer Stage) → (answer >>= λ t. Ok (line_answer t.text (counted number t.after))) ≡ Ok r → r.after.number ≡ number + 1
number_after (Ok t) number r e = let same : r ≡ line_answer t.text (counted number t.after) = cc in ap (λ (next : LineAnswer Stage). next.after.number) same
number_after (Err fault) number r e = cc

pub next_answer : (answer : Option (List ℕ)) (s : Stage) (line : List ℕ) (r : LineAnswer Stage) → answer_of_line answer s line ≡ Ok r → r.after.number ≡ s.number + 1
unfolding answer_of_line
next_answer answer s line r e = number_after (answered answer s line) s.number r e

-- text that was written before stays in front
abbrev pub after : List ℕ → Fed → Fed
after front f = record { text = front ++ f.text; machine = f.machine; fault = f.fault }

-- ---- if the searches answer this

module _ (answers : Searches) where
  -- after these lines the script goes on with this text and stage
  abbrev GoesOn : List (List ℕ) → List ℕ → Stage → Type 0
  GoesOn ls text s = (more : List (List ℕ)) → printed answers (ls ++ more) [] start ≡ printed answers more text s

  -- one more line
  goes_on : (ls : List (List ℕ)) (p text : List ℕ) (s : Stage) (r : LineAnswer Stage) → answer_of_line (answers s.number) s p ≡ Ok r → GoesOn ls text s → GoesOn (ls ++ p ∷ []) (text ++ r.text) r.after
  goes_on ls p text s r e goes more =
      ap (λ (all : List (List ℕ)). printed answers all [] start) (append_assoc ls (p ∷ []) more) ∙ goes (p ∷ more) ∙ ap (λ t. on_line_answer text t (printed answers more)) e

  abbrev Agrees : List ℕ → Type 0
  Agrees bytes = (ls : List (List ℕ)) (p text : List ℕ) (s : Stage) → GoesOn ls text s
      → printed answers (cut_on (ls, p) bytes) [] start ≡ completed answers (fed answers bytes text (record { stage = s; pending = p }))

  agrees_answer : (r : Result (LineAnswer Stage) ScriptFault) (bytes : List ℕ) (ls : List (List ℕ)) (p text : List ℕ) (s : Stage) → answer_of_line (answers s.number) s p ≡ r → Agrees bytes → GoesOn ls text s
      → printed answers (cut_on (ls ++ p ∷ [], []) bytes) [] start ≡ completed answers (fed_on text (record { stage = s; pending = p }) (after_line r) (fed answers bytes))
  agrees_answer (Ok r) bytes ls p text s e ih goes =
      ih (ls ++ p ∷ []) [] (text ++ r.text) r.after (goes_on ls p text s r e goes)
  agrees_answer (Err fault) bytes ls p text s e ih goes =
      let h = front_of bytes (ls ++ p ∷ []) [] in
      ap (λ (all : List (List ℕ)). printed answers all [] start) (h.1 ∙ append_assoc ls (p ∷ []) h.0) ∙ goes (p ∷ h.0) ∙ ap (λ t. on_line_answer text t (printed answers h.0)) e

  agrees_at : (t : Bool) (b : ℕ) (bytes : List ℕ) → (b == 10) ≡ t → Agrees bytes → Agrees (b ∷ bytes)
  agrees_at true b bytes e ih ls p text s goes =
      let m : Machine = record { stage = s; pending = p } in
      ap (λ (c : Cut). printed answers (cut_on c bytes) [] start) (cut_break ls p b e)
      ∙ agrees_answer (answer_of_line (answers s.number) s p) bytes ls p text s refl ih goes
      ∙ sym (ap (λ t. completed answers (fed_on text m t (fed answers bytes))) (took_break (answers m.stage.number) m b e))
  agrees_at false b bytes e ih ls p text s goes =
      let m : Machine = record { stage = s; pending = p } in
      let n : Machine = record { stage = s; pending = p ++ b ∷ [] } in
      ap (λ (c : Cut). printed answers (cut_on c bytes) [] start) (cut_other ls p b e)
      ∙ ih ls (p ++ b ∷ []) text s goes
      ∙ ap (λ (t : List ℕ). completed answers (fed answers bytes t n)) (sym (append-nil text))
      ∙ sym (ap (λ t. completed answers (fed_on text m t (fed answers bytes))) (took_other (answers m.stage.number) m b e))

  agrees : (bytes : List ℕ) → Agrees bytes
  agrees [] ls [] text s goes = ap (λ (all : List (List ℕ)). printed answers all [] start) (sym (append-nil ls)) ∙ goes []
  agrees [] ls (b ∷ p) text s goes = goes ((b ∷ p) ∷ [])
  agrees (b ∷ bytes) ls p text s goes = agrees_at (b == 10) b bytes refl (λ ls p text s goes. agrees bytes ls p text s goes) ls p text s goes

  -- what is fed byte by byte and then completed is the script
  pub script_by_bytes : (bytes : List ℕ) → script answers bytes ≡ completed answers (fed answers bytes [] started)
  script_by_bytes bytes = agrees bytes [] [] [] start (λ more. refl)

  -- ---- the whole lines of a front

  -- if no fault stops the bytes, their whole lines lead to the same text
  abbrev Prints : List ℕ → Type 0
  Prints bytes = (ls : List (List ℕ)) (p text : List ℕ) (s : Stage) (all : List ℕ) (n : Machine) → GoesOn ls text s → Leads answers bytes text (record { stage = s; pending = p }) all n
      → (printed answers (fold cut_at (ls, p) bytes).0 [] start).text ≡ all

  prints_answer : (r : Result (LineAnswer Stage) ScriptFault) (bytes : List ℕ) (ls : List (List ℕ)) (p text : List ℕ) (s : Stage) (all : List ℕ) (n : Machine) → answer_of_line (answers s.number) s p ≡ r → Prints bytes → GoesOn ls text s
      → fed_on text (record { stage = s; pending = p }) (after_line r) (fed answers bytes) ≡ record { text = all; machine = n; fault = None } → (printed answers (fold cut_at (ls ++ p ∷ [], []) bytes).0 [] start).text ≡ all
  prints_answer (Ok r) bytes ls p text s all n e ih goes h = ih (ls ++ p ∷ []) [] (text ++ r.text) r.after all n (goes_on ls p text s r e goes) h
  prints_answer (Err fault) bytes ls p text s all n e ih goes h = let bad : Some fault ≡ None = ap (λ (f : Fed). f.fault) h in cc

  prints_at : (t : Bool) (b : ℕ) (bytes : List ℕ) → (b == 10) ≡ t → Prints bytes → Prints (b ∷ bytes)
  prints_at true b bytes e ih ls p text s all n goes h =
      let m : Machine = record { stage = s; pending = p } in
      ap (λ (c : Cut). (printed answers (fold cut_at c bytes).0 [] start).text) (cut_break ls p b e)
      ∙ prints_answer (answer_of_line (answers s.number) s p) bytes ls p text s all n refl ih goes (sym (ap (λ t. fed_on text m t (fed answers bytes)) (took_break (answers m.stage.number) m b e)) ∙ h)
  prints_at false b bytes e ih ls p text s all n goes h =
      let m : Machine = record { stage = s; pending = p } in
      let k : Machine = record { stage = s; pending = p ++ b ∷ [] } in
      ap (λ (c : Cut). (printed answers (fold cut_at c bytes).0 [] start).text) (cut_other ls p b e)
      ∙ ih ls (p ++ b ∷ []) text s all n goes (ap (λ (t : List ℕ). fed answers bytes t k) (sym (append-nil text)) ∙ sym (ap (λ t. fed_on text m t (fed answers bytes)) (took_other (answers m.stage.number) m b e)) ∙ h)

  prints : (bytes : List ℕ) → Prints bytes
  prints [] ls p text s all n goes h =
      ap (λ (all : List (List ℕ)). (printed answers all [] start).text) (sym (append-nil ls)) ∙ ap (λ (o : Outcome). o.text) (goes []) ∙ ap (λ (f : Fed). f.text) h
  prints (b ∷ bytes) ls p text s all n goes h = prints_at (b == 10) b bytes refl (λ ls p text s all n goes h. prints bytes ls p text s all n goes h) ls p text s all n goes h

  pub text_of_front : (front text : List ℕ) (m : Machine) → Leads answers front [] started text m → text_of_lines answers front ≡ text
  text_of_front front text m h = prints front [] [] [] start text m (λ more. refl) h

  -- ---- the number of the next line

  -- if no fault stops the bytes, each of their whole lines is counted
  abbrev Counts : List ℕ → Type 0
  Counts bytes = (ls : List (List ℕ)) (p text : List ℕ) (s : Stage) (all : List ℕ) (n : Machine) → s.number ≡ length ls + 1 → Leads answers bytes text (record { stage = s; pending = p }) all n
      → n.stage.number ≡ length (fold cut_at (ls, p) bytes).0 + 1

  counts_answer : (r : Result (LineAnswer Stage) ScriptFault) (bytes : List ℕ) (ls : List (List ℕ)) (p text : List ℕ) (s : Stage) (all : List ℕ) (n : Machine) → answer_of_line (answers s.number) s p ≡ r → Counts bytes → s.number ≡ length ls + 1
      → fed_on text (record { stage = s; pending = p }) (after_line r) (fed answers bytes) ≡ record { text = all; machine = n; fault = None } → n.stage.number ≡ length (fold cut_at (ls ++ p ∷ [], []) bytes).0 + 1
  counts_answer (Ok r) bytes ls p text s all n e ih at h =
      ih (ls ++ p ∷ []) [] (text ++ r.text) r.after all n (next_answer (answers s.number) s p r e ∙ ap (λ (k : ℕ). k + 1) (at ∙ sym (length-append ls (p ∷ [])))) h
  counts_answer (Err fault) bytes ls p text s all n e ih at h = let bad : Some fault ≡ None = ap (λ (f : Fed). f.fault) h in cc

  counts_at : (t : Bool) (b : ℕ) (bytes : List ℕ) → (b == 10) ≡ t → Counts bytes → Counts (b ∷ bytes)
  counts_at true b bytes e ih ls p text s all n at h =
      let m : Machine = record { stage = s; pending = p } in
      counts_answer (answer_of_line (answers s.number) s p) bytes ls p text s all n refl ih at (sym (ap (λ t. fed_on text m t (fed answers bytes)) (took_break (answers m.stage.number) m b e)) ∙ h)
      ∙ ap (λ (c : Cut). length (fold cut_at c bytes).0 + 1) (sym (cut_break ls p b e))
  counts_at false b bytes e ih ls p text s all n at h =
      let m : Machine = record { stage = s; pending = p } in
      let k : Machine = record { stage = s; pending = p ++ b ∷ [] } in
      ih ls (p ++ b ∷ []) text s all n at (ap (λ (t : List ℕ). fed answers bytes t k) (sym (append-nil text)) ∙ sym (ap (λ t. fed_on text m t (fed answers bytes)) (took_other (answers m.stage.number) m b e)) ∙ h)
      ∙ ap (λ (c : Cut). length (fold cut_at c bytes).0 + 1) (sym (cut_other ls p b e))

  counts : (bytes : List ℕ) → Counts bytes
  counts [] ls p text s all n at h = ap (λ (f : Fed). f.machine.stage.number) (sym h) ∙ at
  counts (b ∷ bytes) ls p text s all n at h = counts_at (b == 10) b bytes refl (λ ls p text s all n at h. counts bytes ls p text s all n at h) ls p text s all n at h

  pub number_of_front : (front text : List ℕ) (m : Machine) → Leads answers front [] started text m → m.stage.number ≡ next_number front
  number_of_front front text m h = counts front [] [] [] start text m refl h

  -- ---- pieces

  abbrev Splits : List ℕ → Type 0
  Splits a = (b text : List ℕ) (m : Machine) (t : List ℕ) (n : Machine) → Leads answers a text m t n → fed answers (a ++ b) text m ≡ fed answers b t n

  splits_at : (r : Result (LineAnswer Machine) ScriptFault) (a b text : List ℕ) (m : Machine) (t : List ℕ) (n : Machine) → Splits a
      → fed_on text m r (fed answers a) ≡ record { text = t; machine = n; fault = None } → fed_on text m r (fed answers (a ++ b)) ≡ fed answers b t n
  splits_at (Ok r) a b text m t n ih e = ih b (text ++ r.text) r.after t n e
  splits_at (Err fault) a b text m t n ih e = let bad : Some fault ≡ None = ap (λ (f : Fed). f.fault) e in cc

  -- a second piece goes on where the first one ended
  pub fed_append : (a : List ℕ) → Splits a
  fed_append [] b text m t n e = sym (ap (λ (f : Fed). fed answers b f.text f.machine) (sym e))
  fed_append (x ∷ a) b text m t n e = splits_at (took (answers m.stage.number) m x) a b text m t n (λ b text m t n e. fed_append a b text m t n e) e

  abbrev Fronts : List ℕ → Type 0
  Fronts bytes = (front text : List ℕ) (m : Machine) → fed answers bytes (front ++ text) m ≡ after front (fed answers bytes text m)

  fronts_at : (r : Result (LineAnswer Machine) ScriptFault) (bytes front text : List ℕ) (m : Machine) → Fronts bytes
      → fed_on (front ++ text) m r (fed answers bytes) ≡ after front (fed_on text m r (fed answers bytes))
  fronts_at (Ok r) bytes front text m ih = ap (λ (t : List ℕ). fed answers bytes t r.after) (append_assoc front text r.text) ∙ ih front (text ++ r.text) r.after
  fronts_at (Err fault) bytes front text m ih = refl

  pub fed_front : (bytes : List ℕ) → Fronts bytes
  fed_front [] front text m = refl
  fed_front (b ∷ bytes) front text m = fronts_at (took (answers m.stage.number) m b) bytes front text m (λ front text m. fed_front bytes front text m)

pub appends_more : (a b c : Option (List ℕ)) (x y : List ℕ) → Appends a b x → Appends b c y → Appends a c (x ++ y)
appends_more None b c x y h k = tt
appends_more (Some xs) None c x y h k = absurd h
appends_more (Some xs) (Some ys) None x y h k = absurd k
appends_more (Some xs) (Some ys) (Some zs) x y h k = k ∙ ap (λ (all : List ℕ). all ++ y) h ∙ append_assoc xs x y
