-- All lines are as recorded exactly where they record a legal history.
use Rattle.std.proofs.Common.{◌≡◌, ◌≢◌, ◌⊎◌, ℕ, ◌+◌, ◌==◌, Bool, true, false, List, [], ◌∷◌, length, Option, Some, None, option_map, if◌then◌else◌, inl, inr, refl, sym, ap, subst, ◌∙◌, arith}
use Rattle.std.proofs.lemmas.Bool.{eq-eqb, eqb-true}
use Rattle.step_core.specs.States.{State}
use Rattle.step_core.specs.Steps.{step}
use Rattle.history_core.specs.Histories.{ReplaysFrom, IsLegalFrom, replay}
use Rattle.history_core.specs.declared.step.Step.{Step}
use Rattle.step_lines.specs.Lines.{step_in}
use Rattle.step_lines.specs.declared.placed.PlacedStep.{PlacedStep}
use Rattle.journal_files.specs.Moments.{is_moment}
use Rattle.journal_replay.specs.Replays.{Point, after, replayed_brief, TakesStep, TakesBy, Takes, AllAsRecorded, kept, with_step, recorded, RecordsLegal}
use Rattle.journal_replay.specs.declared.taken.Taken.{Taken}
use Rattle.journal_replay.specs.declared.taken.Taken.TheVariants.{AsRecorded, Moment, Differs, BadLine}

-- ---- from lines that are as recorded

-- a line with the time records nothing
by_moment : (at to : Point) (line : List ℕ) (lines : List (List ℕ)) → is_moment line ≡ true → RecordsLegal at lines to → RecordsLegal at (line ∷ lines) to
unfolding recorded
by_moment at to line lines e h = record { steps = h.steps; read = rw e h.read; replays = h.replays; next = h.next }

-- the next step, and the steps behind it
by_step : (at to : Point) (line : List ℕ) (lines : List (List ℕ)) (p : PlacedStep) → is_moment line ≡ false → step_in line ≡ Some p → p.place ≡ at.next → p.brief ≡ replayed_brief at.state p
    → RecordsLegal (after at p) lines to → RecordsLegal at (line ∷ lines) to
unfolding recorded
by_step at to line lines p e read place same h =
    let here : (p.place == at.next) ≡ true = eq-eqb p.place at.next place in
    record {
      steps = kept p ∷ h.steps;
      read = rw (e, read, here, h.read) refl;
      replays = record { legal = (same, h.replays.legal); leads = h.replays.leads };
      next = omega (arith, h.next);
    }

no_moment_step : {A : Type 0} → AsRecorded ≡ Moment → A
no_moment_step e = cc

no_bad_step : {A : Type 0} → AsRecorded ≡ BadLine → A
no_bad_step e = cc

no_bad_moment : {A : Type 0} → Moment ≡ BadLine → A
no_bad_moment e = cc

one_more : (moment : Bool) (read : Option PlacedStep) (at mid to : Point) (line : List ℕ) (lines : List (List ℕ)) → is_moment line ≡ moment → step_in line ≡ read
    → TakesBy moment at read AsRecorded mid ⊎ TakesBy moment at read Moment mid → RecordsLegal mid lines to → RecordsLegal at (line ∷ lines) to
one_more true read at mid to line lines e r (inl taken) h = no_moment_step taken.0
one_more true read at mid to line lines e r (inr taken) h = by_moment at to line lines e (subst (λ (x : Point). RecordsLegal x lines to) taken.1 h)
one_more false None at mid to line lines e r (inl taken) h = no_bad_step taken.0
one_more false None at mid to line lines e r (inr taken) h = no_bad_moment taken.0
one_more false (Some p) at mid to line lines e r (inl taken) h =
    by_step at to line lines p e r taken.0 taken.1 (subst (λ (x : Point). RecordsLegal x lines to) taken.2 h)
one_more false (Some p) at mid to line lines e r (inr taken) h = absurd taken

pub legal : (at : Point) (lines : List (List ℕ)) (to : Point) → AllAsRecorded at lines to → RecordsLegal at lines to
unfolding recorded
legal at [] to h = record {
  steps = [];
  read = refl;
  replays = record { legal = tt; leads = sym (ap (λ (x : Point). x.state) h) };
  next = ap (λ (x : Point). x.next) h ∙ omega arith;
}
legal at (line ∷ lines) to h = one_more (is_moment line) (step_in line) at h.0 to line lines refl refl h.1 (legal h.0 lines to h.2)

-- ---- and back

-- what stands behind a step that was read
pub record Behind (at to : Point) (lines : List (List ℕ)) (p : PlacedStep) : Type 0 where
  pub place : p.place ≡ at.next
  pub same : p.brief ≡ replayed_brief at.state p
  pub rest : RecordsLegal (after at p) lines to

split_rest : (at to : Point) (lines : List (List ℕ)) (p : PlacedStep) (rest : Option (List Step)) (steps : List Step) → p.place ≡ at.next → recorded (at.next + 1) lines ≡ rest
    → option_map (λ more. kept p ∷ more) rest ≡ Some steps → ReplaysFrom at.state steps to.state → to.next ≡ at.next + length steps → Behind at to lines p
split_rest at to lines p None steps place r e replays next = cc
split_rest at to lines p (Some more) steps place r e replays next =
    let is : steps ≡ kept p ∷ more = cc in
    let whole : ReplaysFrom at.state (kept p ∷ more) to.state = subst (λ (x : List Step). ReplaysFrom at.state x to.state) is replays in
    let long : length steps ≡ length (kept p ∷ more) = ap length is in
    record {
      place = place;
      same = whole.legal.0;
      rest = record { steps = more; read = r; replays = record { legal = whole.legal.1; leads = whole.leads }; next = omega (arith, next, long) };
    }

split_place : (here : Bool) (at to : Point) (lines : List (List ℕ)) (p : PlacedStep) (steps : List Step) → (p.place == at.next) ≡ here
    → (if here then option_map (λ more. kept p ∷ more) (recorded (at.next + 1) lines) else None) ≡ Some steps → ReplaysFrom at.state steps to.state → to.next ≡ at.next + length steps → Behind at to lines p
split_place true at to lines p steps e r replays next =
    split_rest at to lines p (recorded (at.next + 1) lines) steps (eqb-true p.place at.next e) refl r replays next
split_place false at to lines p steps e r replays next = cc

-- the first line is taken, and those behind it record what is left
pub record Begins (at to : Point) (line : List ℕ) (lines : List (List ℕ)) : Type 0 where
  pub mid : Point
  pub taken : Takes at line AsRecorded mid ⊎ Takes at line Moment mid
  pub rest : RecordsLegal mid lines to

begins_by : (moment : Bool) (read : Option PlacedStep) (at to : Point) (line : List ℕ) (lines : List (List ℕ)) (steps : List Step) → is_moment line ≡ moment → step_in line ≡ read
    → (if moment then recorded at.next lines else with_step at.next read (recorded (at.next + 1) lines)) ≡ Some steps → ReplaysFrom at.state steps to.state → to.next ≡ at.next + length steps → Begins at to line lines
begins_by true read at to line lines steps e r is replays next =
    record { mid = at; taken = inr (rw e (refl, refl)); rest = record { steps = steps; read = is; replays = replays; next = next } }
begins_by false None at to line lines steps e r is replays next = cc
begins_by false (Some p) at to line lines steps e r is replays next =
    let b = split_place (p.place == at.next) at to lines p steps refl is replays next in
    record { mid = after at p; taken = inl (rw (e, r) (b.place, b.same, refl)); rest = b.rest }

begins : (at to : Point) (line : List ℕ) (lines : List (List ℕ)) → RecordsLegal at (line ∷ lines) to → Begins at to line lines
unfolding recorded
begins at to line lines h = begins_by (is_moment line) (step_in line) at to line lines h.steps refl refl h.read h.replays h.next

same_point : (a b : Point) → a.state ≡ b.state → a.next ≡ b.next → a ≡ b
same_point a b s n = ap (λ (x : State). record { state = x; next = a.next }) s ∙ ap (λ (x : ℕ). record { state = b.state; next = x }) n

ended : (at to : Point) (steps : List Step) → Some [] ≡ Some steps → ReplaysFrom at.state steps to.state → to.next ≡ at.next + length steps → to ≡ at
ended at to [] e replays next = same_point to at (sym replays.leads) (omega (arith, next))
ended at to (s ∷ steps) e replays next = cc

pub as_recorded : (at : Point) (lines : List (List ℕ)) (to : Point) → RecordsLegal at lines to → AllAsRecorded at lines to
unfolding recorded
as_recorded at [] to h = ended at to h.steps h.read h.replays h.next
as_recorded at (line ∷ lines) to h =
    let b = begins at to line lines h in
    (b.mid, b.taken, as_recorded b.mid lines to b.rest)
