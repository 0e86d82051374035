use Rattle.std.proofs.Common.{◌≡◌, ◌∙◌, sym, subst}
use Rattle.std.specs.Prelude.{IfOk, OnOk, OnErr}
use Rattle.std.specs.List.{list_all}
use Rattle.std.proofs.lemmas.Bool.{and_parts}
use Rattle.step_core.specs.Consistent.{IsConsistent, has_srps_left}
use Rattle.step_core.specs.States.{State}
use Rattle.step_core.specs.Steps.{step}
use Rattle.step_core.proofs.ConsistentGrants.{free_next}
use Rattle.step_core.proofs.ConsistentSteps.{consistent_by, none_above_by, rising_by}
use Rattle.step_core.proofs.SoundSteps.{sound_by_step}
use Rattle.step_core.proofs.StepLaws.{others_stay-by, counts_rise-by}
use Rattle.step_core.proofs.state.State.step.Goals as goal

pub step-requires-clause-consistent : goal.step-requires-clause-consistent
step-requires-clause-consistent c = c.self.invariant.0

pub step-requires-clause-free : goal.step-requires-clause-free
step-requires-clause-free c = λ is. (
    let both = and_parts c.self.inside.srps_rise (list_all has_srps_left c.self.inside.tables.peers) (sym c.do_srps_rise-rise.ensures ∙ is) in
    free_next c.self.inside.tables (c.self.invariant.1 both.0) (rising_by c.self.inside.tables both.1))

pub invariant_of-self : goal.invariant_of-self
invariant_of-self c =
    let s = c.self.inside.tables in (
      consistent_by s c.step.new.self c.args.event.now c.step.result c.self.invariant.0 c.step.ensures.state c.step.ensures.unchanged_without_memory,
      λ is. (
          let both = and_parts c.self.inside.srps_rise (list_all has_srps_left s.peers) (sym c.do_srps_rise-rise.ensures ∙ is) in
          none_above_by s c.step.new.self c.args.event.now c.step.result c.self.invariant.0 (c.self.invariant.1 both.0) (rising_by s both.1) c.step.ensures.state c.step.ensures.unchanged_without_memory),
    )

pub returns-clause-consistent : goal.returns-clause-consistent
returns-clause-consistent c = consistent_by c.self.inside.tables c.step.new.self c.args.event.now c.step.result c.self.invariant.0 c.step.ensures.state c.step.ensures.unchanged_without_memory

pub returns-clause-others_stay : goal.returns-clause-others_stay
returns-clause-others_stay c =
    let before = c.self.view_is in
    let ok = subst (λ (s : State). OnOk c.step.result (c.step.new.self ≡ (step s c.args.event.now).state)) before c.step.ensures.state in
    let err = subst (λ (s : State). OnErr c.step.result (c.step.new.self ≡ s)) before c.step.ensures.unchanged_without_memory in
    others_stay-by c.args.self.now c.step.new.self c.args.event.now c.step.result (subst IsConsistent before c.self.invariant.0).distinct ok err

pub returns-clause-counts_rise : goal.returns-clause-counts_rise
returns-clause-counts_rise c =
    let before = c.self.view_is in
    let ok = subst (λ (s : State). OnOk c.step.result (c.step.new.self ≡ (step s c.args.event.now).state)) before c.step.ensures.state in
    let err = subst (λ (s : State). OnErr c.step.result (c.step.new.self ≡ s)) before c.step.ensures.unchanged_without_memory in
    counts_rise-by c.args.self.now c.step.new.self c.args.event.now c.step.result ok err

pub returns-clause-sound : goal.returns-clause-sound
returns-clause-sound c srp is =
    let before = c.self.view_is in
    let ok = subst (λ (s : State). OnOk c.step.result (c.step.new.self ≡ (step s c.args.event.now).state)) before c.step.ensures.state in
    let replied = subst (λ (s : State). IfOk c.step.result (λ reply. reply ≡ (step s c.args.event.now).reply)) before c.step.ensures.reply in
    sound_by_step c.args.self.now c.step.new.self c.args.event.now c.step.result srp ok replied is
