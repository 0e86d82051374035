-- What the rule's answer says about the tests of a return.
use Rattle.std.proofs.Common.{◌≡◌, ◌∙◌, ℕ, refl, sym, subst, ap}
use Rattle.std.specs.Prelude.{Option, Some, None, Ok, Err}
use Rattle.lsp_base.specs.Lsps.{Lsps, HasAll, lsp_at}
use Rattle.lsp_base.specs.Refusals.{answered_unless}
use Rattle.lsp_base.specs.declared.effect.Effect.{Effect}
use Rattle.lsp_base.specs.declared.why.Why.{Why}
use Rattle.delegate_rules.specs.Returns.{must_be_held, given_back, return_result}
use Rattle.initiate_rules.specs.Messages.{return_message}
use Rattle.step_core.specs.declared.event.Reply.TheVariants.{Done, Refused}
use Rattle.pcep_messages.specs.declared.message.Message.{Message}
use Rattle.step_core.specs.States.{State, next_number}
use Rattle.step_core.specs.Grants.{asking}
use Rattle.step_core.specs.Outcomes.{Outcome, must_take_updates, must_have_a_number}
use Rattle.step_core.specs.Steps.{return_step}
use Rattle.step_core.proofs.Dropped.{return-has}

answered_ok : (whys : Option Why) (a e : Effect) → answered_unless whys a ≡ Ok e → (whys ≡ None) × (e ≡ a)
answered_ok (Some first) a e is = absurd (cc (is))
answered_ok None a e is = (refl, cc)

answered_err : (whys : Option Why) (a : Effect) (why : Why) → answered_unless whys a ≡ Err why → whys ≡ Some why
answered_err (Some first) a why is = cc
answered_err None a why is = absurd (cc (is))

-- no test failed, and the effect is the return's
pub held_by : (base given : Lsps) (n plsp : ℕ) (e : Effect) → given ≡ base → return_result given n plsp ≡ Ok e → (must_be_held base n plsp ≡ None) × (e ≡ given_back plsp (lsp_at base.records n plsp))
unfolding return_result
held_by base given n plsp e same is = answered_ok (must_be_held base n plsp) (given_back plsp (lsp_at base.records n plsp)) e (ap (λ b. return_result b n plsp) (sym same) ∙ is)

-- a test failed
pub not_held_by : (base given : Lsps) (n plsp : ℕ) (why : Why) → given ≡ base → return_result given n plsp ≡ Err why → must_be_held base n plsp ≡ Some why
unfolding return_result
not_held_by base given n plsp why same is = answered_err (must_be_held base n plsp) (given_back plsp (lsp_at base.records n plsp)) why (ap (λ b. return_result b n plsp) (sym same) ∙ is)

pub has_by_return : (base given : Lsps) (n plsp : ℕ) (e : Effect) → given ≡ base → return_result given n plsp ≡ Ok e → HasAll base.paths e.change.dropped
has_by_return base given n plsp e same is = subst (λ (x : Effect). HasAll base.paths x.change.dropped) (sym (held_by base given n plsp e same is).1) (return-has base plsp (lsp_at base.records n plsp))

-- ---- a return, depending on the rule's answer

-- the rule refuses it
refused_return : (s : State) (n plsp : ℕ) (why : Why) → must_take_updates s.peers n ≡ None → return_result s.base n plsp ≡ Err why → return_step s n plsp ≡ record { state = s; reply = Refused why }
refused_return s n plsp why taken is = rw (taken, not_held_by s.base s.base n plsp why refl is) refl

pub refused_reply : (s : State) (n plsp : ℕ) (why : Why) → must_take_updates s.peers n ≡ None → return_result s.base n plsp ≡ Err why → Refused why ≡ (return_step s n plsp).reply
refused_reply s n plsp why taken is = sym (ap (λ (o : Outcome). o.reply) (refused_return s n plsp why taken is))

pub refused_state : (s : State) (n plsp : ℕ) (why : Why) → must_take_updates s.peers n ≡ None → return_result s.base n plsp ≡ Err why → s ≡ (return_step s n plsp).state
refused_state s n plsp why taken is = sym (ap (λ (o : Outcome). o.state) (refused_return s n plsp why taken is))

-- the peer's next number is in use
no_number : (s : State) (n plsp : ℕ) (e : Effect) (why : Why) → must_take_updates s.peers n ≡ None → return_result s.base n plsp ≡ Ok e → must_have_a_number s n ≡ Some why → return_step s n plsp ≡ record { state = s; reply = Refused why }
no_number s n plsp e why taken is used = rw (taken, (held_by s.base s.base n plsp e refl is).0, used) refl

pub no_number_reply : (s : State) (n plsp : ℕ) (e : Effect) (why : Why) → must_take_updates s.peers n ≡ None → return_result s.base n plsp ≡ Ok e → must_have_a_number s n ≡ Some why → Refused why ≡ (return_step s n plsp).reply
no_number_reply s n plsp e why taken is used = sym (ap (λ (o : Outcome). o.reply) (no_number s n plsp e why taken is used))

pub no_number_state : (s : State) (n plsp : ℕ) (e : Effect) (why : Why) → must_take_updates s.peers n ≡ None → return_result s.base n plsp ≡ Ok e → must_have_a_number s n ≡ Some why → s ≡ (return_step s n plsp).state
no_number_state s n plsp e why taken is used = sym (ap (λ (o : Outcome). o.state) (no_number s n plsp e why taken is used))

-- all tests pass
pub returned_reply : (s : State) (n plsp : ℕ) (e : Effect) → must_take_updates s.peers n ≡ None → return_result s.base n plsp ≡ Ok e → must_have_a_number s n ≡ None → Done ≡ (return_step s n plsp).reply
returned_reply s n plsp e taken is free = rw (taken, (held_by s.base s.base n plsp e refl is).0, free) refl

pub returned_state : (s t : State) (n plsp : ℕ) (e : Effect) → must_take_updates s.peers n ≡ None → return_result s.base n plsp ≡ Ok e → must_have_a_number s n ≡ None
    → t ≡ asking s n e (return_message (next_number s n) plsp) → t ≡ (return_step s n plsp).state
returned_state s t n plsp e taken is free same =
    let tests = held_by s.base s.base n plsp e refl is in
    same ∙ ap (λ x. asking s n x (return_message (next_number s n) plsp)) tests.1 ∙ rw (taken, tests.0, free) refl

-- ---- the same if the number was computed from parts of the state

pub asking_by : (s u t : State) (n plsp number : ℕ) (e : Effect) (message : Message) → u ≡ s → number ≡ next_number u n → message ≡ return_message number plsp → t ≡ asking u n e message → t ≡ asking s n e (return_message (next_number s n) plsp)
asking_by s u t n plsp number e message same number_is message_is is =
    is ∙ ap (λ (m : Message). asking u n e m) (message_is ∙ ap (λ (k : ℕ). return_message k plsp) number_is) ∙ ap (λ (w : State). asking w n e (return_message (next_number w n) plsp)) same
