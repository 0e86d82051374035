-- Histories one after the other: a legal history stays legal, and leads on.
use Rattle.std.proofs.Common.{◌≡◌, ◌≢◌, ℕ, ◌+◌, ◌≤◌, Bool, false, ◌==◌, ◌||◌, List, [], ◌∷◌, ◌++◌, length, refl, sym, subst, ap, ◌∙◌, arith, length-append}
use Rattle.std.specs.Prelude.{Result, Ok, if◌then◌else◌}
use Rattle.std.proofs.lemmas.Bool.Decides.{nat_tests}
use Rattle.std.proofs.lemmas.Grind.{common_steps}
use Rattle.te_base.specs.Ted.{Ted}
use Rattle.te_base.specs.Values.{IsSameNetwork}
use Rattle.te_base.proofs.Values.{same-length}
use Rattle.lsp_base.specs.declared.why.Why.{Why}
use Rattle.step_core.specs.declared.base.Base as known
use Rattle.step_core.specs.declared.event.Event.{Event}
use Rattle.step_core.specs.declared.event.Reply.{Reply}
use Rattle.step_core.specs.declared.event.Reply.TheVariants.{Refused}
use Rattle.step_core.specs.Bases.{MayStand, known_in, state_over}
use Rattle.step_core.specs.Consistent.{IsConsistent}
use Rattle.step_core.specs.States.{State}
use Rattle.step_core.specs.Steps.{step}
use Rattle.step_core.proofs.Reloading.{state_over-same}
use Rattle.step_core.proofs.StepLaws.{network_stays, counts_rise, refused_stays}
use Rattle.history_core.specs.declared.fault.Fault.{Fault}
use Rattle.history_core.specs.declared.start.Start as placed
use Rattle.history_core.specs.declared.step.Step.{Step}
use Rattle.history_core.specs.Briefs.{brief_of, is_grant}
use Rattle.history_core.specs.Histories.{Content, Start, start_over, IsCounted, MayBegin, replay, IsLegalFrom, ReplaysFrom, Replays, IsWhole, content, kept_step, stepped, is_full, steps_of, step_limit, last_step}
use Rattle.history_core.proofs.Sounding.{grants-snoc, grants_le}

pub replay-append : (s : State) (xs ys : List Step) → replay s (xs ++ ys) ≡ replay (replay s xs) ys
replay-append s [] ys = refl
replay-append s (x ∷ xs) ys = replay-append (step s x.event).state xs ys

pub IsLegalFrom-append : (s : State) (xs ys : List Step) → IsLegalFrom s xs → IsLegalFrom (replay s xs) ys → IsLegalFrom s (xs ++ ys)
IsLegalFrom-append s [] ys first second = second
IsLegalFrom-append s (x ∷ xs) ys first second = (first.0, IsLegalFrom-append (step s x.event).state xs ys first.1 second)

-- one more step from any start
ReplaysFrom-stepped : (start : State) (xs : List Step) (s : State) (event : Event) (reply : Reply) → ReplaysFrom start xs s → reply ≡ (step s event).reply
    → ReplaysFrom start (xs ++ kept_step event reply ∷ []) (step s event).state
ReplaysFrom-stepped start xs s event reply kept is = record {
  legal = IsLegalFrom-append start xs (kept_step event reply ∷ []) kept.legal (rw kept.leads (ap brief_of is), tt);
  leads = rw (replay-append start xs (kept_step event reply ∷ []), kept.leads) refl;
}

pub Replays-stepped : (d : Content) (event : Event) (reply : Reply) → Replays d → reply ≡ (step d.state event).reply → Replays (stepped d event reply)
Replays-stepped d event reply whole is = record {
  start = whole.start;
  kept = ReplaysFrom-stepped d.base d.history d.state event reply whole.kept is;
  past = whole.past;
}

-- a step that was refused left the state as it was
pub refused-applied : (event : Event) (reply : Reply) (s t : State) (why : Why) (given taken : Result Reply Fault) → reply ≡ (step s event).reply → t ≡ (step s event).state → given ≡ Ok reply → taken ≡ Ok (Refused why) → given ≡ taken → t ≡ s
refused-applied event reply s t why given taken is t_is given_is answered_is same =
    let refused : reply ≡ Refused why = cc in
    t_is ∙ refused_stays s event why (sym is ∙ refused)

-- ---- each count of the state is no more than the number of steps

changes-replay : (s : State) (xs : List Step) → (replay s xs).changes ≤ s.changes + length xs
changes-replay s [] = omega arith
changes-replay s (y ∷ ys) = omega (arith, changes-replay (step s y.event).state ys, (counts_rise s y.event).changes_rise)

sessions-replay : (s : State) (xs : List Step) → (replay s xs).last_session ≤ s.last_session + length xs
sessions-replay s [] = omega arith
sessions-replay s (y ∷ ys) = omega (arith, sessions-replay (step s y.event).state ys, (counts_rise s y.event).sessions_rise)

tickets-replay : (s : State) (xs : List Step) → (replay s xs).last_ticket ≤ s.last_ticket + length xs
tickets-replay s [] = omega arith
tickets-replay s (y ∷ ys) = omega (arith, tickets-replay (step s y.event).state ys, (counts_rise s y.event).tickets_rise)

-- what was rolled is counted
pub base_counted : (d : Content) → Replays d → steps_of d ≤ last_step → IsCounted (known_in d.base) d.rolled d.rolled_grants
base_counted d whole few =
    let steps : List Step = whole.past.0 in
    let past = whole.past.1 in
    let start = d.start.state in
    let first = whole.start.counted in
    let changes : start.changes ≤ d.start.steps = first.changes in
    let sessions : start.last_session ≤ d.start.steps = first.sessions in
    let tickets : start.last_ticket ≤ d.start.steps = first.tickets in
    record {
      changes = omega (arith, changes, changes-replay start steps, ap (λ (s : State). s.changes) past.replays.leads, past.steps);
      sessions = omega (arith, sessions, sessions-replay start steps, ap (λ (s : State). s.last_session) past.replays.leads, past.steps);
      tickets = omega (arith, tickets, tickets-replay start steps, ap (λ (s : State). s.last_ticket) past.replays.leads, past.steps);
      grants = omega (arith, first.grants, grants_le steps, past.steps, past.grants);
      taken = omega (arith, few);
    }

pub changes_le : (d : Content) → Replays d → steps_of d ≤ last_step → d.state.changes ≤ steps_of d
changes_le d whole few =
    let before : d.base.changes ≤ d.rolled = (base_counted d whole few).changes in
    omega (arith, before, ap (λ (s : State). s.changes) whole.kept.leads, changes-replay d.base d.history)

pub sessions_le : (d : Content) → Replays d → steps_of d ≤ last_step → d.state.last_session ≤ steps_of d
sessions_le d whole few =
    let before : d.base.last_session ≤ d.rolled = (base_counted d whole few).sessions in
    omega (arith, before, ap (λ (s : State). s.last_session) whole.kept.leads, sessions-replay d.base d.history)

pub tickets_le : (d : Content) → Replays d → steps_of d ≤ last_step → d.state.last_ticket ≤ steps_of d
tickets_le d whole few =
    let before : d.base.last_ticket ≤ d.rolled = (base_counted d whole few).tickets in
    omega (arith, before, ap (λ (s : State). s.last_ticket) whole.kept.leads, tickets-replay d.base d.history)

-- ---- a database after one more event

neither : (p q : Bool) → (p || q) ≡ false → (p ≡ false) × (q ≡ false)
neither Bool.true q is = absurd (cc (is))
neither Bool.false q is = (refl, is)

other_number : (a b : ℕ) → (a == b) ≡ false → a ≢ b
other_number a b = grind (arith, nat_tests, common_steps)

-- there is room for one more step
pub more_may_come : (d : Content) (n : ℕ) → IsWhole d n → is_full d ≡ false → (length d.history + 1 ≤ step_limit) × (steps_of d + 1 ≤ last_step)
more_may_come d n whole none =
    let tests = neither (length d.history == step_limit) (steps_of d == last_step) none in (
      omega (arith, whole.kept, other_number (length d.history) step_limit tests.0),
      omega (arith, whole.taken, other_number (steps_of d) last_step tests.1),
    )

pub grants_le_steps : (d : Content) (n : ℕ) → IsWhole d n → n ≤ steps_of d
grants_le_steps d n whole = omega (arith, whole.counted, grants_le d.history, (base_counted d whole.replays whole.taken).grants)

pub IsWhole-stepped : (d : Content) (n m : ℕ) (event : Event) (reply : Reply) → IsWhole d n → is_full d ≡ false → reply ≡ (step d.state event).reply
    → m ≡ n + (if is_grant (brief_of reply) then 1 else 0) → IsWhole (stepped d event reply) m
IsWhole-stepped d n m event reply whole none is counted =
    let x = kept_step event reply in
    let room = more_may_come d n whole none in
    record {
      replays = Replays-stepped d event reply whole.replays is;
      kept = omega (arith, length-append d.history (x ∷ []), room.0);
      taken = omega (arith, length-append d.history (x ∷ []), room.1);
      counted = omega (arith, counted, whole.counted, grants-snoc d.history x);
    }

stays_over : (s t : State) (event : Event) → t ≡ (step s event).state → IsSameNetwork s.te t.te
stays_over s t event t_is = subst (λ (u : State). IsSameNetwork s.te u.te) (sym t_is) (network_stays s event)

-- the same database, if the new state and history are known by equations
pub content-stepped : (s t : State) (xs ys : List Step) (base : known.Base) (start : placed.Start) (rolled rolled_grants : ℕ) (event : Event) (reply : Reply)
    → length base.values ≡ length s.te.links → length start.base.values ≡ length s.te.links → t ≡ (step s event).state → ys ≡ xs ++ kept_step event reply ∷ []
    → content t ys base start rolled rolled_grants ≡ stepped (content s xs base start rolled rolled_grants) event reply
content-stepped s t xs ys base start rolled rolled_grants event reply at_base at_start t_is ys_is =
    let same = stays_over s t event t_is in
    let same_base : state_over t.te base ≡ state_over s.te base = sym (state_over-same s.te t.te base same at_base) in
    let same_first : state_over t.te start.base ≡ state_over s.te start.base = sym (state_over-same s.te t.te start.base same at_start) in
    let same_start : start_over t.te start.base start.steps start.grants ≡ start_over s.te start.base start.steps start.grants
    = ap (λ (u : State). started u start.steps start.grants) same_first in
    cc
  where
    started : State → (steps grants : ℕ) → Start
    started u steps grants = record { state = u; steps = steps; grants = grants }

-- what may stand over a network may stand over the same one with other values of its links
MayStand-same : (a b : Ted) (base : known.Base) → IsSameNetwork a b → MayStand a base → MayStand b base
MayStand-same a b base same stands = record {
  values = stands.values ∙ same-length a b same;
  few = stands.few;
  consistent = subst IsConsistent (state_over-same a b base same stands.values) stands.consistent;
}

-- a step leaves what may stand
pub stands_on : (s t : State) (event : Event) (base : known.Base) → t ≡ (step s event).state → MayStand s.te base → MayStand t.te base
stands_on s t event base t_is stands = MayStand-same s.te t.te base (stays_over s t event t_is) stands

-- what is known of a state may stand, if it is known by an equation
pub known_stands : (s : State) (base : known.Base) → base ≡ known_in s → MayStand s.te (known_in s) → MayStand s.te base
known_stands s base is stands = subst (MayStand s.te) (sym is) stands

-- the base of a database may begin another one
pub base_begins : (te : Ted) (b : known.Base) (d : Content) → d.base ≡ state_over te b → Replays d → steps_of d ≤ last_step → MayStand te b → MayBegin te b d.rolled d.rolled_grants
base_begins te b d is whole few stands =
    let counted : IsCounted (known_in (state_over te b)) d.rolled d.rolled_grants = subst (λ (s : State). IsCounted (known_in s) d.rolled d.rolled_grants) is (base_counted d whole few) in
    record {
      stands = stands;
      counted = record { changes = counted.changes; sessions = counted.sessions; tickets = counted.tickets; grants = counted.grants; taken = counted.taken };
    }

-- a step leaves as many links as there were
pub links_stay : (s t : State) (event : Event) → t ≡ (step s event).state → length s.te.links ≡ length t.te.links
links_stay s t event t_is = same-length s.te t.te (stays_over s t event t_is)
