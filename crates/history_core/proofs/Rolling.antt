-- A roll: all steps so far become the past of the new base.
use Rattle.std.proofs.Common.{◌≡◌, ℕ, ◌+◌, List, [], ◌∷◌, ◌++◌, length, refl, sym, subst, ap, ◌∙◌, arith, length-append}
use Rattle.std.proofs.Common.{cond}
use Rattle.std.proofs.lemmas.List.Sums.{sum_by-append}
use Rattle.te_base.specs.Ted.{Ted}
use Rattle.te_base.specs.Values.{IsSameNetwork}
use Rattle.te_base.proofs.Values.{length-values_in, same-refl, same-trans}
use Rattle.step_core.specs.declared.base.Base as known
use Rattle.step_core.specs.Bases.{MayStand, known_in, state_over}
use Rattle.step_core.specs.States.{State, empty}
use Rattle.step_core.specs.Steps.{step}
use Rattle.step_core.proofs.ConsistentSteps.{empty_consistent}
use Rattle.step_core.proofs.Reloading.{known_again}
use Rattle.step_core.proofs.StepLaws.{network_stays as step_network}
use Rattle.history_core.specs.declared.start.Start as placed
use Rattle.history_core.specs.declared.step.Step.{Step}
use Rattle.history_core.specs.Briefs.{is_grant}
use Rattle.history_core.specs.Histories.{Content, Start, beginning, replay, IsPast, IsSoundFrom, IsCounted, IsStart, Replays, IsKept, IsWhole, begun, content, nothing_happened, rolled_up, steps_of, grants_of, grants_in}
use Rattle.history_core.proofs.Replaying.{replay-append, IsLegalFrom-append, known_stands}
use Rattle.history_core.proofs.Sounding.{legal_is_sound}

network-replay : (s : State) (xs : List Step) → IsSameNetwork s.te (replay s xs).te
network-replay s [] = same-refl s.te
network-replay s (y ∷ ys) = same-trans s.te (step s y.event).state.te (replay (step s y.event).state ys).te (step_network s y.event) (network-replay (step s y.event).state ys)

-- nodes, owners, and ends and addresses of links are those of the start
pub network_stays : (d : Content) → Replays d → IsSameNetwork d.start.state.te d.state.te
network_stays d whole =
    let past = whole.past.1 in
    let start = d.start.state in
    let first : IsSameNetwork start.te d.base.te = subst (λ (s : State). IsSameNetwork start.te s.te) past.replays.leads (network-replay start whole.past.0) in
    let second : IsSameNetwork d.base.te d.state.te = subst (λ (s : State). IsSameNetwork d.base.te s.te) whole.kept.leads (network-replay d.base d.history) in
    same-trans start.te d.base.te d.state.te first second

grants-append : (xs ys : List Step) → grants_in (xs ++ ys) ≡ grants_in xs + grants_in ys
grants-append xs ys = sum_by-append (λ (y : Step). cond (is_grant y.brief) 1 0) xs ys

-- the steps before the base and the kept ones are together one past of the state
all_past : (d : Content) → Replays d → (all : List Step) × IsPast d.start all (steps_of d) (grants_of d) d.state
all_past d whole =
    let before = whole.past.0 in
    let past = whole.past.1 in
    let start = d.start.state in (
      before ++ d.history,
      record {
        steps = omega (arith, length-append before d.history, past.steps);
        grants = omega (arith, grants-append before d.history, past.grants);
        replays = record {
          legal = IsLegalFrom-append start before d.history past.replays.legal (rw past.replays.leads whole.kept.legal);
          leads = rw (replay-append start before d.history, past.replays.leads) whole.kept.leads;
        };
      },
    )

pub Replays-rolled_up : (d : Content) → Replays d → Replays (rolled_up d)
Replays-rolled_up d whole = record {
  start = whole.start;
  kept = record { legal = tt; leads = refl };
  past = all_past d whole;
}

pub IsWhole-rolled_up : (d : Content) (n : ℕ) → IsWhole d n → IsWhole (rolled_up d) n
IsWhole-rolled_up d n whole = record {
  replays = Replays-rolled_up d whole.replays;
  kept = omega arith;
  taken = omega (arith, whole.taken);
  counted = omega (arith, whole.counted);
}

-- the database after a roll, if the new base and history are known by equations
pub content-rolled_up : (s : State) (xs ys : List Step) (base new : known.Base) (start : placed.Start) (rolled rolled_grants steps grants : ℕ)
    → new ≡ known_in s → ys ≡ [] → steps ≡ rolled + length xs → grants ≡ grants_of (content s xs base start rolled rolled_grants)
    → content s ys new start steps grants ≡ rolled_up (content s xs base start rolled rolled_grants)
content-rolled_up s xs ys base new start rolled rolled_grants steps grants new_is ys_is steps_is grants_is =
    let same : state_over s.te new ≡ s = known_again s new new_is in
    cc

-- ---- a database that begins

abbrev started : State → (steps grants : ℕ) → Start
started s steps grants = record { state = s; steps = steps; grants = grants }

abbrev kept_start : known.Base → (steps grants : ℕ) → placed.Start
kept_start first steps grants = record { base = first; steps = steps; grants = grants }

-- the database that begins at a state, if what is kept of it is known by equations
pub content_begun : (s : State) (xs : List Step) (new first : known.Base) (steps grants : ℕ) → xs ≡ [] → new ≡ known_in s → first ≡ known_in s
    → content s xs new (kept_start first steps grants) steps grants ≡ begun (started s steps grants)
content_begun s xs new first steps grants xs_is new_is first_is =
    let same_base : state_over s.te new ≡ s = known_again s new new_is in
    let same_first : state_over s.te first ≡ s = known_again s first first_is in
    cc

pub Replays-begun : (start : Start) → IsStart start → Replays (begun start)
Replays-begun start is = record {
  start = is;
  kept = record { legal = tt; leads = refl };
  past = ([], record { steps = omega arith; grants = omega arith; replays = record { legal = tt; leads = refl } });
}

IsWhole-begun : (start : Start) → IsStart start → IsWhole (begun start) start.grants
IsWhole-begun start is = record {
  replays = Replays-begun start is;
  kept = omega arith;
  taken = omega (arith, is.counted.taken);
  counted = omega arith;
}

pub kept_begun : (s : State) (xs : List Step) (new first : known.Base) (steps grants : ℕ) → xs ≡ [] → new ≡ known_in s → first ≡ known_in s → IsStart (started s steps grants) → MayStand s.te (known_in s)
    → IsKept s xs new (kept_start first steps grants) steps grants grants
kept_begun s xs new first steps grants xs_is new_is first_is is stands = record {
  whole = subst (λ (d : Content). IsWhole d grants) (sym (content_begun s xs new first steps grants xs_is new_is first_is)) (IsWhole-begun (started s steps grants) is);
  stands = known_stands s new new_is stands;
  at_start = ap (λ (b : known.Base). length b.values) first_is ∙ length-values_in s.te;
}

-- the network of the link text is a start
pub beginning_is : (te : Ted) → IsStart (beginning te)
beginning_is te = record {
  consistent = empty_consistent te;
  counted = record { changes = omega arith; sessions = omega arith; tickets = omega arith; grants = omega arith; taken = omega arith };
}

pub Replays-new : (te : Ted) → Replays (nothing_happened te)
Replays-new te = Replays-begun (beginning te) (beginning_is te)

pub beginning_at : (te : Ted) (s : State) → s ≡ empty te → IsStart (started s 0 0)
beginning_at te s is = subst (λ (t : State). IsStart (started t 0 0)) (sym is) (beginning_is te)

-- what was read is a start if it may stand and is counted
pub read_at : (te : Ted) (b : known.Base) (s : State) (steps grants : ℕ) → s ≡ state_over te b → MayStand te b → IsCounted b steps grants → IsStart (started s steps grants)
read_at te b s steps grants is stands counted = subst (λ (t : State). IsStart (started t steps grants)) (sym is) (record {
  consistent = stands.consistent;
  counted = record { changes = counted.changes; sessions = counted.sessions; tickets = counted.tickets; grants = counted.grants; taken = counted.taken };
})

-- all steps that were ever taken are one legal and sound history
pub one_history : (d : Content) → Replays d → (all : List Step) × IsPast d.start all (steps_of d) (grants_of d) d.state × IsSoundFrom d.start.state all
one_history d whole =
    let all = all_past d whole in
    (all.0, all.1, legal_is_sound d.start.state all.0 all.1.replays.legal)
