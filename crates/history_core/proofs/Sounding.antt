-- A legal history is sound, and its grants are counted step by step.
use Rattle.std.proofs.Common.{◌≡◌, ℕ, ◌+◌, ◌≤◌, cond, List, [], ◌∷◌, ◌++◌, length, sym, ap, ◌∙◌, arith}
use Rattle.std.specs.Prelude.{if◌then◌else◌}
use Rattle.std.specs.List.{sum_by}
use Rattle.std.proofs.lemmas.List.Sums.{count_by-le-length, sum_by-append, sum_by-cons}
use Rattle.step_core.specs.declared.event.Reply.{Reply}
use Rattle.step_core.specs.declared.event.Reply.TheVariants as reply
use Rattle.step_core.specs.States.{State}
use Rattle.step_core.specs.Steps.{step}
use Rattle.step_core.proofs.SoundSteps.{granted_is_sound}
use Rattle.history_core.specs.declared.step.Brief.TheVariants as brief
use Rattle.history_core.specs.declared.step.Step.{Step}
use Rattle.history_core.specs.Briefs.{brief_of, is_grant}
use Rattle.history_core.specs.Histories.{Content, IsLegalFrom, IsSound, IsSoundFrom, Replays, grants_in}

-- only a reply that grants has a grant's brief
granted_alone : (r : Reply) (srp : ℕ) → brief_of r ≡ brief.Granted srp → r ≡ reply.Granted srp
granted_alone reply.Done srp is = absurd (cc (is))
granted_alone (reply.Booked wants) srp is = absurd (cc (is))
granted_alone (reply.Asked ticket) srp is = absurd (cc (is))
granted_alone (reply.Job job) srp is = absurd (cc (is))
granted_alone reply.Idle srp is = absurd (cc (is))
granted_alone (reply.Granted n) srp is = let same : n ≡ srp = cc in ap (λ (k : ℕ). reply.Granted k) same
granted_alone reply.Answered srp is = absurd (cc (is))
granted_alone reply.Again srp is = absurd (cc (is))
granted_alone reply.NoPath srp is = absurd (cc (is))
granted_alone reply.GivenUp srp is = absurd (cc (is))
granted_alone reply.Gone srp is = absurd (cc (is))
granted_alone (reply.Removing n) srp is = absurd (cc (is))
granted_alone (reply.Out messages) srp is = absurd (cc (is))
granted_alone (reply.Refused why) srp is = absurd (cc (is))

pub legal_is_sound : (s : State) (xs : List Step) → IsLegalFrom s xs → IsSoundFrom s xs
legal_is_sound s [] legal = tt
legal_is_sound s (x ∷ xs) legal =
    (λ srp is. granted_is_sound s x.event srp (granted_alone (step s x.event).reply srp (sym legal.0 ∙ is)), legal_is_sound (step s x.event).state xs legal.1)

-- a history that replays is sound
pub sound_by_replay : (d : Content) → Replays d → IsSound d
sound_by_replay d whole = legal_is_sound d.base d.history whole.kept.legal

-- one more step counts if it is a grant
pub grants-snoc : (xs : List Step) (x : Step) → grants_in (xs ++ x ∷ []) ≡ grants_in xs + (if is_grant x.brief then 1 else 0)
grants-snoc xs x =
    let one : Step → ℕ = λ y. cond (is_grant y.brief) 1 0 in
    sum_by-append one xs (x ∷ []) ∙ ap (λ (n : ℕ). sum_by one xs + n) (sum_by-cons one x []) ∙ no_more (sum_by one xs) (one x)
  where
    no_more : (a b : ℕ) → a + (b + 0) ≡ a + b
    no_more a b = omega arith

pub grants_le : (xs : List Step) → grants_in xs ≤ length xs
grants_le xs = count_by-le-length (λ x. is_grant x.brief) xs
