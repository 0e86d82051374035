use Rattle.std.proofs.Common.{◌≡◌, false, [], ◌∷◌, ◌++◌, ap, refl, subst, sym, ◌∙◌, arith}
use Rattle.history_core.specs.Histories.{Content, IsWhole, content, is_full, kept_step, stepped}
use Rattle.history_core.proofs.Replaying.{changes_le, sessions_le, tickets_le, more_may_come, grants_le_steps, IsWhole-stepped, content-stepped, links_stay, stands_on, refused-applied}
use Rattle.history_core.proofs.Sounding.{sound_by_replay}
use Rattle.history_core.proofs.database.Database.apply_shared.Goals as goal

pub step-requires-clause-changes : goal.step-requires-clause-changes
step-requires-clause-changes c =
    let d : Content = content c.self.inside.state c.self.inside.history.items c.self.inside.base c.self.inside.start c.self.inside.rolled c.self.inside.rolled_grants in
    let none : is_full d ≡ false = ap is_full c.self.view_is ∙ sym c.if-is_full.ensures in
    omega (arith, changes_le d c.self.invariant.whole.replays c.self.invariant.whole.taken, more_may_come d c.self.inside.grants c.self.invariant.whole none)

pub step-requires-clause-sessions : goal.step-requires-clause-sessions
step-requires-clause-sessions c =
    let d : Content = content c.self.inside.state c.self.inside.history.items c.self.inside.base c.self.inside.start c.self.inside.rolled c.self.inside.rolled_grants in
    let none : is_full d ≡ false = ap is_full c.self.view_is ∙ sym c.if-is_full.ensures in
    omega (arith, sessions_le d c.self.invariant.whole.replays c.self.invariant.whole.taken, more_may_come d c.self.inside.grants c.self.invariant.whole none)

pub step-requires-clause-tickets : goal.step-requires-clause-tickets
step-requires-clause-tickets c =
    let d : Content = content c.self.inside.state c.self.inside.history.items c.self.inside.base c.self.inside.start c.self.inside.rolled c.self.inside.rolled_grants in
    let none : is_full d ≡ false = ap is_full c.self.view_is ∙ sym c.if-is_full.ensures in
    omega (arith, tickets_le d c.self.invariant.whole.replays c.self.invariant.whole.taken, more_may_come d c.self.inside.grants c.self.invariant.whole none)

pub keep-requires-clause-grants : goal.keep-requires-clause-grants
keep-requires-clause-grants c =
    let d : Content = content c.self.inside.state c.self.inside.history.items c.self.inside.base c.self.inside.start c.self.inside.rolled c.self.inside.rolled_grants in
    let none : is_full d ≡ false = ap is_full c.self.view_is ∙ sym c.if-is_full.ensures in
    omega (arith, grants_le_steps d c.self.inside.grants c.self.invariant.whole, more_may_come d c.self.inside.grants c.self.invariant.whole none)

pub returns-clause-step : goal.returns-clause-step
returns-clause-step c =
    let more = c.keep.ensures.kept ∙ ap (λ h. h ++ kept_step c.args.event c.in_ok-reply.reply ∷ []) c.reserve.ensures.items in
    let event_is = c.event-2.ensures in
    content-stepped c.self.inside.state c.step.new.self c.self.inside.history.items c.keep.new.history.items c.self.inside.base c.self.inside.start c.self.inside.rolled c.self.inside.rolled_grants c.args.event c.in_ok-reply.reply
    c.self.invariant.stands.values c.self.invariant.at_start (rw event_is at c.in_ok-reply.ensures.state) more
    ∙ ap (λ (d : Content). stepped d c.args.event c.in_ok-reply.reply) c.self.view_is

pub invariant_of-self-2 : goal.invariant_of-self-2
invariant_of-self-2 c =
    let d : Content = content c.self.inside.state c.self.inside.history.items c.self.inside.base c.self.inside.start c.self.inside.rolled c.self.inside.rolled_grants in
    let none : is_full d ≡ false = ap is_full c.self.view_is ∙ sym c.if-is_full.ensures in
    let same = returns-clause-step c ∙ ap (λ (e : Content). stepped e c.args.event c.in_ok-reply.reply) (sym c.self.view_is) in
    let links = links_stay c.self.inside.state c.step.new.self c.args.event (rw c.event-2.ensures at c.in_ok-reply.ensures.state) in
    record {
      whole = subst (λ (e : Content). IsWhole e c.keep.new.grants) (sym same)
          (IsWhole-stepped d c.self.inside.grants c.keep.new.grants c.args.event c.in_ok-reply.reply c.self.invariant.whole none (rw c.event-2.ensures at c.in_ok-reply.ensures.reply) c.keep.ensures.counted);
      stands = stands_on c.self.inside.state c.step.new.self c.args.event c.self.inside.base (rw c.event-2.ensures at c.in_ok-reply.ensures.state) c.self.invariant.stands;
      at_start = c.self.invariant.at_start ∙ links;
    }

pub returns-clause-replays : goal.returns-clause-replays
returns-clause-replays c = (invariant_of-self-2 c).whole.replays

pub returns-clause-unchanged_by_refused : goal.returns-clause-unchanged_by_refused
returns-clause-unchanged_by_refused c = λ why is.
    refused-applied c.args.event c.in_ok-reply.reply c.self.inside.state _ why _ _ (rw c.event-2.ensures at c.in_ok-reply.ensures.reply) (rw c.event-2.ensures at c.in_ok-reply.ensures.state) refl refl is ∙ ap (λ (d : Content). d.state) c.self.view_is

pub returns-clause-sound : goal.returns-clause-sound
returns-clause-sound c = sound_by_replay _ (returns-clause-replays c)
