use Rattle.std.proofs.Common.{◌+◌, subst, sym, ap, ◌∙◌, arith}
use Rattle.history_core.specs.Histories.{Content, IsWhole, content, rolled_up}
use Rattle.history_core.proofs.Replaying.{known_stands}
use Rattle.history_core.proofs.Rolling.{IsWhole-rolled_up, content-rolled_up}
use Rattle.history_core.proofs.database.Database.take_rolled.Goals as goal

-- contracts see the database as it is after the roll
pub returns-clause-rolled : goal.returns-clause-rolled
returns-clause-rolled c =
    content-rolled_up c.self.inside.state c.self.inside.history.items c.replace.new.dest.items c.self.inside.base c.in_ok-base.base c.self.inside.start c.self.inside.rolled c.self.inside.rolled_grants (c.self.inside.rolled + c.len.result) c.self.inside.grants
    c.in_ok-base.ensures (ap (λ v. v.items) c.replace.ensures.after ∙ c.new.ensures.items) (omega (arith, c.len.ensures)) c.self.invariant.whole.counted
    ∙ ap rolled_up c.self.view_is

pub invariant_of-self : goal.invariant_of-self
invariant_of-self c =
    let d : Content = content c.self.inside.state c.self.inside.history.items c.self.inside.base c.self.inside.start c.self.inside.rolled c.self.inside.rolled_grants in
    let same = content-rolled_up c.self.inside.state c.self.inside.history.items c.replace.new.dest.items c.self.inside.base c.in_ok-base.base c.self.inside.start c.self.inside.rolled c.self.inside.rolled_grants (c.self.inside.rolled + c.len.result) c.self.inside.grants
    c.in_ok-base.ensures (ap (λ v. v.items) c.replace.ensures.after ∙ c.new.ensures.items) (omega (arith, c.len.ensures)) c.self.invariant.whole.counted in
    record {
      whole = subst (λ (e : Content). IsWhole e c.self.inside.grants) (sym same) (IsWhole-rolled_up d c.self.inside.grants c.self.invariant.whole);
      stands = known_stands c.self.inside.state c.in_ok-base.base c.in_ok-base.ensures c.what_stands_may_stand.ensures;
      at_start = c.self.invariant.at_start;
    }

pub returns-clause-replays : goal.returns-clause-replays
returns-clause-replays c = (invariant_of-self c).whole.replays
