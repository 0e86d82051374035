use Rattle.std.proofs.Common.{◌∙◌, ap, refl, subst, sym}
use Rattle.te_base.specs.Values.{values_in}
use Rattle.te_base.proofs.Values.{values_in_all}
use Rattle.history_core.specs.Histories.{Content, MayBegin, content}
use Rattle.history_core.proofs.Replaying.{base_begins}
use Rattle.history_core.proofs.database.Database.base.Goals as goal

pub returns-clause-values : goal.returns-clause-values
returns-clause-values c = sym (values_in_all c.self.inside.state.te c.self.inside.base.values c.self.invariant.stands.values) ∙ ap (λ (d : Content). values_in d.base.te) c.self.view_is

pub returns-clause-begins : goal.returns-clause-begins
returns-clause-begins c =
    let d : Content = content c.self.inside.state c.self.inside.history.items c.self.inside.base c.self.inside.start c.self.inside.rolled c.self.inside.rolled_grants in
    subst (λ (e : Content). MayBegin e.state.te c.self.inside.base e.rolled e.rolled_grants) c.self.view_is
    (base_begins c.self.inside.state.te c.self.inside.base d refl c.self.invariant.whole.replays c.self.invariant.whole.taken c.self.invariant.stands)
