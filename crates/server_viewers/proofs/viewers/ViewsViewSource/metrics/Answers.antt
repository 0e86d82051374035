use Rattle.history_tokens.proofs.Beginnings.{prefix_same, prefix_trans}
use Rattle.server_viewers.proofs.Stating.{metrics_earlier}
use Rattle.server_viewers.proofs.viewers.ViewsViewSource.metrics.Goals as goal

pub invariant_of-self : goal.invariant_of-self
invariant_of-self g c = prefix_trans _ c.self.inside.front _ c.self.invariant c.answer_metrics.ensures.begins

pub invariant_of-self-2 : goal.invariant_of-self-2
invariant_of-self-2 g c = prefix_same _ _ c.of.ensures

pub returns-clause-ok : goal.returns-clause-ok
returns-clause-ok g c =
    let given = c.in_ok-answer_metrics.ensures.answer in
    rw (c.of.ensures, ← c.self.view_is) (given.0, (prefix_trans _ c.self.inside.front _ c.self.invariant c.answer_metrics.ensures.begins, metrics_earlier _ _ _ _ _ c.self.invariant given.1), given.2)
