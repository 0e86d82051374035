use Rattle.std.proofs.Common.{rules}
use Rattle.te_base.proofs.Values.{set-slice_set}
use Rattle.te_base.proofs.reload.set_values.Goals as goal

pub returns-clause-links : goal.returns-clause-links
returns-clause-links c = rw (c.with_values.ensures.link) (search (rules, c.index-links-number.is, set-slice_set c.args.links.now c.args.number c.args.values c.index-links-number.result c.requires))
