use Rattle.std.proofs.Common.{rules}
use Rattle.te_base.proofs.Values.{set-slice_set}
use Rattle.te_base.proofs.reload.set_listed_values.Goals as goal

pub returns-clause-links : goal.returns-clause-links
returns-clause-links c = rw (c.replace.ensures.items, c.with_values.ensures.link) (search (rules, c.as_slice.ensures, c.index-as_slice-number.is, set-slice_set c.args.links.now.items c.args.number c.args.values c.index-as_slice-number.result c.requires))
