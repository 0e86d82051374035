use Rattle.toml.specs.View.{table_view}
use Rattle.te_base.proofs.Soundness.{base_of_tree-sound}
use Rattle.te_base.specs.Views.{base_in}
use Rattle.te_base.proofs.base.TeBase.read_document.Goals as goal

pub invariant_of-result : goal.invariant_of-result
invariant_of-result c = base_of_tree-sound (table_view c.args.document.now) (base_in c.in_ok-parts.parts) c.in_ok-parts.ensures
