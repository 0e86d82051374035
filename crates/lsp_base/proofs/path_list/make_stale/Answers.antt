use Rattle.lsp_base.proofs.Keys.{stale-bucket}
use Rattle.lsp_base.proofs.path_list.make_stale.Goals as goal

pub edit_each-requires : goal.edit_each-requires
edit_each-requires c = stale-bucket c.args.peer
