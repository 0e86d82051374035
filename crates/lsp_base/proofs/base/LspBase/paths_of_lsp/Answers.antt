use Rattle.lsp_base.proofs.Keys.{lsp-buckets}
use Rattle.lsp_base.proofs.base.LspBase.paths_of_lsp.Goals as goal

pub filter_in-requires : goal.filter_in-requires
filter_in-requires g c = lsp-buckets (g.T.Test.passes c.args.test.now) c.args.peer c.args.plsp _ _ c.buckets_of_lsp.ensures.first c.buckets_of_lsp.ensures.second c.requires
