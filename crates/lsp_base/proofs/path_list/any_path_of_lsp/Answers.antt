use Rattle.lsp_base.proofs.Keys.{lsp-bucket}
use Rattle.lsp_base.proofs.path_list.any_path_of_lsp.Goals as goal

pub any-requires : goal.any-requires
any-requires g c = lsp-bucket (g.T.Test.passes c.args.test.now) c.args.peer c.args.plsp _ c.bucket_of_lsp.ensures
