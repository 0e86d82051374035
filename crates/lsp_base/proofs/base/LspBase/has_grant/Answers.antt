use Rattle.std.proofs.Common.{◌∙◌}
use Rattle.lsp_base.proofs.Keys.{grant_picked}
use Rattle.lsp_base.proofs.base.LspBase.has_grant.Goals as goal

pub returns : goal.returns
returns c = c.any_path_of_lsp.ensures ∙ grant_picked c.args.peer c.args.plsp c.args.self.now.content.paths
