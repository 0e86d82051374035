use Rattle.lsp_base.proofs.PathLists.{same_links-lengths}
use Rattle.lsp_base.proofs.names.is_same_name.Goals as goal

pub returns-then-a-b : goal.returns-then-a-b
returns-then-a-b c = same_links-lengths _ _ c.if-a-b.true
