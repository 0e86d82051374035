use Rattle.server_base.proofs.lsp_names.LspNames.gone.Goals as goal

pub returns : goal.returns
returns c = λ q. c.swap_remove-name.ensures.updates.0 q
