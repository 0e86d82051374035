use Rattle.server_base.proofs.lsp_names.LspNames.named.Goals as goal

pub returns-clause-ok : goal.returns-clause-ok
returns-clause-ok c = λ q. c.in_ok-insert.ensures.updates.0 q
