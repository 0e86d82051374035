use Rattle.std.proofs.Common.{subst}
use Rattle.server_base.specs.LspNames.{Hears, heard_in}
use Rattle.server_base.specs.declared.lsp_names.Heard.{Heard}
use Rattle.server_rules.specs.declared.retry.RouterLsp.{RouterLsp}
use Rattle.server_base.proofs.lsp_names.LspNames.hear.Goals as goal

pub returns : goal.returns
returns c =
    subst (λ (of : RouterLsp). Hears (heard_in c.args.report.now) of c.args.self.now c.note.new.self) c.lsp_of.ensures
    (subst (λ (h : Heard). Hears h c.lsp_of.result c.args.self.now c.note.new.self) c.heard_in.ensures c.note.ensures)
