use Rattle.std.proofs.Common.{refl, sym, subst}
use Rattle.server_base.specs.LspNames.{Hears}
use Rattle.server_base.specs.declared.lsp_names.Heard.{Heard}
use Rattle.server_base.proofs.lsp_names.LspNames.note.Goals as goal

pub returns-in-Gone : goal.returns-in-Gone
returns-in-Gone c = subst (λ (h : Heard). Hears h c.args.of c.args.self.now c.gone.new.self) (sym c.in-Gone.is) c.gone.ensures

pub returns-in-Named : goal.returns-in-Named
returns-in-Named c = subst (λ (h : Heard). Hears h c.args.of c.args.self.now c.renamed.new.self) (sym c.in-Named.is) c.renamed.ensures

pub returns-in-Nothing : goal.returns-in-Nothing
returns-in-Nothing c = subst (λ (h : Heard). Hears h c.args.of c.args.self.now c.args.self.now) (sym c.in-Nothing.is) (λ q. refl)
