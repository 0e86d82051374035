use Rattle.std.proofs.Common.{nat_eq, not, rules}
use Rattle.indexmap.proofs.CallerLemmas.{filter-RetainsPairs}
use Rattle.server_base.proofs.Named.{forgets_names}
use Rattle.server_base.proofs.lsp_names.LspNames.forget.Goals as goal

pub returns : goal.returns
returns c =
    forgets_names c.args.self.now (record c.args.self.now { names = c.retain.new.self }) c.args.peer
    (filter-RetainsPairs _ (λ e. not (nat_eq e.0.peer c.args.peer)) _ (λ k v b w g t. search rules) _ _ c.retain.ensures.filtered)
