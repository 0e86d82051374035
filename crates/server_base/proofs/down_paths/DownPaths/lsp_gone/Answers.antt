use Rattle.std.proofs.Common.{not, rules}
use Rattle.indexmap.proofs.CallerLemmas.{filter-RetainsPairs}
use Rattle.server_base.specs.DownPaths.{is_of_lsp}
use Rattle.server_base.proofs.Downs.{forgets_lsp}
use Rattle.server_base.proofs.down_paths.DownPaths.lsp_gone.Goals as goal

pub returns : goal.returns
returns c =
    forgets_lsp c.args.self.now (record { paths = c.retain.new.self }) c.args.peer c.args.plsp
    (filter-RetainsPairs _ (λ e. not (is_of_lsp c.args.peer c.args.plsp e.0)) _ (λ k v b w g t. search rules) _ _ c.retain.ensures.filtered)
