use Rattle.std.proofs.Common.{nat_eq, not, rules}
use Rattle.indexmap.proofs.CallerLemmas.{filter-RetainsPairs}
use Rattle.server_base.proofs.Downs.{forgets}
use Rattle.server_base.proofs.down_paths.DownPaths.forget.Goals as goal

pub returns : goal.returns
returns c =
    forgets c.args.self.now (record { paths = c.retain.new.self }) c.args.peer
    (filter-RetainsPairs _ (λ e. not (nat_eq e.0.peer c.args.peer)) _ (λ k v b w g t. search rules) _ _ c.retain.ensures.filtered)
