use Rattle.std.proofs.Common.{◌∙◌, nat_eq, not, rules, arith}
use Rattle.indexmap.specs.IndexMap.{get}
use Rattle.server_rules.specs.declared.retry.RouterLsp.{RouterLsp}
use Rattle.server_rules.specs.declared.peer_errors.PcErr.{PcErr}
use Rattle.server_rules.specs.Retries.{is_same_lsp}
use Rattle.server_rules.proofs.Kept.{lookup_kept}
use Rattle.server_rules.proofs.ErrorTables.{adds, forgotten}
use Rattle.server_rules.proofs.RetryTables.{lsp-eq, lsp_laws}
use Rattle.server_rules.proofs.peer_errors.PeerErrors.forget.Goals as goal

pub returns : goal.returns
returns c = λ what is.
    let keep = λ (q : RouterLsp) (e : PcErr). not (nat_eq q.peer c.args.peer) in
    let put = λ (q : RouterLsp) (e : PcErr). e in
    adds c.args.self.now (record { errors = c.retain.new.self }) what (λ few. omega (arith, c.retain.ensures.bound)) c.retain.ensures.unique
    (λ unique q. lookup_kept is_same_lsp lsp_laws lsp-eq _ keep put _ (λ k v b w g t. search rules) q _ _ unique c.retain.ensures.filtered
    ∙ forgotten what c.args.peer is q (get is_same_lsp c.args.self.now.errors q))
