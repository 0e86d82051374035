use Rattle.std.proofs.Common.{nat_eq, not, rules, arith}
use Rattle.server_rules.specs.declared.retry.RouterLsp.{RouterLsp}
use Rattle.server_rules.specs.declared.retry.RetryState.{RetryState}
use Rattle.server_rules.specs.Retries.{is_same_lsp}
use Rattle.server_rules.proofs.Kept.{lookup_kept}
use Rattle.server_rules.proofs.RetryTables.{forgotten, lsp-eq, lsp_laws, of_all}
use Rattle.server_rules.proofs.retry_table.RetryTable.forget.Goals as goal

pub returns : goal.returns
returns c = λ what is.
    let keep = λ (q : RouterLsp) (k : RetryState). not (nat_eq q.peer c.args.peer) in
    let put = λ (q : RouterLsp) (k : RetryState). k in
    of_all c.args.self.now (record { lsps = c.retain.new.self }) what (λ few. omega (arith, c.retain.ensures.bound)) c.retain.ensures.unique keep put
    (λ unique q. lookup_kept is_same_lsp lsp_laws lsp-eq _ keep put _ (λ k v b w g t. search rules) q _ _ unique c.retain.ensures.filtered)
    (forgotten what c.args.peer is)
