use Rattle.std.proofs.Common.{true, rules, arith}
use Rattle.server_rules.specs.declared.retry.RouterLsp.{RouterLsp}
use Rattle.server_rules.specs.declared.retry.RetryState.{RetryState}
use Rattle.server_rules.specs.Retries.{begun_anew, is_same_lsp}
use Rattle.server_rules.proofs.Kept.{lookup_kept}
use Rattle.server_rules.proofs.RetryTables.{anew, lsp-eq, lsp_laws, of_all}
use Rattle.server_rules.proofs.retry_table.RetryTable.begin_anew.Goals as goal

pub returns : goal.returns
returns c = λ what is.
    let keep = λ (q : RouterLsp) (k : RetryState). true in
    let put = λ (q : RouterLsp) (k : RetryState). begun_anew k in
    of_all c.args.self.now (record { lsps = c.retain.new.self }) what (λ few. omega (arith, c.retain.ensures.bound)) c.retain.ensures.unique keep put
    (λ unique q. lookup_kept is_same_lsp lsp_laws lsp-eq _ keep put _ (λ k v b w g t. search rules) q _ _ unique c.retain.ensures.filtered)
    (anew what is)
