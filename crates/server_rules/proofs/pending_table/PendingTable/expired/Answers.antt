use Rattle.std.proofs.Common.{nat_eq, not, rules, arith}
use Rattle.indexmap.proofs.CallerLemmas.{filter-RetainsPairs}
use Rattle.server_rules.proofs.PendingTables.{forgets}
use Rattle.server_rules.proofs.pending_table.PendingTable.expired.Goals as goal

pub returns : goal.returns
returns c =
    forgets c.args.self.now (record { routers = c.swap_remove-router.new.self; pending = c.retain.new.self })
    (λ few. (omega (arith, c.retain.ensures.bound, few.0), omega (arith, c.swap_remove-router.ensures.len, few.1))) c.args.peer (λ q. c.swap_remove-router.ensures.updates.0 q)
    (filter-RetainsPairs _ (λ e. not (nat_eq e.0.peer c.args.peer)) _ (λ k v b w g t. search rules) _ _ c.retain.ensures.filtered)
