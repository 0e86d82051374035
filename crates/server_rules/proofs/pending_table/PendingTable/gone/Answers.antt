use Rattle.std.proofs.Common.{None, refl, arith}
use Rattle.server_rules.specs.declared.pending.PendingHappening.TheVariants.{Gone}
use Rattle.server_rules.proofs.PendingTables.{own}
use Rattle.server_rules.proofs.pending_table.PendingTable.gone.Goals as goal

pub returns : goal.returns
returns c =
    own c.args.self.now (record c.args.self.now { pending = c.swap_remove-state.new.self }) (λ few. (omega (arith, c.swap_remove-state.ensures.len, few.0), few.1)) (Gone c.args.of) c.args.of None (λ peer. refl) (λ p. refl)
    (λ q. c.swap_remove-state.ensures.updates.0 q) refl (λ all. tt)
