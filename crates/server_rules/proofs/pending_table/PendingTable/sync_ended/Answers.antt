use Rattle.std.proofs.Common.{◌||◌, refl, sym, ◌∙◌}
use Rattle.server_rules.specs.declared.pending.RouterKnown.{RouterKnown}
use Rattle.server_rules.specs.declared.pending.PendingHappening.TheVariants.{SyncEnded}
use Rattle.server_rules.proofs.PendingTables.{comes_in_sync, few_routers, known_router, unknown_router}
use Rattle.server_rules.proofs.pending_table.PendingTable.sync_ended.Goals as goal
use Rattle.server_rules.specs.Pendings.{nobody}

pub returns-in-Some : goal.returns-in-Some
returns-in-Some c =
    known_router c.args.self.now c.write_router.new.self (λ few. few_routers c.args.self.now c.write_router.new.self few c.write_router.ensures.few c.write_router.ensures.pending) (SyncEnded c.args.peer) c.args.peer (λ (r : RouterKnown). record r { in_sync = r.is_up || r.in_sync }) c.in-Some.router c.synchronized.result (λ p. refl) (λ r. refl) (comes_in_sync c.args.peer)
    (sym c.get.ensures.value ∙ sym c.copied.ensures ∙ c.in-Some.is) c.synchronized.ensures c.write_router.ensures.written c.write_router.ensures.pending

pub returns-in_default : goal.returns-in_default
returns-in_default c =
    unknown_router c.args.self.now (SyncEnded c.args.peer) c.args.peer (λ p. refl) (sym c.get.ensures.value ∙ sym c.copied.ensures ∙ c.in_default.is) (comes_in_sync c.args.peer nobody)
