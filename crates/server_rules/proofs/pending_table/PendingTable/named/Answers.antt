use Rattle.std.proofs.Common.{◌∙◌, Option, Some, refl, sym, ap}
use Rattle.server_rules.specs.declared.pending.PendingState.{PendingState}
use Rattle.server_rules.specs.declared.pending.PendingHappening.TheVariants.{Named}
use Rattle.server_rules.specs.Pendings.{after_own, known_of, router_in}
use Rattle.server_rules.proofs.PendingTables.{edits, few_states, stays}
use Rattle.server_rules.proofs.pending_table.PendingTable.named.Goals as goal

pub returns-in-Some : goal.returns-in-Some
returns-in-Some c =
    edits c.args.self.now c.write.new.self (λ few. few_states c.args.self.now c.write.new.self few c.write.ensures.few c.write.ensures.routers) (Named c.args.of c.args.now_ms) c.args.of c.in-Some.state c.named.result (λ p. refl) c.write.ensures.routers c.write.ensures.written (sym c.in-Some.ensures)
    (ap (λ (t : PendingState). known_of (router_in c.args.self.now c.args.of.peer) (Some t)) c.named.ensures) (ap (λ (t : PendingState). t.session) c.named.ensures)

pub returns-in_default : goal.returns-in_default
returns-in_default c =
    stays c.args.self.now c.args.self.now (λ few. few) (Named c.args.of c.args.now_ms) c.args.of (λ p. refl) (λ peer. refl) (λ q. refl)
    (ap (λ (s : Option PendingState). known_of (router_in c.args.self.now c.args.of.peer) s) (sym c.in_default.ensures)
    ∙ ap (λ (s : Option PendingState). after_own (Named c.args.of c.args.now_ms) (known_of (router_in c.args.self.now c.args.of.peer) s)) c.in_default.ensures)
