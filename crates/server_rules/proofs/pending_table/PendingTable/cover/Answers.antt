use Rattle.std.proofs.Common.{Option, Some, refl, sym, ap, ◌∙◌}
use Rattle.server_rules.specs.declared.pending.PendingState.{PendingState}
use Rattle.server_rules.specs.declared.pending.PendingHappening.TheVariants.{Covered, Uncovered}
use Rattle.server_rules.specs.Pendings.{after_own, known_of, router_in}
use Rattle.server_rules.proofs.PendingTables.{edits, few_states, stays}
use Rattle.server_rules.proofs.pending_table.PendingTable.cover.Goals as goal

pub returns-in-Some-clause-covered : goal.returns-in-Some-clause-covered
returns-in-Some-clause-covered c = λ yes.
    edits c.args.self.now c.write.new.self (λ few. few_states c.args.self.now c.write.new.self few c.write.ensures.few c.write.ensures.routers) (Covered c.args.of) c.args.of c.in-Some.state c.covered.result (λ p. refl) c.write.ensures.routers c.write.ensures.written (sym c.in-Some.ensures)
    (ap (λ (t : PendingState). known_of (router_in c.args.self.now c.args.of.peer) (Some t)) (c.covered.ensures ∙ ap (λ b. record c.in-Some.state { is_covered = b }) yes)) (ap (λ (t : PendingState). t.session) c.covered.ensures)

pub returns-in-Some-clause-uncovered : goal.returns-in-Some-clause-uncovered
returns-in-Some-clause-uncovered c = λ no.
    edits c.args.self.now c.write.new.self (λ few. few_states c.args.self.now c.write.new.self few c.write.ensures.few c.write.ensures.routers) (Uncovered c.args.of) c.args.of c.in-Some.state c.covered.result (λ p. refl) c.write.ensures.routers c.write.ensures.written (sym c.in-Some.ensures)
    (ap (λ (t : PendingState). known_of (router_in c.args.self.now c.args.of.peer) (Some t)) (c.covered.ensures ∙ ap (λ b. record c.in-Some.state { is_covered = b }) no)) (ap (λ (t : PendingState). t.session) c.covered.ensures)

pub returns-in_default-clause-covered : goal.returns-in_default-clause-covered
returns-in_default-clause-covered c = λ yes.
    stays c.args.self.now c.args.self.now (λ few. few) (Covered c.args.of) c.args.of (λ p. refl) (λ peer. refl) (λ q. refl)
    (ap (λ (s : Option PendingState). known_of (router_in c.args.self.now c.args.of.peer) s) (sym c.in_default.ensures)
    ∙ ap (λ (s : Option PendingState). after_own (Covered c.args.of) (known_of (router_in c.args.self.now c.args.of.peer) s)) c.in_default.ensures)

pub returns-in_default-clause-uncovered : goal.returns-in_default-clause-uncovered
returns-in_default-clause-uncovered c = λ no.
    stays c.args.self.now c.args.self.now (λ few. few) (Uncovered c.args.of) c.args.of (λ p. refl) (λ peer. refl) (λ q. refl)
    (ap (λ (s : Option PendingState). known_of (router_in c.args.self.now c.args.of.peer) s) (sym c.in_default.ensures)
    ∙ ap (λ (s : Option PendingState). after_own (Uncovered c.args.of) (known_of (router_in c.args.self.now c.args.of.peer) s)) c.in_default.ensures)
