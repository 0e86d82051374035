use Rattle.std.proofs.Common.{◌≡◌, Some, is_some, false, refl, sym, ap, ◌∙◌, arith}
use Rattle.server_rules.specs.declared.pending.RouterKnown.{RouterKnown}
use Rattle.server_rules.specs.declared.pending.PendingState.{PendingState}
use Rattle.server_rules.specs.declared.pending.PendingHappening.TheVariants.{Made}
use Rattle.indexmap.specs.IndexMap.{get}
use Rattle.server_rules.specs.Pendings.{is_same, known_of, router_in}
use Rattle.server_rules.proofs.Keyeds.{still_few}
use Rattle.server_rules.proofs.PendingTables.{own, fresh, stands_on, stays}
use Rattle.server_rules.proofs.pending_table.PendingTable.made.Goals as goal

pub returns-then-is_some-clause-ok : goal.returns-then-is_some-clause-ok
returns-then-is_some-clause-ok c =
    stays c.args.self.now c.args.self.now (λ few. few) (Made c.args.of c.args.now_ms) c.args.of (λ p. refl) (λ peer. refl) (λ q. refl)
    (stands_on c.args.now_ms c.args.of (router_in c.args.self.now c.args.of.peer) (get is_same c.args.self.now.pending c.args.of) (ap is_some (sym c.state.ensures) ∙ sym c.is_some.ensures ∙ c.if-is_some.true))

pub returns-clause-ok : goal.returns-clause-ok
returns-clause-ok c =
    let old = c.args.self.now in
    let none : is_some (get is_same old.pending c.args.of) ≡ false = ap is_some (sym c.state.ensures) ∙ sym c.is_some.ensures ∙ c.if-is_some.false in
    let is : c.made_at-state.result ≡ record { since_ms = c.args.now_ms; session = (router_in old c.args.of.peer).sessions; is_covered = false } =
    c.made_at-state.ensures ∙ ap (λ (r : RouterKnown). record { since_ms = c.args.now_ms; session = r.sessions; is_covered = false }) c.router.ensures in
    let session : c.made_at-state.result.session ≡ (router_in old c.args.of.peer).sessions = ap (λ (t : PendingState). t.session) is in
    own old (record old { pending = c.insert.new.self })
    (λ few. (still_few c.in_ok-insert.field-0 _ _ 32768 c.in_ok-insert.ensures.len (λ none. omega arith) few.0, few.1)) (Made c.args.of c.args.now_ms) c.args.of (Some c.made_at-state.result) (λ peer. refl) (λ p. refl)
    (λ q. c.in_ok-insert.ensures.updates.0 q)
    (ap (λ (t : PendingState). known_of (router_in old c.args.of.peer) (Some t)) is ∙ fresh c.args.now_ms c.args.of (router_in old c.args.of.peer) (get is_same old.pending c.args.of) none)
    (λ all. omega (arith, session))
