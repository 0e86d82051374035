use Rattle.std.proofs.Common.{◌≡◌, ◌+◌, true, false, refl, sym, ap, ◌∙◌, arith}
use Rattle.server_rules.specs.declared.pending.RouterKnown.{RouterKnown}
use Rattle.server_rules.specs.declared.pending.PendingHappening.TheVariants.{Up}
use Rattle.server_rules.specs.Pendings.{known_of, router_in}
use Rattle.server_rules.proofs.Keyeds.{still_few}
use Rattle.server_rules.proofs.PendingTables.{of_router, comes_up, set_router}
use Rattle.server_rules.proofs.pending_table.PendingTable.up.Goals as goal

pub returns-clause-ok : goal.returns-clause-ok
returns-clause-ok c =
    let old = c.args.self.now in
    let new = record old { routers = c.insert.new.self } in
    let is : c.in-Some.router ≡ record { sessions = (router_in old c.args.peer).sessions + 1; is_up = true; in_sync = false } =
    c.in-Some.ensures ∙ ap (λ (r : RouterKnown). record { sessions = r.sessions + 1; is_up = true; in_sync = false }) c.router.ensures in
    let more : c.in-Some.router.sessions ≡ (router_in old c.args.peer).sessions + 1 = ap (λ (r : RouterKnown). r.sessions) is in
    of_router old new
    (λ few. (few.0, still_few c.in_ok-insert.field-0 _ _ 64 c.in_ok-insert.ensures.len (λ none. c.is_full_for.ensures.room c.if-is_full_for.false (sym c.in_ok-insert.ensures.old ∙ none)) few.1)) (Up c.args.peer) c.args.peer c.in-Some.router (λ p. refl) (set_router old new c.args.peer c.in-Some.router (λ q. c.in_ok-insert.ensures.updates.0 q)) (λ p. refl)
    (λ s fits. ap (λ (r : RouterKnown). known_of r s) is ∙ comes_up c.args.peer (router_in old c.args.peer) s fits) (omega (arith, more))
