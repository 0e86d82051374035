use Rattle.std.proofs.Common.{ℕ, List}
use Rattle.std.proofs.lemmas.Result.{IfOk-weaker}
use Rattle.engine_core.specs.Deeds.{Deed}
use Rattle.server_connections.specs.declared.observed_store.ObservedStore.{ObservedStore}
use Rattle.server_connections.proofs.Rooms.{room_within}
use Rattle.server_connections.proofs.observed_store.ObservedStoreServerStore.roll_if_full.Goals as goal

pub returns-clause-rolled : goal.returns-clause-rolled
returns-clause-rolled g c =
    let T : Type 0 = ObservedStore g.row.R.Denot g.row.B.Denot g.row.D.Denot in
    let self : T = c.args.self.now in
    IfOk-weaker c.roll_if_full-rolled.result _ _
    (λ r h. room_within g.D.Store.moves g.D.Store.is_full g.D.Store.rolls (λ (o : T) (made : List Deed) (n : T). g.D.Store.moves o.store made n.store) (λ (o : T). g.D.Store.is_full o.store) (λ (o : T) (steps : ℕ) (n : T). g.D.Store.rolls o.store steps n.store)
    self.store c.roll_if_full-rolled.new.self self (record self { store = c.roll_if_full-rolled.new.self }) (λ s. record self { store = s }) r (λ m. m) (λ s m. m) (λ s f. f) (λ s steps m. m) h)
    c.roll_if_full-rolled.ensures.rolled
