use Rattle.std.proofs.Common.{ℕ, List}
use Rattle.std.proofs.lemmas.Result.{IfOk-weaker}
use Rattle.engine_core.specs.Deeds.{Deed}
use Rattle.seated_store.specs.Seating.{SeatedMoves, SeatedRolls, WasFull}
use Rattle.seated_store.specs.declared.seated.Seated.{Seated}
use Rattle.server_operators.specs.declared.reload_log.ReloadLog.{ReloadLog}
use Rattle.server_operators.proofs.Rooms.{room_within}
use Rattle.server_operators.proofs.reload_log.ReloadLogServerStore.roll_if_full.Goals as goal

pub returns-clause-rolled : goal.returns-clause-rolled
returns-clause-rolled g c =
    let text = g.B.StepNumbers.text in
    let S : Type 0 = Seated g.row.R.Denot g.row.B.Denot in
    let T : Type 0 = ReloadLog g.row.R.Denot g.row.B.Denot in
    let moves : S → List Deed → S → Type 0 = λ o made n. SeatedMoves text o.seat o.calls.items made n.seat n.calls.items in
    let full : S → Type 0 = λ s. WasFull text s.seat in
    let rolls : S → ℕ → S → Type 0 = λ o steps n. SeatedRolls text o.seat o.calls.items steps n.seat n.calls.items in
    let self : T = c.args.self.now in
    IfOk-weaker c.roll_if_full.result _ _
    (λ r h. room_within moves full rolls (λ (o : T) (made : List Deed) (n : T). moves o.store made n.store) (λ (o : T). full o.store) (λ (o : T) (steps : ℕ) (n : T). rolls o.store steps n.store)
    self.store c.roll_if_full.new.self self (record self { store = c.roll_if_full.new.self }) (λ s. record self { store = s }) r (λ m. m) (λ s m. m) (λ s f. f) (λ s steps m. m) h)
    c.roll_if_full.ensures.rolled
