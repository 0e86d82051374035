use Rattle.std.proofs.Common.{ℕ, List, refl, sym}
use Rattle.std.proofs.lemmas.List.{append-nil}
use Rattle.std.proofs.lemmas.Result.{IfOk-weaker}
use Rattle.history_seats.specs.Receipts.{SeatContent}
use Rattle.engine_core.specs.Deeds.{Deed}
use Rattle.seated_store.specs.Seating.{SeatedMoves, SeatedRolls, WasFull}
use Rattle.seated_store.specs.declared.seated.Seated.{Seated}
use Rattle.seated_store.proofs.Rooms.{makes_room}
use Rattle.seated_store.proofs.seated.SeatedServerStore.roll_if_full.Goals as goal

pub returns-clause-rolled : goal.returns-clause-rolled
returns-clause-rolled g c =
    let text = g.B.StepNumbers.text in
    let T : Type 0 = Seated g.row.R.Denot g.row.B.Denot in
    let self : T = c.args.self.now in
    let new : SeatContent = c.roll_if_full.new.seat in
    let stands : SeatContent → T = λ s. record self { seat = record self.seat { now = s } } in
    IfOk-weaker c.roll_if_full.result _ _
    (λ r h. makes_room (λ (o : T) (made : List Deed) (n : T). SeatedMoves text o.seat o.calls.items made n.seat n.calls.items) (λ (s : T). WasFull text s.seat) (λ (o : T) (steps : ℕ) (n : T). SeatedRolls text o.seat o.calls.items steps n.seat n.calls.items) text self (stands new) stands self.seat.now new
    r
    (λ sees. record { same_loan = refl; received = sees; added = sym (append-nil self.calls.items) })
    (λ past begins. record { same_loan = refl; received = record { begins = begins; same = refl }; added = sym (append-nil self.calls.items) })
    (λ s is. is)
    (λ s steps rolled. record { same_loan = refl; same_calls = refl; rolled = rolled })
    h)
    c.roll_if_full.ensures.rolled
