use borrow.Follows.Closed.{read_of}
use Rattle.std.proofs.Common.{◌≡◌, ◌∙◌, ap, sym, refl, is_some}
use Rattle.std.specs.Map.{set_value}
use Rattle.std.specs.Option.{ghost_name_of}
use Rattle.slab.specs.Slab.{with_value}
use Rattle.slab.proofs.SlabLemmas.{Updates-with_value}
use Rattle.pce_engine.specs.Sessions.{is_peer}
use Rattle.pce_engine.specs.Places.{sessions_at}
use Rattle.engine_core.specs.declared.client.Client.{Client}
use Rattle.pce_engine.proofs.Placing.{found_session, session_at, replaced, placed_replaced, found_placed}
use Rattle.pce_engine.proofs.sessions.Sessions.get_mut.Goals as goal

pub returns-in_err-place : goal.returns-in_err-place
returns-in_err-place c =
    let clients = c.self.inside.clients in
    let places = c.self.inside.places.entries in
    let none = found_session (is_peer c.args.peer) clients places c.self.invariant ∙ ap (session_at clients) (sym c.in_err-place.ensures) in
    rw (c.from_residual.ensures, ← c.self.view_is) (refl, record { writes_back = tt; value = sym none })

pub invariant_of-self-lent : goal.invariant_of-self-lent
invariant_of-self-lent c r =
    let clients = c.self.inside.clients in
    let places = c.self.inside.places.entries in
    let place = c.in_ok-place.place in
    let holds = found_placed (is_peer c.args.peer) clients place places c.self.invariant (sym c.in_ok-place.ensures) in
    (λ w. (let updates = Updates-with_value clients place w holds in placed_replaced clients (with_value clients place w) place updates.others (ap is_some updates.changed) places c.self.invariant), c.self.invariant)

pub returns : goal.returns
returns c =
    let clients = c.self.inside.clients in
    let places = c.self.inside.places.entries in
    let place = c.in_ok-place.place in
    let test = is_peer c.args.peer in
    let holds = found_placed test clients place places c.self.invariant (sym c.in_ok-place.ensures) in
    let written : (w : Client) → sessions_at (with_value clients place w) places ≡ set_value test (sessions_at clients places) w =
    λ w. let updates = Updates-with_value clients place w holds in replaced test clients (with_value clients place w) place w updates.others updates.changed places c.self.invariant (sym c.in_ok-place.ensures) in
    rw (← c.self.view_is) (
      λ t. read_of (ghost_name_of c.get_mut.result) (λ (w : Client). written w t) (sessions_at clients places),
      record { writes_back = tt; value = c.get_mut.ensures.value ∙ sym (found_session test clients places c.self.invariant ∙ ap (session_at clients) (sym c.in_ok-place.ensures)) },
    )
