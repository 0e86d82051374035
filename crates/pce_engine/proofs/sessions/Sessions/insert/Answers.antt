use Rattle.std.proofs.Common.{◌∙◌, sym, ap, subst, Some}
use Rattle.std.specs.BTreeMap.{insert_entry}
use Rattle.std.specs.Map.{lookup}
use Rattle.std.specs.Ordering.{nat_cmp}
use Rattle.slab.specs.Slab.{Updates}
use Rattle.pce_engine.specs.Sessions.{is_peer}
use Rattle.pce_engine.specs.Places.{sessions_at, ArePlaced}
use Rattle.pce_engine.proofs.Placing.{IsAdded, roomier, added_in_room}
use Rattle.pce_engine.proofs.sessions.Sessions.insert.Goals as goal

pub invariant_of-self : goal.invariant_of-self
invariant_of-self c = roomier c.self.inside.clients c.reserve.new.self c.reserve.ensures.rest_kept c.self.inside.places.entries c.self.invariant

pub invariant_of-self-in_err-_none : goal.invariant_of-self-in_err-_none
invariant_of-self-in_err-_none c =
    subst (λ places. ArePlaced c.reserve.new.self places) (sym c.in_err-_none.ensures.err)
    (roomier c.self.inside.clients c.reserve.new.self c.reserve.ensures.rest_kept c.self.inside.places.entries c.self.invariant)

-- the session is at the place that was vacant
abbrev comes : (c : goal.After-insert_reserved-place) → IsAdded c.self.inside.clients c.insert_reserved-place.new.self c.self.inside.places.entries c.args.peer c.vacant_key-place.result c.args.client
comes c =
    let key = c.insert_reserved-place.ensures.key ∙ sym c.vacant_key-place.ensures.value in
    let updates = subst (λ at. Updates c.reserve.new.self c.insert_reserved-place.new.self at (Some c.args.client)) key c.insert_reserved-place.ensures.updates in
    let none = ap (lookup (is_peer c.args.peer)) c.self.view_is ∙ c.requires in
    added_in_room c.self.inside.clients c.reserve.new.self c.insert_reserved-place.new.self c.args.peer c.vacant_key-place.result c.args.client
    c.reserve.ensures.rest_kept updates c.vacant_key-place.ensures.vacant c.self.inside.places.entries c.self.invariant none

pub invariant_of-self-2 : goal.invariant_of-self-2
invariant_of-self-2 c = subst (λ places. ArePlaced c.insert_reserved-place.new.self places) (sym c.in_ok-_none.ensures.entries) (comes c).1

pub returns : goal.returns
returns c =
    ap (λ places. sessions_at c.insert_reserved-place.new.self places) c.in_ok-_none.ensures.entries ∙ (comes c).0
    ∙ ap (λ sessions. insert_entry nat_cmp sessions c.args.peer c.args.client) c.self.view_is
