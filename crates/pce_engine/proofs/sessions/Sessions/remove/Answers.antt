use Rattle.std.proofs.Common.{◌≡◌, ◌∙◌, sym, ap, subst, None, Some}
use Rattle.std.specs.Map.{lookup, remove_entry}
use Rattle.pce_engine.specs.Sessions.{is_peer}
use Rattle.pce_engine.specs.Places.{sessions_at, ArePlaced}
use Rattle.pce_engine.proofs.Placing.{session_at, found_session, gone, none_gone}
use Rattle.pce_engine.proofs.sessions.Sessions.remove.Goals as goal

-- no entry was the peer's, and none is left
pub returns-in_err-place : goal.returns-in_err-place
returns-in_err-place c =
    let clients = c.self.inside.clients in
    let places = c.self.inside.places.entries in
    let test = is_peer c.args.peer in
    let none : lookup test places ≡ None = sym c.in_err-place.ensures.value in
    record {
      value = c.from_residual.ensures ∙ sym (found_session test clients places c.self.invariant ∙ ap (session_at clients) none) ∙ ap (lookup test) c.self.view_is;
      others = ap (sessions_at clients) c.in_err-place.ensures.unchanged ∙ none_gone test clients places c.self.invariant none ∙ ap (remove_entry test) c.self.view_is;
    }

pub invariant_of-self : goal.invariant_of-self
invariant_of-self c = subst (ArePlaced c.self.inside.clients) (sym c.in_err-place.ensures.unchanged) c.self.invariant

-- the session at the place that was found is gone, and each remaining entry has its session
pub invariant_of-self-2 : goal.invariant_of-self-2
invariant_of-self-2 c =
    let others = c.try_remove.ensures.updates.others in
    let goes = gone (is_peer c.args.peer) c.self.inside.clients c.try_remove.new.self c.in_ok-place.place others c.self.inside.places.entries c.self.invariant (sym c.in_ok-place.ensures.value) in
    subst (ArePlaced c.try_remove.new.self) (sym c.remove.ensures.entries) goes.1

pub returns : goal.returns
returns c =
    let clients = c.self.inside.clients in
    let places = c.self.inside.places.entries in
    let test = is_peer c.args.peer in
    let found : lookup test places ≡ Some c.in_ok-place.place = sym c.in_ok-place.ensures.value in
    let goes = gone test clients c.try_remove.new.self c.in_ok-place.place c.try_remove.ensures.updates.others places c.self.invariant found in
    record {
      value = c.try_remove.ensures.value ∙ sym (found_session test clients places c.self.invariant ∙ ap (session_at clients) found) ∙ ap (lookup test) c.self.view_is;
      others = ap (sessions_at c.try_remove.new.self) c.remove.ensures.entries ∙ goes.0 ∙ ap (remove_entry test) c.self.view_is;
    }
