-- A turn doesn't depend on the output that was there before it.
use Rattle.std.proofs.Common.{◌≡◌, ℕ, Bool, true, false, List, [], ◌∷◌, ◌++◌, refl, sym, ap, ◌∙◌, append_assoc}
use Rattle.std.specs.Prelude.{Option, Some, None, is_some, take}
use Rattle.pcep_session.specs.Framing.{front_of}
use Rattle.pcep_session.specs.Table.{on_timer}
use Rattle.pcep_session.specs.Turns.{Turn, is_closed, next, next_in, after_end, by_front, by_timer, due_in, turn_by, on_arrival, received, sending, going_to, reaction_to, arrival, capabilities_of, notices_text}
use Rattle.pcep_session.specs.Cuts.{Drains, fed_or_same, with_output}
use Rattle.pcep_session.specs.declared.contents.Contents.{Contents}
use Rattle.pcep_session.specs.declared.framing.NextMessage.{NextMessage}
use Rattle.pcep_session.specs.declared.framing.NextMessage.TheVariants.{Waiting, Bad, Whole}
use Rattle.pcep_session.specs.declared.table.Arrival.{Arrival}
use Rattle.pcep_session.specs.declared.table.Arrival.TheVariants.{BadHeader}
use Rattle.pcep_session.specs.declared.table.Input.{Input}
use Rattle.pcep_session.specs.declared.table.Reaction.{Reaction}
use Rattle.pcep_session.specs.declared.table.State.{State}
use Rattle.pcep_session.specs.declared.table.Timer.{Timer}
use Rattle.pcep_session.specs.declared.table.State.TheVariants.{OpenWait, KeepWait, Up, Closed}
use Rattle.pcep_session.proofs.Pieces.{turn_of}

at_output : Contents → List ℕ → Contents
at_output c output = record c { output = output }

abbrev pub turn_with : List ℕ → Turn → Turn
turn_with output turn = turn_of turn.input (with_output output turn.after)

reaction_with : (r : Reaction) (o : List ℕ) (c : Contents) → turn_by r (with_output o c) ≡ turn_with o (turn_by r c)
unfolding at_output
reaction_with r o c =
    ap (λ (bytes : List ℕ). turn_of (Some r.input) (at_output (going_to r.state r.end (sending r.notices c)) bytes)) (append_assoc o c.output (notices_text r.notices))

arrival_with : (a : Arrival) (n : ℕ) (o : List ℕ) (c : Contents) → on_arrival a n (with_output o c) ≡ turn_with o (on_arrival a n c)
arrival_with a n o c = reaction_with (reaction_to a c) o (received a n c)

timer_with : (r : Option Timer) (o : List ℕ) (c : Contents) → by_timer r (with_output o c) ≡ turn_with o (by_timer r c)
timer_with None o c = refl
timer_with (Some r) o c = reaction_with (on_timer r) o c

front_with : (f : NextMessage) (o : List ℕ) (c : Contents) → by_front f (with_output o c) ≡ turn_with o (by_front f c)
front_with Waiting o c = timer_with (due_in c) o c
front_with Bad o c = arrival_with BadHeader 0 o c
front_with (Whole n) o c = arrival_with (arrival c.state (is_some (capabilities_of c.peer)) (take n c.bytes)) n o c

end_with : (b : Bool) (o : List ℕ) (c : Contents) → after_end b (with_output o c) ≡ turn_with o (after_end b c)
end_with true o c = refl
end_with false o c = refl

state_with : (s : State) (o : List ℕ) (c : Contents) → next_in s (with_output o c) ≡ turn_with o (next_in s c)
state_with OpenWait o c = front_with (front_of c.bytes) o c
state_with KeepWait o c = front_with (front_of c.bytes) o c
state_with Up o c = front_with (front_of c.bytes) o c
state_with Closed o c = end_with c.down_pending o c

next_with : (o : List ℕ) (c : Contents) → next (with_output o c) ≡ turn_with o (next c)
next_with o c = state_with c.state o c

pub drains_with : (xs : List Input) (o : List ℕ) (c e : Contents) → Drains c xs e → Drains (with_output o c) xs (with_output o e)
drains_with [] o c e d = next_with o c ∙ ap (turn_with o) d
drains_with (x ∷ xs) o c e d = (with_output o d.0, next_with o c ∙ ap (turn_with o) d.1, drains_with xs o d.0 e d.2)

fed_if : (l : Bool) (p : List ℕ) (t : ℕ) (o : List ℕ) (c : Contents) → is_closed c.state ≡ l → fed_or_same p t (with_output o c) ≡ with_output o (fed_or_same p t c)
fed_if true p t o c live = rw (live) refl
fed_if false p t o c live = rw (live) refl

pub fed_with : (p : List ℕ) (t : ℕ) (o : List ℕ) (c : Contents) → fed_or_same p t (with_output o c) ≡ with_output o (fed_or_same p t c)
fed_with p t o c = fed_if (is_closed c.state) p t o c refl

pub with_again : (o p : List ℕ) (c : Contents) → with_output o (with_output p c) ≡ with_output (o ++ p) c
unfolding at_output
with_again o p c = ap (at_output c) (sym (append_assoc o p c.output))
