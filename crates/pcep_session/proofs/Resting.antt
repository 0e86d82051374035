-- A session that has nothing to do.
use Rattle.std.proofs.Common.{◌≡◌, Bool, true, false, not, ◌||◌, refl, ap, ◌∙◌}
use Rattle.std.specs.Prelude.{Option, Some, None, is_some}
use Rattle.pcep_session.specs.Framing.{front_of, is_waiting}
use Rattle.pcep_session.specs.Turns.{is_closed, next, next_in, after_end, by_front, by_timer, due_in}
use Rattle.pcep_session.specs.declared.contents.Contents.{Contents}
use Rattle.pcep_session.specs.declared.framing.NextMessage.{NextMessage}
use Rattle.pcep_session.specs.declared.framing.NextMessage.TheVariants.{Waiting, Bad, Whole}
use Rattle.pcep_session.specs.declared.table.Input.{Input}
use Rattle.pcep_session.specs.declared.table.State.{State}
use Rattle.pcep_session.specs.declared.table.State.TheVariants.{OpenWait, KeepWait, Up, Closed}
use Rattle.pcep_session.specs.declared.table.Timer.{Timer}
use Rattle.pcep_session.proofs.Pieces.{turn_of, rests}

timer_gives : (timer : Option Timer) (c : Contents) → is_some (by_timer timer c).input ≡ is_some timer
timer_gives None c = refl
timer_gives (Some timer) c = refl

front_gives : (f : NextMessage) (c : Contents) → is_some (by_front f c).input ≡ (not (is_waiting f) || is_some (due_in c))
front_gives Waiting c = timer_gives (due_in c) c
front_gives Bad c = refl
front_gives (Whole size) c = refl

state_gives : (s : State) (c : Contents) → is_closed s ≡ false → is_some (next_in s c).input ≡ (not (is_waiting (front_of c.bytes)) || is_some (due_in c))
state_gives OpenWait c live = front_gives (front_of c.bytes) c
state_gives KeepWait c live = front_gives (front_of c.bytes) c
state_gives Up c live = front_gives (front_of c.bytes) c
state_gives Closed c live = (cc)

pub live_gives : (c : Contents) → is_closed c.state ≡ false → is_some (next c).input ≡ (not (is_waiting (front_of c.bytes)) || is_some (due_in c))
live_gives c live = state_gives c.state c live

down_gives : (pending : Bool) (c : Contents) → is_some (after_end pending c).input ≡ pending
down_gives true c = refl
down_gives false c = refl

shut : (s : State) (c : Contents) → is_closed s ≡ true → is_some (next_in s c).input ≡ c.down_pending
shut OpenWait c closed = (cc)
shut KeepWait c closed = (cc)
shut Up c closed = (cc)
shut Closed c closed = down_gives c.down_pending c

pub shut_gives : (c : Contents) → is_closed c.state ≡ true → is_some (next c).input ≡ c.down_pending
shut_gives c closed = shut c.state c closed

none_is : (input : Option Input) → is_some input ≡ false → input ≡ None
none_is None none = refl
none_is (Some input) none = (cc)

-- a turn that gives nothing changes nothing
pub nothing_given : (c : Contents) → is_some (next c).input ≡ false → next c ≡ turn_of None c
nothing_given c none =
    let turn : next c ≡ turn_of None (next c).after = ap (λ (input : Option Input). turn_of input (next c).after) (none_is (next c).input none) in
    turn ∙ ap (turn_of None) (rests c (next c).after turn)
