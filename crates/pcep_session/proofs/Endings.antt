-- The turns of a session end.
use Rattle.std.proofs.Common.{◌≡◌, ℕ, zero, suc, ◌+◌, ◌-◌, ◌≤◌, Bool, true, false, cond, List, ◌++◌, length, take, drop, refl, sym, ap, ◌∙◌, subst, arith}
use Rattle.std.specs.Prelude.{Option, Some, None, is_some, Err, Ok, if◌then◌else◌}
use Rattle.std.proofs.lemmas.List.{length-drop}
use Rattle.pcep_objects.specs.declared.session_objects.Open.{Open}
use Rattle.pcep_messages.specs.Notices.{error_text}
use Rattle.pcep_messages.specs.declared.notice.Notice.TheVariants.{Keepalive}
use Rattle.pcep_messages.specs.declared.notice.PcError.{PcError}
use Rattle.pcep_session.specs.Framing.{front_of}
use Rattle.pcep_session.specs.Table.{reaction, due}
use Rattle.pcep_session.specs.Turns.{Turn, is_closed, next, next_in, after_end, by_front, by_timer, due_in, is_due, is_silent, on_arrival, sending, going_to, kept_bytes, reaction_to, arrival, capabilities_of, is_fifth}
use Rattle.pcep_session.specs.Calls.{sent_in, text_of, ended, output_taken}
use Rattle.pcep_session.specs.Runs.{Call, Feed, Tick, Next, Send, Report_error, End, Take_output, after_call, inputs_of, given, or_same}
use Rattle.pcep_session.specs.Ends.{most_turns, after_turns, TurnsEnd, turns_left_in, turns_left, brings_more, TurnsRunOut}
use Rattle.pcep_session.specs.declared.contents.Contents.{Contents}
use Rattle.pcep_session.specs.declared.fault.SessionFault.TheVariants as faults
use Rattle.pcep_session.specs.declared.framing.NextMessage.{NextMessage}
use Rattle.pcep_session.specs.declared.framing.NextMessage.TheVariants.{Waiting, Bad, Whole}
use Rattle.pcep_session.specs.declared.table.Arrival.{Arrival}
use Rattle.pcep_session.specs.declared.table.Arrival.TheVariants.{BadHeader}
use Rattle.pcep_session.specs.declared.table.Input.{Input}
use Rattle.pcep_session.specs.declared.table.Notices.TheVariants.{One}
use Rattle.pcep_session.specs.declared.table.State.{State}
use Rattle.pcep_session.specs.declared.table.State.TheVariants.{OpenWait, KeepWait, Up, Closed}
use Rattle.pcep_session.proofs.Pieces.{turn_of, rests, whole_fits, whole_header, bad_header}

-- how many turns are left, depending on whether the session has ended or a timer is due
by_timer_left : (b : Bool) → (1 ≤ cond b 2 1) × (cond b 2 1 ≤ 2)
by_timer_left true = (omega arith, omega arith)
by_timer_left false = (omega arith, omega arith)

by_down_left : (b : Bool) → cond b 1 0 ≤ 1
by_down_left true = omega arith
by_down_left false = omega arith

live_left : (s : State) (c : Contents) → is_closed s ≡ false → turns_left_in s c ≡ length c.bytes + cond (is_some (due_in c)) 2 1
live_left OpenWait c live = refl
live_left KeepWait c live = refl
live_left Up c live = refl
live_left Closed c live = (cc)

at_least : (s : State) (c : Contents) → is_closed s ≡ false → length c.bytes + 1 ≤ turns_left_in s c
at_least s c live = omega (arith, live_left s c live, (by_timer_left (is_some (due_in c))).0)

at_most : (l : Bool) (s : State) (c : Contents) → is_closed s ≡ l → turns_left_in s c ≤ length c.bytes + 2
at_most false s c live = omega (arith, live_left s c live, (by_timer_left (is_some (due_in c))).1)
at_most true Closed c shut = omega (arith, by_down_left c.down_pending)
at_most true s c shut = (cc)

closed_left : (c : Contents) → c.state ≡ Closed → turns_left c ≡ cond c.down_pending 1 0
closed_left c shut = ap (λ (s : State). turns_left_in s c) shut

-- the turns that are left after a turn, plus one if it gave something
abbrev left_by : Turn → ℕ
left_by t = turns_left t.after + length (given t.input)

-- a message takes its bytes away
kept_less : (s : State) (bytes : List ℕ) → length (kept_bytes s bytes) ≤ length bytes
kept_less OpenWait bytes = omega arith
kept_less KeepWait bytes = omega arith
kept_less Up bytes = omega arith
kept_less Closed bytes = omega arith

whole_falls : (a : Arrival) (size : ℕ) (c : Contents) → 4 ≤ size → size ≤ length c.bytes → left_by (on_arrival a size c) ≤ length c.bytes + 1
whole_falls a size c four fits =
    let t : Turn = on_arrival a size c in
    let left : turns_left t.after ≤ length t.after.bytes + 2 = at_most (is_closed t.after.state) t.after.state t.after refl in
    let kept : length t.after.bytes ≤ length (drop size c.bytes) = kept_less (reaction_to a c).state (drop size c.bytes) in
    omega (arith, length-drop size c.bytes)

-- a bad header ends the session
bad_closes : (s : State) (peer : Option Open) (fifth : Bool) → (reaction s (capabilities_of peer) fifth BadHeader).state ≡ Closed
bad_closes OpenWait peer fifth = refl
bad_closes KeepWait peer fifth = refl
bad_closes Up peer fifth = refl
bad_closes Closed peer fifth = refl

bad_falls : (c : Contents) → 4 ≤ length c.bytes → left_by (on_arrival BadHeader 0 c) ≤ length c.bytes + 1
bad_falls c four =
    let t : Turn = on_arrival BadHeader 0 c in
    let left : turns_left t.after ≡ cond c.down_pending 1 0 = closed_left t.after (bad_closes c.state c.peer (is_fifth c.moment_ms c.unrecognized)) in
    omega (arith, by_down_left c.down_pending)

-- a timer ends the session, or sends a Keepalive and is then no longer due
quiet_now : (m : ℕ) → is_due 30000 (m - m) ≡ false
quiet_now m = let none : m - m ≡ 0 = omega arith in rw none refl

not_due : (waited silent quiet : Bool) → silent ≡ false → quiet ≡ false → is_some (due Up waited silent quiet) ≡ false
not_due waited true quiet e f = (cc)
not_due waited false true e f = (cc)
not_due waited false false e f = refl

timer_falls : (s : State) (waited silent quiet : Bool) (c : Contents) → is_silent c.peer (c.moment_ms - c.received_ms) ≡ silent
    → turns_left c ≡ length c.bytes + cond (is_some (due s waited silent quiet)) 2 1 → left_by (by_timer (due s waited silent quiet) c) ≤ turns_left c
timer_falls OpenWait true silent quiet c e left = omega (arith, by_down_left c.down_pending)
timer_falls OpenWait false silent quiet c e left = omega arith
timer_falls KeepWait true silent quiet c e left = omega (arith, by_down_left c.down_pending)
timer_falls KeepWait false silent quiet c e left = omega arith
timer_falls Up waited true quiet c e left = omega (arith, by_down_left c.down_pending)
timer_falls Up waited false true c e left =
    let d : Contents = going_to Up None (sending (One Keepalive) c) in
    let none : is_some (due_in d) ≡ false = not_due (is_due 60000 (c.moment_ms - c.received_ms)) (is_silent c.peer (c.moment_ms - c.received_ms)) (is_due 30000 (c.moment_ms - c.moment_ms)) e (quiet_now c.moment_ms) in
    let after : turns_left d ≡ length c.bytes + 1 = ap (λ (b : Bool). length c.bytes + cond b 2 1) none in
    omega arith
timer_falls Up waited false false c e left = omega arith
timer_falls Closed waited silent quiet c e left = omega arith

-- the call `next`
front_falls : (f : NextMessage) (c : Contents) → front_of c.bytes ≡ f → is_closed c.state ≡ false → left_by (by_front f c) ≤ turns_left c
front_falls Waiting c e live =
    timer_falls c.state (is_due 60000 (c.moment_ms - c.received_ms)) (is_silent c.peer (c.moment_ms - c.received_ms)) (is_due 30000 (c.moment_ms - c.sent_ms)) c refl
    (live_left c.state c live)
front_falls Bad c e live = omega (arith, bad_falls c (bad_header c.bytes e), at_least c.state c live)
front_falls (Whole size) c e live =
    omega (arith, whole_falls (arrival c.state (is_some (capabilities_of c.peer)) (take size c.bytes)) size c (whole_header c.bytes size e) (whole_fits c.bytes size e), at_least c.state c live)

down_falls : (pending : Bool) (c : Contents) → c.down_pending ≡ pending → c.state ≡ Closed → left_by (after_end pending c) ≤ turns_left c
down_falls true c e shut =
    let given_ : turns_left (record c { down_pending = false }) ≡ 0 = closed_left (record c { down_pending = false }) shut in
    let due_ : turns_left c ≡ 1 = closed_left c shut ∙ ap (λ (b : Bool). cond b 1 0) e in
    omega arith
down_falls false c e shut = omega arith

state_falls : (s : State) (c : Contents) → c.state ≡ s → left_by (next_in s c) ≤ turns_left c
state_falls OpenWait c e = front_falls (front_of c.bytes) c refl (ap is_closed e)
state_falls KeepWait c e = front_falls (front_of c.bytes) c refl (ap is_closed e)
state_falls Up c e = front_falls (front_of c.bytes) c refl (ap is_closed e)
state_falls Closed c e = down_falls c.down_pending c refl e

next_falls : (c : Contents) → left_by (next c) ≤ turns_left c
next_falls c = state_falls c.state c refl

-- sending something only delays the Keepalive
not_sooner : (s : State) (waited silent quiet now : Bool) → now ≡ false → cond (is_some (due s waited silent now)) 2 1 ≤ cond (is_some (due s waited silent quiet)) 2 1
not_sooner OpenWait true silent quiet now e = omega arith
not_sooner OpenWait false silent quiet now e = omega arith
not_sooner KeepWait true silent quiet now e = omega arith
not_sooner KeepWait false silent quiet now e = omega arith
not_sooner Up waited true quiet now e = omega arith
not_sooner Up waited false quiet true e = (cc)
not_sooner Up waited false true false e = omega arith
not_sooner Up waited false false false e = omega arith
not_sooner Closed waited silent quiet now e = omega arith

is_shut : (s : State) → is_closed s ≡ true → s ≡ Closed
is_shut Closed e = refl
is_shut s e = (cc)

abbrev saying : List ℕ → Contents → Contents
saying text c = record c { sent_ms = c.moment_ms; output = c.output ++ text }

said_left : (l : Bool) (c : Contents) (text : List ℕ) → is_closed c.state ≡ l → turns_left (saying text c) ≤ turns_left c
said_left true c text shut = let ended_ : c.state ≡ Closed = is_shut c.state shut in omega (arith, closed_left c ended_, closed_left (saying text c) ended_)
said_left false c text live =
    omega (
      arith,
      live_left c.state c live,
      live_left c.state (saying text c) live,
      not_sooner c.state (is_due 60000 (c.moment_ms - c.received_ms)) (is_silent c.peer (c.moment_ms - c.received_ms)) (is_due 30000 (c.moment_ms - c.sent_ms)) (is_due 30000 (c.moment_ms - c.moment_ms)) (quiet_now c.moment_ms),
    )

text_adds_none : (s : State) (text : Option (List ℕ)) (c : Contents) → turns_left (or_same c (sent_in s text c)) ≤ turns_left c
text_adds_none OpenWait text c = omega arith
text_adds_none KeepWait text c = omega arith
text_adds_none Up None c = omega arith
text_adds_none Up (Some text) c = said_left (is_closed c.state) c text refl
text_adds_none Closed text c = omega arith

-- the Down of an end was counted already
end_adds_none : (l : Bool) (error : Option PcError) (reason : Option ℕ) (c : Contents) → is_closed c.state ≡ l
    → turns_left (or_same c (if l then Err faults.Closed else Ok (ended error reason c))) ≤ turns_left c
end_adds_none true error reason c shut = omega arith
end_adds_none false error reason c live = omega (arith, at_least c.state c live)

taken_left : (s : State) (c : Contents) → turns_left_in s (output_taken c) ≡ turns_left_in s c
taken_left OpenWait c = refl
taken_left KeepWait c = refl
taken_left Up c = refl
taken_left Closed c = refl

call_falls : (call : Call) (c : Contents) → brings_more call ≡ false → turns_left (after_call call c) + length (inputs_of call c) ≤ turns_left c
call_falls (Feed piece now_ms) c e = (cc)
call_falls (Tick now_ms) c e = (cc)
call_falls Next c e = next_falls c
call_falls (Send message) c e = omega (arith, text_adds_none c.state (text_of message) c)
call_falls (Report_error error) c e = omega (arith, text_adds_none c.state (Some (error_text error)) c)
call_falls (End error reason) c e = omega (arith, end_adds_none (is_closed c.state) error reason c refl)
call_falls Take_output c e = omega (arith, taken_left c.state c)

pub run_out : TurnsRunOut
run_out c = (at_most (is_closed c.state) c.state c refl, λ call. call_falls call c)

-- if nothing was given, nothing is given later
pub rests_on : (n : ℕ) (c : Contents) → (next c).input ≡ None → (next (after_turns n c)).input ≡ None
rests_on zero c e = e
rests_on (suc n) c e =
    let same : (next c).after ≡ c = rests c (next c).after (ap (λ (x : Option Input). turn_of x (next c).after) e) in
    rests_on n (next c).after (subst (λ (k : Contents). (next k).input ≡ None) (sym same) e)

one_given : (c : Contents) (i : Input) → (next c).input ≡ Some i → length (given (next c).input) ≡ 1
one_given c i e = ap (λ (x : Option Input). length (given x)) e

pub fewer : (n : ℕ) (c : Contents) (i : Input) → (next c).input ≡ Some i → turns_left c ≤ suc n → turns_left (next c).after ≤ n
fewer n c i e h = omega (arith, next_falls c, one_given c i e)

none_of : (x : Option Input) (c : Contents) → (next c).input ≡ x → turns_left c ≤ 0 → x ≡ None
none_of None c e h = refl
none_of (Some i) c e h = absurd (omega (arith, next_falls c, one_given c i e))

pub none_left : (c : Contents) → turns_left c ≤ 0 → (next c).input ≡ None
none_left c h = none_of (next c).input c refl h

one_more : (x : Option Input) (n : ℕ) (c : Contents) → (next c).input ≡ x → turns_left c ≤ suc n
    → ((d : Contents) → turns_left d ≤ n → (next (after_turns n d)).input ≡ None) → (next (after_turns (suc n) c)).input ≡ None
one_more None n c e h ends = rests_on (suc n) c e
one_more (Some i) n c e h ends = ends (next c).after (fewer n c i e h)

ends_in : (n : ℕ) (c : Contents) → turns_left c ≤ n → (next (after_turns n c)).input ≡ None
ends_in zero c h = none_left c h
ends_in (suc n) c h = one_more (next c).input n c refl h (ends_in n)

pub turns_end : TurnsEnd
turns_end c = ends_in (most_turns c) c (at_most (is_closed c.state) c.state c refl)
