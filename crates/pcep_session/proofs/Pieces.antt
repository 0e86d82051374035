-- Bytes that come in one piece or in two.
use Rattle.std.proofs.Common.{◌≡◌, ◌≢◌, ℕ, ◌≤◌, max, Bool, true, false, ◌||◌, cond, List, [], ◌∷◌, ◌++◌, length, take, refl, sym, ap, ◌∙◌, subst, append_assoc, length-append, arith}
use Rattle.std.specs.Prelude.{Option, Some, None, nat_lt, is_some}
use Rattle.std.proofs.lemmas.Bool.Decides.{nat_tests}
use Rattle.std.proofs.lemmas.List.{take-append-le, drop-append-le}
use Rattle.pcep_session.specs.Framing.{front_of, is_bad, message_length}
use Rattle.pcep_session.specs.Turns.{Turn, is_closed, next, next_in, after_end, by_front, by_timer, due_in, on_arrival, received, sending, going_to, reaction_to, arrival, capabilities_of}
use Rattle.pcep_session.specs.Table.{on_timer}
use Rattle.pcep_session.specs.Calls.{fed}
use Rattle.pcep_session.specs.Cuts.{Drains, NoTimerIsDue, fed_or_same}
use Rattle.pcep_session.specs.declared.contents.Contents.{Contents}
use Rattle.pcep_session.specs.declared.framing.NextMessage.{NextMessage}
use Rattle.pcep_session.specs.declared.framing.NextMessage.TheVariants.{Waiting, Bad, Whole}
use Rattle.pcep_session.specs.declared.table.Arrival.{Arrival}
use Rattle.pcep_session.specs.declared.table.Arrival.TheVariants.{BadHeader}
use Rattle.pcep_session.specs.declared.table.Input.{Input}
use Rattle.pcep_session.specs.declared.table.Input.TheVariants as input
use Rattle.pcep_session.specs.declared.table.EndReason.{EndReason}
use Rattle.pcep_session.specs.declared.table.Reaction.{Reaction}
use Rattle.pcep_session.specs.declared.table.State.{State}
use Rattle.pcep_session.specs.declared.table.Timer.{Timer}
use Rattle.pcep_session.specs.declared.table.State.TheVariants.{OpenWait, KeepWait, Up, Closed}

abbrev pub with_bytes : Contents → List ℕ → Contents
with_bytes c bytes = record c { bytes = bytes }

abbrev pub more : List ℕ → Contents → Contents
more q c = with_bytes c (c.bytes ++ q)

abbrev pub unless_closed : Bool → List ℕ → Contents → Contents
unless_closed true q c = c
unless_closed false q c = more q c

abbrev pub more_again : List ℕ → Contents → Contents
more_again q c = unless_closed (is_closed c.state) q c

abbrev pub turn_of : Option Input → Contents → Turn
turn_of input after = record { input = input; after = after }

abbrev pub then_more : List ℕ → Turn → Turn
then_more q t = turn_of t.input (more_again q t.after)

-- what stands at the front stays there if more bytes come
abbrev pub front_if : (short bad cut : Bool) → ℕ → NextMessage
front_if short bad cut n = cond short Waiting (cond bad Bad (cond cut Waiting (Whole n)))

stays : (short short' bad cut cut' : Bool) (n : ℕ) → front_if short bad cut n ≢ Waiting → (short ≡ false → short' ≡ false) → (cut ≡ false → cut' ≡ false) → front_if short' bad cut' n ≡ front_if short bad cut n
stays true short' bad cut cut' n h f g = absurd (h refl)
stays false short' true cut cut' n h f g = rw (f refl) refl
stays false short' false true cut' n h f g = absurd (h refl)
stays false short' false false cut' n h f g = rw (f refl, g refl) refl

whole_is : (short bad cut : Bool) (m n : ℕ) → front_if short bad cut m ≡ Whole n → (cut ≡ false) × (m ≡ n) × (bad ≡ false)
whole_is true bad cut m n h = (cc)
whole_is false true cut m n h = (cc)
whole_is false false true m n h = (cc)
whole_is false false false m n h = (refl, cc, refl)

bad_is : (short bad cut : Bool) (n : ℕ) → front_if short bad cut n ≡ Bad → short ≡ false
bad_is true bad cut n h = (cc)
bad_is false bad cut n h = refl

longer : (m n k : ℕ) → m ≤ n → nat_lt m k ≡ false → nat_lt n k ≡ false
longer m n k h e = grind (arith, nat_tests)

not_shorter : (xs q : List ℕ) → length xs ≤ length (xs ++ q)
not_shorter xs q = omega (arith, length-append xs q)

pub front_more : (bytes q : List ℕ) → front_of bytes ≢ Waiting → front_of (bytes ++ q) ≡ front_of bytes
unfolding front_of
front_more [] q h = absurd (h refl)
front_more (a ∷ []) q h = absurd (h refl)
front_more (a ∷ b ∷ []) q h = absurd (h refl)
front_more (a ∷ b ∷ c ∷ []) q h = absurd (h refl)
front_more (a ∷ b ∷ c ∷ d ∷ bytes) q h =
    let all : List ℕ = a ∷ b ∷ c ∷ d ∷ bytes in
    stays (nat_lt (length all) 4) (nat_lt (length (all ++ q)) 4) (is_bad all) (nat_lt (length all) (message_length all)) (nat_lt (length (all ++ q)) (message_length all)) (message_length all) h
    (longer (length all) (length (all ++ q)) 4 (not_shorter all q))
    (longer (length all) (length (all ++ q)) (message_length all) (not_shorter all q))

at_least : (m k : ℕ) → nat_lt m k ≡ false → k ≤ m
at_least m k e = grind (arith, nat_tests)

pub whole_fits : (bytes : List ℕ) (n : ℕ) → front_of bytes ≡ Whole n → n ≤ length bytes
unfolding front_of
whole_fits bytes n h =
    let e = whole_is (nat_lt (length bytes) 4) (is_bad bytes) (nat_lt (length bytes) (message_length bytes)) (message_length bytes) n h in
    subst (λ (m : ℕ). m ≤ length bytes) e.1 (at_least (length bytes) (message_length bytes) e.0)

second_false : (x y z : Bool) → (x || y || z) ≡ false → y ≡ false
second_false x false z e = refl
second_false true true z e = (cc)
second_false false true z e = (cc)

-- a message has a header
pub whole_header : (bytes : List ℕ) (n : ℕ) → front_of bytes ≡ Whole n → 4 ≤ n
unfolding front_of
whole_header bytes n h =
    let e = whole_is (nat_lt (length bytes) 4) (is_bad bytes) (nat_lt (length bytes) (message_length bytes)) (message_length bytes) n h in
    subst (λ (m : ℕ). 4 ≤ m) e.1 (at_least (message_length bytes) 4 (second_false _ _ _ e.2))

-- so do bytes with a bad header
pub bad_header : (bytes : List ℕ) → front_of bytes ≡ Bad → 4 ≤ length bytes
unfolding front_of
bad_header bytes h = at_least (length bytes) 4 (bad_is (nat_lt (length bytes) 4) (is_bad bytes) (nat_lt (length bytes) (message_length bytes)) (message_length bytes) h)

-- a turn doesn't depend on what comes after its message
going_more : (s : State) (why : Option EndReason) (q : List ℕ) (c : Contents) → going_to s why (more q c) ≡ more_again q (going_to s why c)
going_more OpenWait why q c = refl
going_more KeepWait why q c = refl
going_more Up why q c = refl
going_more Closed why q c = refl

arrival_more : (a : Arrival) (n : ℕ) (q : List ℕ) (c : Contents) → n ≤ length c.bytes → on_arrival a n (more q c) ≡ then_more q (on_arrival a n c)
arrival_more a n q c h =
    let r : Reaction = reaction_to a c in
    let d : Contents = sending r.notices (received a n c) in
    ap (λ (bs : List ℕ). turn_of (Some r.input) (going_to r.state r.end (with_bytes d bs))) (drop-append-le n c.bytes q h)
    ∙ ap (λ (e : Contents). turn_of (Some r.input) e) (going_more r.state r.end q d)

front_turn : (f : NextMessage) (q : List ℕ) (c : Contents) → front_of c.bytes ≡ f → f ≢ Waiting → by_front f (more q c) ≡ then_more q (by_front f c)
front_turn Waiting q c e h = absurd (h refl)
front_turn Bad q c e h = arrival_more BadHeader 0 q c (omega arith)
front_turn (Whole n) q c e h =
    let fits : n ≤ length c.bytes = whole_fits c.bytes n e in
    ap (λ (bs : List ℕ). on_arrival (arrival c.state (is_some (capabilities_of c.peer)) bs) n (more q c)) (take-append-le n c.bytes q fits)
    ∙ arrival_more (arrival c.state (is_some (capabilities_of c.peer)) (take n c.bytes)) n q c fits

goes_on : (s : State) (c : Contents) → is_closed s ≡ false → next_in s c ≡ by_front (front_of c.bytes) c
goes_on OpenWait c h = refl
goes_on KeepWait c h = refl
goes_on Up c h = refl
goes_on Closed c h = (cc)

pub next_more : (q : List ℕ) (c : Contents) → is_closed c.state ≡ false → front_of c.bytes ≢ Waiting → next (more q c) ≡ then_more q (next c)
next_more q c live h =
    goes_on c.state (more q c) live
    ∙ ap (λ (f : NextMessage). by_front f (more q c)) (front_more c.bytes q h)
    ∙ front_turn (front_of c.bytes) q c refl h
    ∙ ap (λ (t : Turn). then_more q t) (sym (goes_on c.state c live))

-- if nothing is left to do, `next` changes nothing
pub given : (x : Input) → Some x ≡ None → ⊥
given x e = (cc)

timer_rests : (r : Option Timer) (c m : Contents) → by_timer r c ≡ turn_of None m → m ≡ c
timer_rests None c m e = sym (ap (λ (t : Turn). t.after) e)
timer_rests (Some r) c m e = absurd (given (on_timer r).input (ap (λ (t : Turn). t.input) e))

front_rests : (f : NextMessage) (c m : Contents) → by_front f c ≡ turn_of None m → m ≡ c
front_rests Waiting c m e = timer_rests (due_in c) c m e
front_rests Bad c m e = absurd (given (reaction_to BadHeader c).input (ap (λ (t : Turn). t.input) e))
front_rests (Whole n) c m e = absurd (given (reaction_to (arrival c.state (is_some (capabilities_of c.peer)) (take n c.bytes)) c).input (ap (λ (t : Turn). t.input) e))

down_rests : (b : Bool) (c m : Contents) → after_end b c ≡ turn_of None m → m ≡ c
down_rests true c m e = absurd (given input.Down (ap (λ (t : Turn). t.input) e))
down_rests false c m e = sym (ap (λ (t : Turn). t.after) e)

state_rests : (s : State) (c m : Contents) → next_in s c ≡ turn_of None m → m ≡ c
state_rests OpenWait c m e = front_rests (front_of c.bytes) c m e
state_rests KeepWait c m e = front_rests (front_of c.bytes) c m e
state_rests Up c m e = front_rests (front_of c.bytes) c m e
state_rests Closed c m e = down_rests c.down_pending c m e

pub rests : (c m : Contents) → next c ≡ turn_of None m → m ≡ c
rests c m e = state_rests c.state c m e

-- a turn takes no time
timer_moment : (r : Option Timer) (c : Contents) → (by_timer r c).after.moment_ms ≡ c.moment_ms
timer_moment None c = refl
timer_moment (Some r) c = refl

front_moment : (f : NextMessage) (c : Contents) → (by_front f c).after.moment_ms ≡ c.moment_ms
front_moment Waiting c = timer_moment (due_in c) c
front_moment Bad c = refl
front_moment (Whole n) c = refl

down_moment : (b : Bool) (c : Contents) → (after_end b c).after.moment_ms ≡ c.moment_ms
down_moment true c = refl
down_moment false c = refl

state_moment : (s : State) (c : Contents) → (next_in s c).after.moment_ms ≡ c.moment_ms
state_moment OpenWait c = front_moment (front_of c.bytes) c
state_moment KeepWait c = front_moment (front_of c.bytes) c
state_moment Up c = front_moment (front_of c.bytes) c
state_moment Closed c = down_moment c.down_pending c

pub drains_moment : (xs : List Input) (c m : Contents) → Drains c xs m → m.moment_ms ≡ c.moment_ms
drains_moment [] c m d = sym (ap (λ (t : Turn). t.after.moment_ms) d) ∙ state_moment c.state c
drains_moment (x ∷ xs) c m d = drains_moment xs d.0 m d.2 ∙ sym (ap (λ (t : Turn). t.after.moment_ms) d.1) ∙ state_moment c.state c

-- a session that has ended stays ended
down_state : (b : Bool) (c : Contents) → (after_end b c).after.state ≡ c.state
down_state true c = refl
down_state false c = refl

closed_state : (s : State) (c : Contents) → is_closed s ≡ true → (next_in s c).after.state ≡ c.state
closed_state OpenWait c h = (cc)
closed_state KeepWait c h = (cc)
closed_state Up c h = (cc)
closed_state Closed c h = down_state c.down_pending c

by_live : (b : Bool) (c : Contents) → is_closed c.state ≡ b → (q : List ℕ) → more_again q c ≡ unless_closed b q c
by_live b c h q = ap (λ (x : Bool). unless_closed x q c) h

-- the first piece gives the same inputs if more bytes come after it
pub one_piece : (xs ys : List Input) (q : List ℕ) (c m e : Contents) → Drains c xs m → NoTimerIsDue c xs → Drains (more_again q m) ys e → Drains (more_again q c) (xs ++ ys) e
one_piece [] ys q c m e d b rest = subst (λ (k : Contents). Drains (more_again q k) ys e) (state_rests c.state c m d) rest
one_piece (x ∷ xs) ys q c m e d b rest =
    let mid : Contents = d.0 in
    let first : next c ≡ turn_of (Some x) mid = d.1 in
    let after_is : (next c).after ≡ mid = ap (λ (t : Turn). t.after) first in
    let later : Drains (more_again q mid) (xs ++ ys) e = one_piece xs ys q mid m e d.2 (subst (λ (k : Contents). NoTimerIsDue k xs) after_is b.1) rest in
    go (is_closed c.state) refl mid first after_is later
  where
    go : (l : Bool) → is_closed c.state ≡ l → (mid : Contents) → next c ≡ turn_of (Some x) mid → (next c).after ≡ mid → Drains (more_again q mid) (xs ++ ys) e → Drains (more_again q c) (x ∷ xs ++ ys) e
    go true live mid first after_is later =
        let same : is_closed mid.state ≡ true = sym (ap (λ (k : Contents). is_closed k.state) after_is) ∙ ap is_closed (closed_state c.state c live) ∙ live in
        subst (λ (k : Contents). Drains k (x ∷ (xs ++ ys)) e) (sym (by_live true c live q)) (mid, first, subst (λ (k : Contents). Drains k (xs ++ ys) e) (by_live true mid same q) later)
    go false live mid first after_is later =
        subst (λ (k : Contents). Drains k (x ∷ (xs ++ ys)) e) (sym (by_live false c live q)) (more_again q mid, next_more q c live b.0 ∙ ap (λ (t : Turn). then_more q t) first, later)

at_moment : Contents → ℕ → Contents
at_moment c now = record c { moment_ms = now }

later_same : (a b t : ℕ) → a ≡ max b t → max a t ≡ a
later_same a b t e = grind (arith, nat_tests)

fed_again : (l : Bool) (q : List ℕ) (t b : ℕ) (m : Contents) → is_closed m.state ≡ l → m.moment_ms ≡ max b t → fed_or_same q t m ≡ more_again q m
unfolding at_moment
fed_again true q t b m live e = rw (live) refl
fed_again false q t b m live e = rw (live) (ap (λ (n : ℕ). at_moment (more q m) n) (later_same m.moment_ms b t e))

-- The same bytes at the same moment, in two pieces or in one.
pub cut_otherwise : (c m e : Contents) (p q : List ℕ) (t : ℕ) (xs ys : List Input) → is_closed c.state ≡ false
    → Drains (fed p t c) xs m → NoTimerIsDue (fed p t c) xs → Drains (fed_or_same q t m) ys e → Drains (fed (p ++ q) t c) (xs ++ ys) e
cut_otherwise c m e p q t xs ys live d b rest =
    let again : fed_or_same q t m ≡ more_again q m = fed_again (is_closed m.state) q t c.moment_ms m refl (drains_moment xs (fed p t c) m d) in
    let whole : more_again q (fed p t c) ≡ fed (p ++ q) t c = by_live false (fed p t c) live q ∙ ap (λ (bs : List ℕ). with_bytes (fed p t c) bs) (append_assoc c.bytes p q) in
    subst (λ (k : Contents). Drains k (xs ++ ys) e) whole (one_piece xs ys q (fed p t c) m e d b (subst (λ (k : Contents). Drains k ys e) again rest))

pub drains_closed : (xs : List Input) (c m : Contents) → is_closed c.state ≡ true → Drains c xs m → is_closed m.state ≡ true
drains_closed [] c m shut d = ap (λ (k : Contents). is_closed k.state) (rests c m d) ∙ shut
drains_closed (x ∷ xs) c m shut d =
    drains_closed xs d.0 m (sym (ap (λ (t : Turn). is_closed t.after.state) d.1) ∙ ap is_closed (closed_state c.state c shut) ∙ shut) d.2
