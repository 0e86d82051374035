-- A connection of a peer: what its session hears and sends, what it does to the store, and how it ends.
use Rattle.std.specs.Prelude.{◌≡◌, ◌<◌, ◌≤◌, ◌⊎◌, ℕ, Bool, true, false, List, [], ◌∷◌, ◌++◌, length, take, ⊤, Option, Some, None, Result, Ok, Err}
use Rattle.std.specs.Io.KnownBytes.{Appends, Consumes, IsAtEnd}
use Rattle.pcep_session.specs.Calls.{output_taken}
use Rattle.pcep_session.specs.Turns.{is_closed}
use Rattle.step_core.specs.declared.event.Event.TheVariants.{Down}
use Rattle.step_core.specs.declared.event.Reply.{Reply}
use Rattle.history_core.specs.declared.fault.Fault.{Fault}
use Rattle.engine_core.specs.Calls.{called}
use Rattle.engine_core.specs.Deeds.{Deed, calls_of}
use Rattle.engine_core.specs.Engine.{new_client, client_with, ending, served}
use Rattle.engine_core.specs.Joining.{joined_after}
use Rattle.engine_core.specs.Plans.{Plan, Returns, Reaches, LeadsTo}
use Rattle.engine_core.specs.declared.client.Client.{Client}
use Rattle.server_talk.specs.declared.talk.ConnectionEnd.{ConnectionEnd}
use Rattle.server_talk.specs.declared.talk.Ended.{Ended}
use Rattle.server_talk.specs.declared.talk.Ended.TheVariants.{PeerClosed, SessionEnded, ReadFault, WriteFault, StoreFault}
use Rattle.server_talk.specs.Goings.{Goes, Ways}
use Rattle.server_talk.specs.Watches.{WatchNow}

-- ---- the session of a connection

-- the session after all that it had to send was taken
abbrev pub spoken : Client → Client
spoken c = client_with (output_taken c.session) c

-- reason 1 (no explanation), or no Close
abbrev pub IsUnexplained : Option ℕ → Type 0
IsUnexplained reason = (reason ≡ Some 1) ⊎ (reason ≡ None)

-- A session of a peer so far: the bytes that it heard, the deeds that it led to, the bytes that it sent, the moment at
-- which it was served last, and the client as it is now. The watch says which moments it may show, and whether the run
-- may be asked to end.
pub data Talks (watch : WatchNow) (peer : ℕ) : List ℕ → List Deed → List ℕ → ℕ → Client → Type 0 where
  -- it begins, at a moment that the watch shows
  Begins : (now_ms : ℕ) → watch.may_show now_ms → Talks watch peer [] [] [] now_ms (new_client now_ms)
  -- it is served with bytes, as the engine's table says, at a moment that the watch shows and that isn't before the
  -- last
  Serves : (heard said piece : List ℕ) (before made : List Deed) (at_ms now_ms : ℕ) (c d : Client) → watch.may_show now_ms → at_ms ≤ now_ms
      → Talks watch peer heard before said at_ms c → LeadsTo (served peer piece now_ms c) made (Returns d) → Talks watch peer (heard ++ piece) (before ++ made) said now_ms d
  -- the same, up to a fault that ends it
  Breaks : (heard said piece : List ℕ) (before made : List Deed) (at_ms now_ms : ℕ) (c d : Client) (rest : Plan Client) → watch.may_show now_ms → at_ms ≤ now_ms
      → Talks watch peer heard before said at_ms c → LeadsTo (served peer piece now_ms c) made (Reaches d rest) → Talks watch peer (heard ++ piece) (before ++ made) said now_ms (ending None None d)
  -- it sends what it has to send
  Says : (heard said : List ℕ) (before : List Deed) (at_ms : ℕ) (c : Client)
      → Talks watch peer heard before said at_ms c → Talks watch peer heard before (said ++ c.session.output) at_ms (spoken c)
  -- if the run may be asked to end, the server closes it: with a Close that explains nothing (RFC 5440 section 7.17),
  -- or without one
  Closes : (heard said : List ℕ) (before : List Deed) (at_ms : ℕ) (c : Client) (reason : Option ℕ) → watch.may_close → IsUnexplained reason
      → Talks watch peer heard before said at_ms c → Talks watch peer heard before said at_ms (ending None reason c)

-- ---- what is read and written

-- the peer took some of these bytes, starting with the first
abbrev pub TakesSome : Option (List ℕ) → Option (List ℕ) → List ℕ → Type 0
TakesSome old new bytes = (count : ℕ) × Appends old new (take count bytes)

-- the peer took some of these bytes, starting with the first, but not all
abbrev pub TakesPart : Option (List ℕ) → Option (List ℕ) → List ℕ → Type 0
TakesPart old new bytes = (count : ℕ) × (count < length bytes) × Appends old new (take count bytes)

-- the peer took all of these bytes, or a part of them
abbrev pub TakesAll : Bool → Option (List ℕ) → Option (List ℕ) → List ℕ → Type 0
TakesAll true old new bytes = Appends old new bytes
TakesAll false old new bytes = TakesPart old new bytes

-- All that the session sent went out, unless a write failed; then a part of it did. A fault of the store may stand for
-- a fault of a write.
abbrev pub GoesOut : Option Ended → Option (List ℕ) → Option (List ℕ) → List ℕ → Type 0
GoesOut (Some WriteFault) old new said = TakesPart old new said
GoesOut (Some (StoreFault fault)) old new said = TakesSome old new said
GoesOut end old new said = Appends old new said

-- the Down could not be submitted
abbrev pub owes_down : Ended → Bool
owes_down (StoreFault fault) = true
owes_down ended = false

-- If the answer is that the peer closed, the reader has no more. If it is that the session ended, it has; if a read
-- failed, it hasn't.
abbrev pub EndsSo : Ended → Option (List ℕ) → Client → Type 0
EndsSo PeerClosed left c = IsAtEnd left
EndsSo SessionEnded left c = is_closed c.session.state ≡ true
EndsSo ReadFault left c = is_closed c.session.state ≡ false
EndsSo ended left c = ⊤

-- the same for a connection that may go on, before its Down is submitted
abbrev pub MayEndSo : Option Ended → Option (List ℕ) → Client → Type 0
MayEndSo None left c = ⊤
MayEndSo (Some ended) left c = EndsSo ended left c × (owes_down ended ≡ false)

-- ---- a connection so far

-- A connection from `start` on that goes on, or has come to this end except for the Down of its peer. It gives the
-- known bytes of the reader and of the writer, at the connection's start and now. The session was served last at this
-- moment.
pub record SoFar {S : Type 0} (w : Ways S) (watch : WatchNow) (peer : ℕ) (start : S) (unread blank : Option (List ℕ)) (end : Option Ended) (now : S) (left written : Option (List ℕ)) (at_ms : ℕ) (client : Client) : Type 0 where
  pub heard : List ℕ
  pub said : List ℕ
  pub deeds : List Deed
  pub talks : Talks watch peer heard deeds said at_ms client
  pub shown_at : watch.may_show at_ms
  pub joined : client.joined ≡ joined_after false (calls_of deeds)
  pub goes : Goes w start deeds now
  pub read : Consumes unread left heard
  pub out : GoesOut end blank written said
  pub ends_so : MayEndSo end left client

-- ---- its end

-- one Down if the peer is joined, else nothing
abbrev pub IsDown : ℕ → Bool → List Deed → Type 0
IsDown peer true deeds = (reply : Reply) × (deeds ≡ called (Down peer) reply ∷ [])
IsDown peer false deeds = deeds ≡ []

-- What the end of a connection leaves: the Down is submitted and is all that the list has, or it could not be
-- submitted.
abbrev pub Leaves : {X S : Type 0} → Result X Fault → Ways S → ℕ → Bool → S → List Deed → S → Type 0
Leaves (Ok x) w peer joined start deeds new =
    (last : List Deed) × IsDown peer joined last × Goes w start (deeds ++ last) new × (w.calls new ≡ calls_of last)
Leaves (Err fault) w peer joined start deeds new = (joined ≡ true) × Goes w start deeds new

-- the last calls: the Down of a peer that is joined, and the list of the store has nothing else; no calls after a fault
-- of the store
abbrev pub Lasts : {S : Type 0} → Ended → Ways S → ℕ → Bool → S → List Deed → Type 0
Lasts (StoreFault fault) w peer joined new last = last ≡ []
Lasts ended w peer joined new last = IsDown peer joined last × (w.calls new ≡ calls_of last)

-- A whole connection, and the reported reason of its end. Its deeds are those of its session and the last ones. The
-- peer is left joined only if its Down could not be submitted. The reason is that of the session as it then was, if it
-- had ended.
pub record IsServed {S : Type 0} (w : Ways S) (watch : WatchNow) (peer : ℕ) (start : S) (unread blank : Option (List ℕ)) (left_by : ConnectionEnd) (now : S) (left written : Option (List ℕ)) : Type 0 where
  pub heard : List ℕ
  pub said : List ℕ
  pub deeds : List Deed
  pub last : List Deed
  pub at_ms : ℕ
  pub client : Client
  pub talks : Talks watch peer heard deeds said at_ms client
  pub silent : client.session.output ≡ []
  pub reason : left_by.reason ≡ client.session.end
  pub goes : Goes w start (deeds ++ last) now
  pub down : joined_after false (calls_of (deeds ++ last)) ≡ owes_down left_by.ended
  pub lasts : Lasts left_by.ended w peer (joined_after false (calls_of deeds)) now last
  pub read : Consumes unread left heard
  pub out : GoesOut (Some left_by.ended) blank written said
  pub ends_so : EndsSo left_by.ended left client

-- there was no memory for a session, and nothing was done
abbrev pub IsUnserved : {S I O : Type 0} → ConnectionEnd → S → S → I → I → O → O → Type 0
IsUnserved left_by old new was left blank written = (left_by ≡ record { ended = SessionEnded; reason = None }) × (new ≡ old) × (left ≡ was) × (written ≡ blank)
