-- A connection, step by step.
use Rattle.std.proofs.Common.{◌≡◌, ◌≤◌, ◌⊎◌, inl, inr, ℕ, Bool, true, false, List, [], ◌++◌, Option, Some, None, Result, Ok, Err, take, refl, sym, ◌∙◌, ap, subst}
use Rattle.std.proofs.lemmas.List.{append-nil}
use Rattle.std.proofs.KnownBytes.{Consumes-nil, Consumes-trans, Consumes-kept, Keeps-trans}
use Rattle.std.specs.Io.KnownBytes.{Consumes, Keeps}
use Rattle.std.specs.Result.{is_err}
use Rattle.pcep_session.specs.Calls.{Does}
use Rattle.pcep_session.specs.Runs.{or_same}
use Rattle.pcep_session.specs.declared.contents.Contents.{Contents}
use Rattle.pcep_session.specs.declared.fault.SessionFault.{SessionFault}
use Rattle.pcep_session.specs.declared.table.EndReason.{EndReason}
use Rattle.history_core.specs.declared.fault.Fault.{Fault}
use Rattle.engine_core.specs.Deeds.{Deed, calls_of}
use Rattle.engine_core.specs.Engine.{new_client, ending, served}
use Rattle.engine_core.specs.Joining.{joined_after}
use Rattle.engine_core.specs.Stores.{ServesOrEnds}
use Rattle.engine_core.specs.declared.client.Client.{Client}
use Rattle.server_talk.specs.declared.talk.Ended.{Ended}
use Rattle.server_talk.specs.declared.talk.Ended.TheVariants.{PeerClosed, SessionEnded, ReadFault, WriteFault, StoreFault}
use Rattle.server_talk.specs.declared.talk.Heard.{Heard}
use Rattle.server_talk.specs.declared.talk.Heard.TheVariants as hearing
use Rattle.server_talk.specs.Heard.{Hears}
use Rattle.server_talk.specs.Goings.{Goes, Ways}
use Rattle.server_talk.specs.Goings.Goes.{Stays, Moves, Empties}
use Rattle.server_talk.specs.Watches.{WatchNow}
use Rattle.server_talk.specs.Connections.{Talks, SoFar, GoesOut, MayEndSo, IsUnexplained, spoken, IsDown, owes_down, Lasts, IsServed}
use Rattle.server_talk.specs.Connections.Talks.{Begins, Serves, Breaks, Says, Closes}
use Rattle.server_talk.proofs.Going.{goes_nowhere}
use Rattle.server_talk.proofs.Flowing.{appends_none, goes_out_behind, out_at_fault}
use Rattle.server_talk.proofs.Leaving.{joined_on, is_down}

-- whatever calls lead the store from `start` to `a` also lead it to `b`
abbrev pub LeadsOn : {S : Type 0} → Ways S → S → S → S → Type 0
LeadsOn w start a b = (deeds : List Deed) → Goes w start deeds a → Goes w start deeds b

-- the connection begins
pub begun : {S : Type 0} (w : Ways S) (watch : WatchNow) (peer : ℕ) (store : S) (unread blank : Option (List ℕ)) (now_ms : ℕ) (c : Client)
    → c ≡ new_client now_ms → watch.may_show now_ms → SoFar w watch peer store unread blank None store unread blank now_ms c
begun w watch peer store unread blank now_ms c is shown =
    subst (λ (k : Client). SoFar w watch peer store unread blank None store unread blank now_ms k) (sym is) (record {
      heard = [];
      said = [];
      deeds = [];
      talks = Begins now_ms shown;
      shown_at = shown;
      joined = refl;
      goes = Stays;
      read = Consumes-nil unread;
      out = appends_none blank;
      ends_so = tt;
    })

-- this moment is the last one, or the watch shows it
shown_then : (watch : WatchNow) (at_ms now_ms : ℕ) → (now_ms ≡ at_ms) ⊎ watch.may_show now_ms → watch.may_show at_ms → watch.may_show now_ms
shown_then watch at_ms now_ms (inl is) shown = subst (λ (n : ℕ). watch.may_show n) (sym is) shown
shown_then watch at_ms now_ms (inr shown) before = shown

-- bytes were served
pub piece_served : {X S : Type 0} (w : Ways S) (watch : WatchNow) (r : Result X Fault) (peer : ℕ) (start old mid new : S) (unread blank left read written : Option (List ℕ)) (piece : List ℕ) (at_ms now_ms : ℕ) (c d : Client)
    → at_ms ≤ now_ms → (now_ms ≡ at_ms) ⊎ watch.may_show now_ms → ServesOrEnds r w.moves w.is_full old mid c d (served peer piece now_ms c) → LeadsOn w start mid new
    → SoFar w watch peer start unread blank None old left written at_ms c → Consumes left read piece
    → SoFar w watch peer start unread blank None new read written now_ms d
piece_served w watch (Ok x) peer start old mid new unread blank left read written piece at_ms now_ms c d later shown h on s k = record {
  heard = s.heard ++ piece;
  said = s.said;
  deeds = s.deeds ++ h.deeds;
  talks = Serves s.heard s.said piece s.deeds h.deeds at_ms now_ms c d (shown_then watch at_ms now_ms shown s.shown_at) later s.talks h.leads;
  shown_at = shown_then watch at_ms now_ms shown s.shown_at;
  joined = h.joined ∙ ap (λ (is : Bool). joined_after is (calls_of h.deeds)) s.joined ∙ sym (joined_on false s.deeds h.deeds);
  goes = on (s.deeds ++ h.deeds) (Moves s.deeds h.deeds old mid s.goes h.made);
  read = Consumes-trans unread left read s.heard piece s.read k;
  out = s.out;
  ends_so = tt;
}
piece_served w watch (Err fault) peer start old mid new unread blank left read written piece at_ms now_ms c d later shown h on s k =
    let b = h.broke_off.carried in
    subst (λ (k : Client). SoFar w watch peer start unread blank None new read written now_ms k) (sym h.ended) (record {
      heard = s.heard ++ piece;
      said = s.said;
      deeds = s.deeds ++ b.deeds;
      talks = Breaks s.heard s.said piece s.deeds b.deeds at_ms now_ms c h.reached h.broke_off.rest (shown_then watch at_ms now_ms shown s.shown_at) later s.talks b.leads;
      shown_at = shown_then watch at_ms now_ms shown s.shown_at;
      joined = b.joined ∙ ap (λ (is : Bool). joined_after is (calls_of b.deeds)) s.joined ∙ sym (joined_on false s.deeds b.deeds);
      goes = on (s.deeds ++ b.deeds) (Moves s.deeds b.deeds old mid s.goes b.made);
      read = Consumes-trans unread left read s.heard piece s.read k;
      out = s.out;
      ends_so = tt;
    })

-- more was seen, and nothing was done
pub looked : {S : Type 0} (w : Ways S) (watch : WatchNow) (peer : ℕ) (start a b : S) (unread blank left written : Option (List ℕ)) (at_ms : ℕ) (c : Client)
    → w.moves a [] b → SoFar w watch peer start unread blank None a left written at_ms c → SoFar w watch peer start unread blank None b left written at_ms c
looked w watch peer start a b unread blank left written at_ms c h s = record {
  heard = s.heard;
  said = s.said;
  deeds = s.deeds;
  talks = s.talks;
  shown_at = s.shown_at;
  joined = s.joined;
  goes = goes_nowhere w start a b s.deeds h s.goes;
  read = s.read;
  out = s.out;
  ends_so = tt;
}

-- a read by a reader that was told first how long to wait
pub hears_kept : (h : Heard) (a b c : Option (List ℕ)) (buffer : List ℕ) → Keeps a b → Hears h b c buffer → Hears h a c buffer
hears_kept (hearing.Bytes count) a b c buffer k h = Consumes-trans a b c [] (take count buffer) (Consumes-kept a a b [] (Consumes-nil a) k) h
hears_kept hearing.Nothing a b c buffer k h = Keeps-trans a b c k h
hears_kept (hearing.Ended PeerClosed) a b c buffer k h = (Consumes-trans a b c [] [] (Consumes-kept a a b [] (Consumes-nil a) k) h.0, h.1)
hears_kept (hearing.Ended ReadFault) a b c buffer k h = Keeps-trans a b c k h
hears_kept (hearing.Ended SessionEnded) a b c buffer k h = absurd h
hears_kept (hearing.Ended WriteFault) a b c buffer k h = absurd h
hears_kept (hearing.Ended (StoreFault fault)) a b c buffer k h = absurd h

-- nothing came
pub kept : {S : Type 0} (w : Ways S) (watch : WatchNow) (peer : ℕ) (start now : S) (unread blank left read written : Option (List ℕ)) (at_ms : ℕ) (c : Client)
    → Keeps left read → SoFar w watch peer start unread blank None now left written at_ms c → SoFar w watch peer start unread blank None now read written at_ms c
kept w watch peer start now unread blank left read written at_ms c k s = record {
  heard = s.heard;
  said = s.said;
  deeds = s.deeds;
  talks = s.talks;
  shown_at = s.shown_at;
  joined = s.joined;
  goes = s.goes;
  read = Consumes-kept unread left read s.heard s.read k;
  out = s.out;
  ends_so = tt;
}

-- nothing came, and the store's list was emptied
pub rested : {S : Type 0} (w : Ways S) (watch : WatchNow) (peer : ℕ) (start a b : S) (unread blank left read written : Option (List ℕ)) (at_ms : ℕ) (c : Client)
    → w.same_but_calls a b → Keeps left read → SoFar w watch peer start unread blank None a left written at_ms c → SoFar w watch peer start unread blank None b read written at_ms c
rested w watch peer start a b unread blank left read written at_ms c h k s = record {
  heard = s.heard;
  said = s.said;
  deeds = s.deeds;
  talks = s.talks;
  shown_at = s.shown_at;
  joined = s.joined;
  goes = Empties s.deeds a b s.goes h;
  read = Consumes-kept unread left read s.heard s.read k;
  out = s.out;
  ends_so = tt;
}

-- all that waited to be sent was sent
pub said : {S : Type 0} (w : Ways S) (watch : WatchNow) (peer : ℕ) (start now : S) (unread blank left written after : Option (List ℕ)) (end : Option Ended) (at_ms then_ms : ℕ) (c d : Client)
    → then_ms ≡ at_ms → d ≡ spoken c → GoesOut end written after c.session.output → MayEndSo end left d
    → SoFar w watch peer start unread blank None now left written at_ms c → SoFar w watch peer start unread blank end now left after then_ms d
said w watch peer start now unread blank left written after end at_ms then_ms c d same is out ends_so s = subst (λ (n : ℕ). SoFar w watch peer start unread blank end now left after n d) (sym same) (record {
  heard = s.heard;
  said = s.said ++ c.session.output;
  deeds = s.deeds;
  talks = subst (λ (k : Client). Talks watch peer s.heard s.deeds (s.said ++ c.session.output) at_ms k) (sym is) (Says s.heard s.said s.deeds at_ms c s.talks);
  shown_at = s.shown_at;
  joined = ap (λ (k : Client). k.joined) is ∙ s.joined;
  goes = s.goes;
  read = s.read;
  out = goes_out_behind end blank written after s.said c.session.output s.out out;
  ends_so = ends_so;
})

-- the server closed the session
pub closed : {S : Type 0} (w : Ways S) (watch : WatchNow) (peer : ℕ) (start now : S) (unread blank left written : Option (List ℕ)) (at_ms then_ms : ℕ) (c d : Client)
    → then_ms ≡ at_ms → watch.may_close → (reason : Option ℕ) × IsUnexplained reason × (d ≡ ending None reason c)
    → SoFar w watch peer start unread blank None now left written at_ms c → SoFar w watch peer start unread blank None now left written then_ms d
closed w watch peer start now unread blank left written at_ms then_ms c d same may h s = subst (λ (n : ℕ). SoFar w watch peer start unread blank None now left written n d) (sym same) (record {
  heard = s.heard;
  said = s.said;
  deeds = s.deeds;
  talks = subst (λ (k : Client). Talks watch peer s.heard s.deeds s.said at_ms k) (sym h.2) (Closes s.heard s.said s.deeds at_ms c h.0 may h.1 s.talks);
  shown_at = s.shown_at;
  joined = ap (λ (k : Client). k.joined) h.2 ∙ s.joined;
  goes = s.goes;
  read = s.read;
  out = s.out;
  ends_so = tt;
})

-- if the session could be ended, it has ended
pub ended_ok : {X : Type 0} (r : Result X SessionFault) (old new : Contents) (step : Result Contents SessionFault) → is_err r ≡ false → Does r old new step → new ≡ or_same old step
ended_ok (Ok x) old new step h k = rw k refl
ended_ok (Err fault) old new step h k = cc

-- ---- the end

-- the last calls, if the Down was submitted
lasts_at : {S : Type 0} (w : Ways S) (ended : Ended) (peer : ℕ) (joined : Bool) (new : S) (last : List Deed) → owes_down ended ≡ false → IsDown peer joined last → w.calls new ≡ calls_of last → Lasts ended w peer joined new last
lasts_at w PeerClosed peer joined new last here h k = (h, k)
lasts_at w SessionEnded peer joined new last here h k = (h, k)
lasts_at w ReadFault peer joined new last here h k = (h, k)
lasts_at w WriteFault peer joined new last here h k = (h, k)
lasts_at w (StoreFault fault) peer joined new last here h k = cc

-- a connection is over, and if its peer was joined its Down was submitted
pub over : {S : Type 0} (w : Ways S) (watch : WatchNow) (peer : ℕ) (start mid new : S) (unread blank left written : Option (List ℕ)) (ended : Ended) (reason : Option EndReason) (at_ms : ℕ) (c : Client)
    → (s : SoFar w watch peer start unread blank (Some ended) mid left written at_ms c) → c.session.output ≡ [] → reason ≡ c.session.end
    → (last : List Deed) × IsDown peer c.joined last × Goes w start (s.deeds ++ last) new × (w.calls new ≡ calls_of last)
    → IsServed w watch peer start unread blank (record { ended = ended; reason = reason }) new left written
over w watch peer start mid new unread blank left written ended reason at_ms c s silent why h =
    let down : IsDown peer (joined_after false (calls_of s.deeds)) h.0 = subst (λ (is : Bool). IsDown peer is h.0) s.joined h.1 in
    record {
      heard = s.heard;
      said = s.said;
      deeds = s.deeds;
      last = h.0;
      at_ms = at_ms;
      client = c;
      talks = s.talks;
      silent = silent;
      reason = why;
      goes = h.2;
      down = joined_on false s.deeds h.0 ∙ is_down peer (joined_after false (calls_of s.deeds)) h.0 down ∙ sym s.ends_so.1;
      lasts = lasts_at w ended peer (joined_after false (calls_of s.deeds)) new h.0 s.ends_so.1 down h.3;
      read = s.read;
      out = s.out;
      ends_so = s.ends_so.0;
    }

-- a connection is over, but its peer stays joined
pub left_joined : {S : Type 0} (w : Ways S) (watch : WatchNow) (peer : ℕ) (start mid new : S) (unread blank left written : Option (List ℕ)) (ended : Ended) (reason : Option EndReason) (fault : Fault) (at_ms : ℕ) (c : Client)
    → (s : SoFar w watch peer start unread blank (Some ended) mid left written at_ms c) → c.session.output ≡ [] → reason ≡ c.session.end
    → (c.joined ≡ true) × Goes w start s.deeds new
    → IsServed w watch peer start unread blank (record { ended = StoreFault fault; reason = reason }) new left written
left_joined w watch peer start mid new unread blank left written ended reason fault at_ms c s silent why h = record {
  heard = s.heard;
  said = s.said;
  deeds = s.deeds;
  last = [];
  at_ms = at_ms;
  client = c;
  talks = s.talks;
  silent = silent;
  reason = why;
  goes = subst (λ (all : List Deed). Goes w start all new) (sym (append-nil s.deeds)) h.1;
  down = joined_on false s.deeds [] ∙ sym s.joined ∙ h.0;
  lasts = refl;
  read = s.read;
  out = out_at_fault (Some ended) blank written s.said fault s.out;
  ends_so = tt;
}
