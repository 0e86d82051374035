-- After each event, a peer that is down has no message waiting for it, and isn't synchronizing.
use Rattle.std.proofs.Common.{◌≡◌, ◌==◌, ◌&&◌, ◌||◌, ℕ, Bool, true, false, cond, not, List, [], ◌∷◌, find, refl, sym, filter, ap, subst}
use Rattle.std.specs.Prelude.{Option, Some, None, All, option_map, unwrap_or, if◌then◌else◌}
use Rattle.std.proofs.lemmas.Bool.{both_ways}
use Rattle.std.proofs.lemmas.List.Elements.{All-nil, All-cons, All-head, All-tail, All-filter}
use Rattle.lsp_words.specs.declared.object.Capabilities.{Capabilities}
use Rattle.pcep_messages.specs.declared.message.Message.{Message}
use Rattle.te_base.specs.Ted.{Ted}
use Rattle.lsp_base.specs.Lsps.{Lsps}
use Rattle.lsp_base.specs.Refusals.{unless, ◌⨟◌}
use Rattle.lsp_base.specs.declared.path.Path.{Path}
use Rattle.lsp_base.specs.declared.why.Why.TheVariants.{PeerDown}
use Rattle.delegate_rules.specs.Effects.{report_result}
use Rattle.delegate_rules.specs.Returns.{must_be_held}
use Rattle.initiate_rules.specs.Checks.{may_be_deleted}
use Rattle.initiate_rules.specs.Messages.{return_message, delete_message}
use Rattle.commit_core.specs.Offers.{is_request}
use Rattle.commit_core.specs.Verdicts.{is_gone, is_moot, judged as judge, verdict}
use Rattle.commit_core.specs.declared.ticket.Ticket.{Ticket}
use Rattle.commit_core.specs.declared.verdict.PeerView.{PeerView}
use Rattle.commit_core.specs.declared.verdict.Verdict.{Verdict}
use Rattle.commit_core.specs.declared.verdict.Verdict.TheVariants as verdicts
use Rattle.step_core.specs.Asks.{may_be_asked, constraints_for}
use Rattle.step_core.specs.Grants.{committed, ended, judged, message_of, path_of, taken, verdict_on, view_of}
use Rattle.step_core.specs.Outcomes.{done, must_be_down, must_be_in_sync, must_be_known, must_be_up, must_have_a_number, must_take_initiations, must_take_updates}
use Rattle.link_reload.specs.Reloads.{must_have_links}
use Rattle.step_core.specs.Reloads.{after_reload}
use Rattle.step_core.specs.States.{State, asked, emptied, in_session, is_peer, next_number, out_of_session, peer_at, put_peer, synchronized, unknown_peer, with_message, empty}
use Rattle.step_core.specs.Steps.{after_down, after_expire, after_marker, after_refused, after_return, after_up, booked, deleted, drained, may_be_known, step}
use Rattle.step_core.specs.declared.event.Event.{Event}
use Rattle.step_core.specs.declared.event.Event.TheVariants.{Up, Report, Marker, Down, Expire, Drain, Refused as PeerRefused, Return, Delete, Ask, Take, Commit, Reload}
use Rattle.step_core.specs.declared.peer.Peer.{Peer}
use Rattle.ticket_table.specs.Tickets.{first_waiting, ticket_at}
use Rattle.step_core.proofs.StepLaws.{asked-has, booked-has, decided-has, in_vain-has}
use Rattle.history_core.specs.Histories.{Content, StartsFromText, Replays}
use Rattle.history_laws.specs.WellFormed.{IsQuietIfDown}
use Rattle.history_laws.proofs.Led.{led_from_text}
use Rattle.history_laws.proofs.Known.{first_passes, last_passes, test_passes}
use Rattle.history_laws.proofs.KnownSteps.{decided-if}
use Rattle.lsp_base.specs.declared.why.Why.{Why}

abbrev AreQuiet : State → Type 0
AreQuiet s = All IsQuietIfDown s.peers

-- ---- a peer that is set, or found

put_all : (p : Peer) (ps : List Peer) → IsQuietIfDown p → All IsQuietIfDown ps → All IsQuietIfDown (put_peer ps p)
put_all p [] new all = All-cons IsQuietIfDown p [] new all
put_all p (q ∷ ps) new all = by (is_peer p.number q) (put_all p ps new (All-tail IsQuietIfDown q ps all))
  where
    by : (b : Bool) → All IsQuietIfDown (put_peer ps p) → All IsQuietIfDown (cond b (p ∷ ps) (q ∷ put_peer ps p))
    by true rest = All-cons IsQuietIfDown p ps new (All-tail IsQuietIfDown q ps all)
    by false rest = All-cons IsQuietIfDown q (put_peer ps p) (All-head IsQuietIfDown q ps all) rest

at : (n : ℕ) (ps : List Peer) → All IsQuietIfDown ps → IsQuietIfDown (peer_at ps n)
at n [] all = record { outgoing = λ down. refl; syncing = λ down. refl }
at n (q ∷ ps) all = by (is_peer n q) (at n ps (All-tail IsQuietIfDown q ps all))
  where
    by : (b : Bool) → IsQuietIfDown (peer_at ps n) → IsQuietIfDown (unwrap_or (cond b (Some q) (find (is_peer n) ps)) (unknown_peer n))
    by true rest = All-head IsQuietIfDown q ps all
    by false rest = rest

-- a peer that is up
if_up : (p : Peer) → p.up ≡ true → IsQuietIfDown p
if_up p up = record { outgoing = λ down. absurd (both_ways p.up down up); syncing = λ down. absurd (both_ways p.up down up) }

-- ---- an event that sends the peer a message only comes while the peer is up

up_if_in_sync : (ps : List Peer) (n : ℕ) → must_be_in_sync ps n ≡ None → (peer_at ps n).up ≡ true
up_if_in_sync ps n is = test_passes (peer_at ps n).up PeerDown (first_passes (unless (peer_at ps n).up PeerDown) _ (last_passes (must_be_known ps n) _ is))

up_by : (up same rest : Bool) → (not (up && same) || rest) ≡ false → up ≡ true
up_by true same rest is = refl
up_by false same rest is = absurd (cc (is))

gone_by : (gone : Bool) (rest w : Verdict) → (if gone then verdicts.Gone else rest) ≡ w → (w ≡ verdicts.Gone → ⊥) → gone ≡ false
gone_by true rest w is other = absurd (other (sym is))
gone_by false rest w is other = refl

not_gone : (t : Ticket) (offer : Option Path) (lsps : Lsps) (te : Ted) (v : PeerView) (w : Verdict) → verdict t offer lsps te v ≡ w → (w ≡ verdicts.Gone → ⊥) → is_gone lsps t v ≡ false
unfolding verdict
not_gone t offer lsps te v w is other = gone_by (is_gone lsps t v) (judge t offer lsps te v) w is other

up_if_judged : (s : State) (t : Ticket) (offer : Option (List ℕ)) (w : Verdict) → verdict_on s t offer ≡ w → (w ≡ verdicts.Gone → ⊥) → (peer_at s.peers t.peer).up ≡ true
up_if_judged s t offer w is other =
    let v = view_of s t.peer in
    up_by v.up (v.session == t.session) (not (is_request t.purpose) && v.syncing || is_moot s.base t.peer t.purpose) (not_gone t (option_map (path_of s t) offer) s.base s.te v w is other)

sent : (s : State) (n : ℕ) (message : Message) → (peer_at s.peers n).up ≡ true → AreQuiet s → All IsQuietIfDown (put_peer s.peers (with_message (peer_at s.peers n) message))
sent s n message up all = put_all (with_message (peer_at s.peers n) message) s.peers (if_up _ up) all

asked_for : (s : State) (n : ℕ) (message : Message) → (peer_at s.peers n).up ≡ true → AreQuiet s → All IsQuietIfDown (put_peer s.peers (asked (peer_at s.peers n) message))
asked_for s n message up all = put_all (asked (peer_at s.peers n) message) s.peers (if_up _ up) all

-- ---- tickets

judged_quiet : (s : State) (t : Ticket) (offer : Option (List ℕ)) (v : Verdict) → verdict_on s t offer ≡ v → AreQuiet s → AreQuiet (judged s t (unwrap_or offer []) v).state
judged_quiet s t offer verdicts.Grant is all = asked_for s t.peer (message_of s.te.links (next_number s t.peer) t.constraints (unwrap_or offer []) t.purpose) (up_if_judged s t offer verdicts.Grant is (λ no. cc)) all
judged_quiet s t offer verdicts.Answer is all = sent s t.peer (message_of s.te.links (next_number s t.peer) t.constraints (unwrap_or offer []) t.purpose) (up_if_judged s t offer verdicts.Answer is (λ no. cc)) all
judged_quiet s t offer verdicts.Again is all = all
judged_quiet s t offer verdicts.NoPath is all = in_vain-has AreQuiet (ended s t) t.peer t.purpose all (λ m. sent s t.peer m (up_if_judged s t offer verdicts.NoPath is (λ no. cc)) all)
judged_quiet s t offer verdicts.GivenUp is all = in_vain-has AreQuiet (ended s t) t.peer t.purpose all (λ m. sent s t.peer m (up_if_judged s t offer verdicts.GivenUp is (λ no. cc)) all)
judged_quiet s t offer verdicts.Gone is all = all

commit_quiet : (s : State) (offer : Option (List ℕ)) (o : Option Ticket) → AreQuiet s → AreQuiet (committed s offer o).state
commit_quiet s offer None all = all
commit_quiet s offer (Some t) all = decided-has AreQuiet s _ _ all (judged_quiet s t offer (verdict_on s t offer) refl all)

take_quiet : (s : State) (o : Option Ticket) → AreQuiet s → AreQuiet (taken s o).state
take_quiet s None all = all
take_quiet s (Some t) all = all

-- ---- any event

up_quiet : (s : State) (n : ℕ) (sent : Option Capabilities) → AreQuiet s → AreQuiet (after_up s n sent)
up_quiet s n sent all = put_all (in_session (peer_at s.peers n) _ sent) s.peers (if_up _ refl) all

marker_quiet : (s : State) (n : ℕ) → AreQuiet s → AreQuiet (after_marker s n)
marker_quiet s n all = put_all (synchronized (peer_at s.peers n)) s.peers (record { outgoing = (at n s.peers all).outgoing; syncing = λ down. refl }) all

down_quiet : (s : State) (n : ℕ) → AreQuiet s → AreQuiet (after_down s n)
down_quiet s n all = put_all (out_of_session (peer_at s.peers n)) s.peers (record { outgoing = λ down. refl; syncing = λ down. refl }) all

drain_quiet : (s : State) (n : ℕ) → AreQuiet s → AreQuiet (drained s n).state
drain_quiet s n all = put_all (emptied (peer_at s.peers n)) s.peers (record { outgoing = λ down. refl; syncing = (at n s.peers all).syncing }) all

step_quiet : (s : State) (event : Event) → AreQuiet s → AreQuiet (step s event).state
unfolding step
step_quiet s (Up n sent) all = decided-has AreQuiet s (must_be_down s.peers n ⨟ may_be_known s.peers n) (done (after_up s n sent)) all (up_quiet s n sent all)
step_quiet s (Report n r) all = decided-has AreQuiet s (must_be_up s.peers n) (booked s n r.plsp (report_result s.base s.te n r)) all (booked-has AreQuiet s n r.plsp (report_result s.base s.te n r) all (λ e is. all))
step_quiet s (Marker n) all = decided-has AreQuiet s (must_be_up s.peers n) (done (after_marker s n)) all (marker_quiet s n all)
step_quiet s (Down n) all = decided-has AreQuiet s (must_be_up s.peers n) (done (after_down s n)) all (down_quiet s n all)
step_quiet s (Expire n) all = decided-has AreQuiet s (must_be_known s.peers n ⨟ must_be_down s.peers n) (done (after_expire s n)) all (All-filter (λ (p : Peer). not (is_peer n p)) IsQuietIfDown s.peers all)
step_quiet s (Drain n) all = decided-has AreQuiet s (must_be_up s.peers n) (drained s n) all (drain_quiet s n all)
step_quiet s (PeerRefused n srp) all = decided-has AreQuiet s (must_be_up s.peers n) (done (after_refused s n srp)) all all
step_quiet s (Return n plsp) all = decided-if AreQuiet s (must_take_updates s.peers n ⨟ must_be_held s.base n plsp ⨟ must_have_a_number s n) (done (after_return s n plsp)) all (λ is. asked_for s n (return_message (next_number s n) plsp) (up_if_in_sync s.peers n (first_passes (must_be_in_sync s.peers n) _ (first_passes (must_take_updates s.peers n) _ is))) all)
step_quiet s (Delete n plsp) all = decided-if AreQuiet s (must_take_initiations s.peers n ⨟ may_be_deleted s.base n plsp ⨟ must_have_a_number s n) (deleted s n plsp) all (λ is. asked_for s n (delete_message (next_number s n) plsp) (up_if_in_sync s.peers n (first_passes (must_be_in_sync s.peers n) _ (first_passes (must_take_initiations s.peers n) _ is))) all)
step_quiet s (Ask n purpose) all = decided-has AreQuiet s (may_be_asked s n purpose) _ all (asked-has AreQuiet s n purpose (constraints_for s.base.records n purpose) all (λ t own next. all))
step_quiet s Take all = take_quiet s (first_waiting s.tickets) all
step_quiet s (Commit id offer) all = commit_quiet s offer (ticket_at s.tickets id) all
step_quiet s (Reload entries) all = decided-has AreQuiet s (must_have_links s.te entries) (done (after_reload s entries)) all all

pub quiet : (d : Content) → Replays d → StartsFromText d → All IsQuietIfDown d.state.peers
quiet d whole starts = led_from_text AreQuiet (λ te. All-nil IsQuietIfDown) step_quiet d whole starts
