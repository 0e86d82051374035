-- After each event, a peer that isn't known has no path.
use Rattle.std.proofs.Common.{◌≡◌, ◌==◌, ℕ, Bool, true, false, not, List, [], refl, sym, subst}
use Rattle.std.specs.Prelude.{Option, Some, None, unwrap_or}
use Rattle.std.proofs.lemmas.Bool.{eqb-true, not-false, both_ways}
use Rattle.te_base.specs.Ted.{Ted}
use Rattle.lsp_base.specs.Refusals.{◌⨟◌}
use Rattle.lsp_base.specs.declared.why.Why.TheVariants.{UnknownPeer}
use Rattle.delegate_rules.specs.Effects.{report_result}
use Rattle.delegate_rules.specs.Returns.{must_be_held}
use Rattle.initiate_rules.specs.Checks.{may_be_deleted}
use Rattle.initiate_rules.specs.Messages.{return_message, delete_message}
use Rattle.commit_core.specs.declared.ticket.Ticket.{Ticket}
use Rattle.commit_core.specs.declared.verdict.Verdict.{Verdict}
use Rattle.commit_core.specs.declared.verdict.Verdict.TheVariants as verdicts
use Rattle.step_core.specs.Asks.{may_be_asked, constraints_for}
use Rattle.step_core.specs.Consistent.{IsConsistent}
use Rattle.step_core.specs.Grants.{answered, committed, ended, granted, judged, message_of, saying, taken, verdict_on}
use Rattle.step_core.specs.Laws.{is_other, peer_of, peer_of_ticket}
use Rattle.step_core.specs.Outcomes.{done, must_be_down, must_be_known, must_be_up, must_have_a_number, must_take_initiations, must_take_updates, Outcome, decided}
use Rattle.link_reload.specs.Reloads.{must_have_links}
use Rattle.step_core.specs.Reloads.{after_reload}
use Rattle.step_core.specs.States.{State, affected, asked, emptied, empty, in_session, is_known, next_number, out_of_session, peer_at, put_peer, synchronized, with_message}
use Rattle.step_core.specs.Steps.{after_delete, after_down, after_expire, after_marker, after_refused, after_return, after_up, booked, deleted, drained, may_be_known, step}
use Rattle.step_core.specs.declared.event.Event.{Event}
use Rattle.step_core.specs.declared.event.Event.TheVariants.{Up, Report, Marker, Down, Expire, Drain, Refused as PeerRefused, Return, Delete, Ask, Take, Commit, Reload}
use Rattle.step_core.specs.declared.peer.Peer.{Peer}
use Rattle.ticket_table.specs.Tickets.{first_waiting, ticket_at, put_back}
use Rattle.step_core.proofs.Consistent.{number_of}
use Rattle.step_core.proofs.StepLaws.{asked-has, booked-has, decided-has, in_vain-has, others_stay}
use Rattle.history_laws.proofs.Known.{KnownAt, no_paths_left, other_known_at, put_at, where_known, first_passes, test_passes}
use Rattle.lsp_words.specs.declared.object.Capabilities.{Capabilities}
use Rattle.pcep_messages.specs.declared.message.Message.{Message}
use Rattle.pcep_messages.specs.declared.message.StateReport.{StateReport}
use Rattle.lsp_base.specs.Lsps.{lsp_at}
use Rattle.lsp_base.specs.declared.effect.Effect.{Effect}
use Rattle.lsp_base.specs.declared.why.Why.{Why}
use Rattle.commit_core.specs.declared.ticket.Purpose.{Purpose}

pub decided-if : (P : State → Type 0) (s : State) (whys : Option Why) (o : Outcome) → P s → (whys ≡ None → P o.state) → P (decided s whys o).state
decided-if P s (Some why) o here there = here
decided-if P s None o here there = there refl

-- ---- the peer of the event

-- if this peer is set, it is known afterwards
set : (s t : State) (n : ℕ) (p : Peer) → p.number ≡ n → t.peers ≡ put_peer s.peers p → KnownAt t n
set s t n p number is = where_known t n (subst (λ (ps : List Peer). is_known ps n ≡ true) (sym is) (put_at n s.peers p number))

known_if_up : (s : State) (n : ℕ) → must_be_up s.peers n ≡ None → is_known s.peers n ≡ true
known_if_up s n up = test_passes (is_known s.peers n) UnknownPeer (first_passes (must_be_known s.peers n) _ up)

judged_known : (s : State) (t : Ticket) (links : List ℕ) (v : Verdict) → KnownAt s t.peer → KnownAt (judged s t links v).state t.peer
judged_known s t links verdicts.Grant here = set s (granted s t links) t.peer (asked (peer_at s.peers t.peer) (message_of s.te.links (next_number s t.peer) t.constraints links t.purpose)) (number_of t.peer s.peers) refl
judged_known s t links verdicts.Answer here = set s (answered s t links) t.peer (with_message (peer_at s.peers t.peer) (message_of s.te.links (next_number s t.peer) t.constraints links t.purpose)) (number_of t.peer s.peers) refl
judged_known s t links verdicts.Again here = here
judged_known s t links verdicts.NoPath here = in_vain-has (λ u. KnownAt u t.peer) (ended s t) t.peer t.purpose here (λ m. set s (saying (ended s t) t.peer m) t.peer (with_message (peer_at s.peers t.peer) m) (number_of t.peer s.peers) refl)
judged_known s t links verdicts.GivenUp here = in_vain-has (λ u. KnownAt u t.peer) (ended s t) t.peer t.purpose here (λ m. set s (saying (ended s t) t.peer m) t.peer (with_message (peer_at s.peers t.peer) m) (number_of t.peer s.peers) refl)
judged_known s t links verdicts.Gone here = here

-- if a path isn't of another peer than the event's, it is of the event's peer
is_own : (m n : ℕ) → not (m == n) ≡ false → m ≡ n
is_own m n own = eqb-true m n (not-false (m == n) own)

own_of : (s t : State) (n m : ℕ) → not (m == n) ≡ false → (KnownAt s n → KnownAt t n) → KnownAt s m → KnownAt t m
own_of s t n m own by here =
    let same : m ≡ n = is_own m n own in
    subst (KnownAt t) (sym same) (by (subst (KnownAt s) same here))

commit_known : (s : State) (offer : Option (List ℕ)) (o : Option Ticket) (m : ℕ) → is_other (peer_of_ticket o) m ≡ false → KnownAt s m → KnownAt (committed s offer o).state m
commit_known s offer None m own here = here
commit_known s offer (Some t) m own here = decided-has (λ u. KnownAt u m) s _ _ here (own_of s (judged s t (unwrap_or offer []) (verdict_on s t offer)).state t.peer m own (judged_known s t (unwrap_or offer []) (verdict_on s t offer)) here)

take_known : (s : State) (o : Option Ticket) (m : ℕ) → KnownAt s m → KnownAt (taken s o).state m
take_known s None m here = here
take_known s (Some t) m here = here

own_known : (s : State) (event : Event) (m : ℕ) → is_other (peer_of s event) m ≡ false → KnownAt s m → KnownAt (step s event).state m
unfolding step
own_known s (Up n sent) m own here = own_of s (step s (Up n sent)).state n m own (λ known. decided-has (λ t. KnownAt t n) s (must_be_down s.peers n ⨟ may_be_known s.peers n) (done (after_up s n sent)) known (set s (after_up s n sent) n (in_session (peer_at s.peers n) _ sent) (number_of n s.peers) refl)) here
own_known s (Report n r) m own here = own_of s (step s (Report n r)).state n m own (λ known. decided-if (λ t. KnownAt t n) s (must_be_up s.peers n) (booked s n r.plsp (report_result s.base s.te n r)) known (λ up. booked-has (λ t. KnownAt t n) s n r.plsp (report_result s.base s.te n r) known (λ e is. where_known (affected s n e) n (known_if_up s n up)))) here
own_known s (Marker n) m own here = own_of s (step s (Marker n)).state n m own (λ known. decided-has (λ t. KnownAt t n) s (must_be_up s.peers n) (done (after_marker s n)) known (set s (after_marker s n) n (synchronized (peer_at s.peers n)) (number_of n s.peers) refl)) here
own_known s (Down n) m own here = own_of s (step s (Down n)).state n m own (λ known. decided-has (λ t. KnownAt t n) s (must_be_up s.peers n) (done (after_down s n)) known (set s (after_down s n) n (out_of_session (peer_at s.peers n)) (number_of n s.peers) refl)) here
own_known s (Expire n) m own here = own_of s (step s (Expire n)).state n m own (λ known. decided-has (λ t. KnownAt t n) s (must_be_known s.peers n ⨟ must_be_down s.peers n) (done (after_expire s n)) known (λ no. no_paths_left s.base n)) here
own_known s (Drain n) m own here = own_of s (step s (Drain n)).state n m own (λ known. decided-has (λ t. KnownAt t n) s (must_be_up s.peers n) (drained s n) known (set s (drained s n).state n (emptied (peer_at s.peers n)) (number_of n s.peers) refl)) here
own_known s (PeerRefused n srp) m own here = own_of s (step s (PeerRefused n srp)).state n m own (λ known. decided-if (λ t. KnownAt t n) s (must_be_up s.peers n) (done (after_refused s n srp)) known (λ up. where_known (after_refused s n srp) n (known_if_up s n up))) here
own_known s (Return n plsp) m own here = own_of s (step s (Return n plsp)).state n m own (λ known. decided-has (λ t. KnownAt t n) s (must_take_updates s.peers n ⨟ must_be_held s.base n plsp ⨟ must_have_a_number s n) (done (after_return s n plsp)) known (set s (after_return s n plsp) n (asked (peer_at s.peers n) (return_message (next_number s n) plsp)) (number_of n s.peers) refl)) here
own_known s (Delete n plsp) m own here = own_of s (step s (Delete n plsp)).state n m own (λ known. decided-has (λ t. KnownAt t n) s (must_take_initiations s.peers n ⨟ may_be_deleted s.base n plsp ⨟ must_have_a_number s n) (deleted s n plsp) known (set s (after_delete s n plsp) n (asked (peer_at s.peers n) (delete_message (next_number s n) plsp)) (number_of n s.peers) refl)) here
own_known s (Ask n purpose) m own here = decided-has (λ t. KnownAt t m) s (may_be_asked s n purpose) _ here (asked-has (λ t. KnownAt t m) s n purpose (constraints_for s.base.records n purpose) here (λ t of next. here))
own_known s Take m own here = take_known s (first_waiting s.tickets) m here
own_known s (Commit id offer) m own here = commit_known s offer (ticket_at s.tickets id) m own here
own_known s (Reload entries) m own here = decided-has (λ t. KnownAt t m) s (must_have_links s.te entries) (done (after_reload s entries)) here here

-- ---- any peer

pub step_known : (s : State) (event : Event) → IsConsistent s → ((n : ℕ) → KnownAt s n) → (m : ℕ) → KnownAt (step s event).state m
step_known s event c known m = by (is_other (peer_of s event) m) refl
  where
    by : (b : Bool) → is_other (peer_of s event) m ≡ b → KnownAt (step s event).state m
    by true other = other_known_at (peer_of s event) s (step s event).state m other (others_stay s event c.distinct) (known m)
    by false own = own_known s event m own (known m)

pub empty_known : (te : Ted) (n : ℕ) → KnownAt (empty te) n
empty_known te n = λ no. refl
