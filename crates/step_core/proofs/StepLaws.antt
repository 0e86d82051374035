-- What the layers above use about the step.
use Rattle.std.proofs.Common.{◌≡◌, ◌∙◌, ℕ, ◌+◌, ◌≤◌, Bool, true, false, cond, List, IsPermutation, refl, sym, subst, ap, arith}
use Rattle.std.specs.Prelude.{◌==◌, [], Option, Some, None, IfSome, Result, Ok, Err, OnOk, OnErr, find, unwrap_or}
use Rattle.std.proofs.lemmas.List.Sorted.{IsPermutation-refl}
use Rattle.std.specs.declared.alloc.AllocError.{AllocError}
use Rattle.lsp_words.specs.declared.object.Capabilities.{Capabilities}
use Rattle.te_base.specs.Values.{IsSameNetwork}
use Rattle.te_base.proofs.Values.{same-refl}
use Rattle.lsp_base.specs.Lsps.{Lsps, AreDistinct, changed, lsp_at}
use Rattle.lsp_base.specs.Refusals.{◌⨟◌}
use Rattle.lsp_base.specs.declared.effect.Effect.{Effect}
use Rattle.lsp_base.specs.declared.why.Why.{Why}
use Rattle.sync_rules.specs.Peers.{up_effect, marker_effect, down_effect, expire_effect}
use Rattle.delegate_rules.specs.Effects.{report_result}
use Rattle.delegate_rules.specs.Refusals.{refused_effect}
use Rattle.delegate_rules.specs.Returns.{must_be_held, given_back}
use Rattle.initiate_rules.specs.Checks.{may_be_deleted}
use Rattle.initiate_rules.specs.Messages.{return_message, delete_message}
use Rattle.commit_core.specs.Offers.{offered_path}
use Rattle.commit_core.specs.declared.ticket.Purpose.{Purpose}
use Rattle.commit_core.specs.declared.ticket.Purpose.TheVariants as purposes
use Rattle.commit_core.specs.declared.ticket.Ticket.{Ticket}
use Rattle.commit_core.specs.declared.verdict.Verdict.{Verdict}
use Rattle.commit_core.specs.declared.verdict.Verdict.TheVariants as verdicts
use Rattle.lsp_base.specs.declared.lsp.Constraints.{Constraints}
use Rattle.pcep_messages.specs.declared.message.Message.{Message}
use Rattle.step_core.specs.declared.event.Event.{Event}
use Rattle.step_core.specs.declared.event.Event.TheVariants.{Up, Report, Marker, Down, Expire, Drain, Refused as PeerRefused, Return, Delete, Ask, Take, Commit, Reload}
use Rattle.step_core.specs.declared.event.Reply.{Reply}
use Rattle.step_core.specs.declared.event.Reply.TheVariants.{Refused}
use Rattle.step_core.specs.States.{State, affected, moves_paths, peer_at, in_session, synchronized, out_of_session, emptied, asked, with_message, next_number}
use Rattle.step_core.specs.Outcomes.{Outcome, decided, done, must_be_up, must_be_down, must_be_known, must_take_updates, must_take_initiations, must_have_a_number}
use Rattle.step_core.specs.Asks.{may_be_asked, must_have_ends, may_have_one_more, with_ticket, new_ticket, asked_with, constraints_for}
use Rattle.step_core.specs.Grants.{asking, saying, ended, granting, granted, answered_in_vain, judged, committed, taken, path_of, message_of, name_of_grant, verdict_on}
use Rattle.link_reload.specs.Reloads.{must_have_links}
use Rattle.step_core.specs.Reloads.{after_reload}
use Rattle.link_reload.specs.declared.entry.LinkReload.{LinkReload}
use Rattle.step_core.specs.Steps.{step, booked, may_be_known, after_up, after_marker, after_down, after_expire, drained, after_refused, after_return, removal_asked, after_delete, deleted}
use Rattle.ticket_table.specs.Tickets.{first_waiting, is_ticket, is_waiting, put_back, searched_for, ticket_at, waiting_again, without_ticket}
use Rattle.step_core.specs.Laws.{peer_of, peer_of_ticket, OthersStay, CountsRise}
use Rattle.step_core.specs.declared.peer.Peer.{Peer}
use Rattle.step_core.proofs.Others.{IsOwn, same_number, other_paths, other_records, other_peers, changed-paths, changed-records, changed-known, with_stale-paths, with_stale-records, peer_at-number, put_peer-others, forget-others}
use Rattle.step_core.proofs.Effects.{up-own, marker-own, down-own, expire-own, report-own, refused-own, return-own, removal_asked-own, granting-own}
use Rattle.link_reload.proofs.Entries.{with_entries-same}
use Rattle.step_core.proofs.OtherTickets.{other_names, other_tickets, names_without-others, same_others, with_name-others, with_ticket-others, edit-others, drop-others, only_own, found_by_own}

-- if P holds of the state, and of the outcome if no test fails, it holds after the event
pub decided-has : (P : State → Type 0) (s : State) (whys : Option Why) (o : Outcome) → P s → P o.state → P (decided s whys o).state
decided-has P s (Some why) o here there = here
decided-has P s None o here there = there

-- if P holds of the state, and after any effect that a report may have, it holds after the report
pub booked-has : (P : State → Type 0) (s : State) (n plsp : ℕ) (result : Result Effect Why) → P s → ((e : Effect) → result ≡ Ok e → P (affected s n e)) → P (booked s n plsp result).state
booked-has P s n plsp (Err why) here there = here
booked-has P s n plsp (Ok e) here there = there e refl

-- if P holds of the state, also with one more ticket of the peer, it holds after an ask
pub asked-has : (P : State → Type 0) (s : State) (n : ℕ) (purpose : Purpose) (c : Option Constraints) → P s → ((t : Ticket) → t.peer ≡ n → t.id ≡ s.last_ticket + 1 → P (with_ticket s t).state) → P (asked_with s n purpose c).state
asked-has P s n purpose None here there = here
asked-has P s n purpose (Some c) here there = decided-has P s (must_have_ends s.te c ⨟ may_have_one_more s.tickets) (with_ticket s (new_ticket s n purpose c)) here (there (new_ticket s n purpose c) refl refl)

-- if P stays when messages are added, it holds after a ticket ended in vain
pub in_vain-has : (P : State → Type 0) (s : State) (n : ℕ) (purpose : Purpose) → P s → ((m : Message) → P (saying s n m)) → P (answered_in_vain s n purpose)
in_vain-has P s n (purposes.Update plsp) here there = here
in_vain-has P s n (purposes.Initiate name constraints) here there = here
in_vain-has P s n (purposes.Answer request plsp constraints) here there = there _

-- what each verdict does
judged-has : (P : State → Type 0) (s : State) (t : Ticket) (links : List ℕ) (v : Verdict) → P (granted s t links) → P (record s { tickets = put_back s.tickets t.id }) → P (ended s t) → ((m : Message) → P (saying (ended s t) t.peer m)) → P (judged s t links v).state
judged-has P s t links verdicts.Grant grant again end tell = grant
judged-has P s t links verdicts.Answer grant again end tell = tell _
judged-has P s t links verdicts.Again grant again end tell = again
judged-has P s t links verdicts.NoPath grant again end tell = in_vain-has P (ended s t) t.peer t.purpose end tell
judged-has P s t links verdicts.GivenUp grant again end tell = in_vain-has P (ended s t) t.peer t.purpose end tell
judged-has P s t links verdicts.Gone grant again end tell = end

-- the tests of a return
abbrev return_tests : State → ℕ → ℕ → Option Why
return_tests s n plsp = must_take_updates s.peers n ⨟ must_be_held s.base n plsp ⨟ must_have_a_number s n

abbrev deletion_tests : State → ℕ → ℕ → Option Why
deletion_tests s n plsp = must_take_initiations s.peers n ⨟ may_be_deleted s.base n plsp ⨟ must_have_a_number s n

-- ---- nodes, owners, and ends and addresses of links stay

commit_network : (s : State) (offer : Option (List ℕ)) (o : Option Ticket) → IsSameNetwork s.te (committed s offer o).state.te
commit_network s offer None = same-refl s.te
commit_network s offer (Some t) = decided-has (λ u. IsSameNetwork s.te u.te) s _ _ (same-refl s.te) (judged-has (λ u. IsSameNetwork s.te u.te) s t (unwrap_or offer []) (verdict_on s t offer) (same-refl s.te) (same-refl s.te) (same-refl s.te) (λ m. same-refl s.te))

take_network : (s : State) (o : Option Ticket) → IsSameNetwork s.te (taken s o).state.te
take_network s None = same-refl s.te
take_network s (Some t) = same-refl s.te

pub network_stays : (s : State) (event : Event) → IsSameNetwork s.te (step s event).state.te
unfolding step
network_stays s (Up n sent) = decided-has (λ t. IsSameNetwork s.te t.te) s (must_be_down s.peers n ⨟ may_be_known s.peers n) (done (after_up s n sent)) (same-refl s.te) (same-refl s.te)
network_stays s (Report n r) = decided-has (λ t. IsSameNetwork s.te t.te) s (must_be_up s.peers n) (booked s n r.plsp (report_result s.base s.te n r)) (same-refl s.te) (booked-has (λ t. IsSameNetwork s.te t.te) s n r.plsp (report_result s.base s.te n r) (same-refl s.te) (λ e is. same-refl s.te))
network_stays s (Marker n) = decided-has (λ t. IsSameNetwork s.te t.te) s (must_be_up s.peers n) (done (after_marker s n)) (same-refl s.te) (same-refl s.te)
network_stays s (Down n) = decided-has (λ t. IsSameNetwork s.te t.te) s (must_be_up s.peers n) (done (after_down s n)) (same-refl s.te) (same-refl s.te)
network_stays s (Expire n) = decided-has (λ t. IsSameNetwork s.te t.te) s (must_be_known s.peers n ⨟ must_be_down s.peers n) (done (after_expire s n)) (same-refl s.te) (same-refl s.te)
network_stays s (Drain n) = decided-has (λ t. IsSameNetwork s.te t.te) s (must_be_up s.peers n) (drained s n) (same-refl s.te) (same-refl s.te)
network_stays s (PeerRefused n srp) = decided-has (λ t. IsSameNetwork s.te t.te) s (must_be_up s.peers n) (done (after_refused s n srp)) (same-refl s.te) (same-refl s.te)
network_stays s (Return n plsp) = decided-has (λ t. IsSameNetwork s.te t.te) s (return_tests s n plsp) (done (after_return s n plsp)) (same-refl s.te) (same-refl s.te)
network_stays s (Delete n plsp) = decided-has (λ t. IsSameNetwork s.te t.te) s (deletion_tests s n plsp) (deleted s n plsp) (same-refl s.te) (same-refl s.te)
network_stays s (Ask n purpose) = decided-has (λ t. IsSameNetwork s.te t.te) s (may_be_asked s n purpose) _ (same-refl s.te) (asked-has (λ t. IsSameNetwork s.te t.te) s n purpose (constraints_for s.base.records n purpose) (same-refl s.te) (λ t own next. same-refl s.te))
network_stays s Take = take_network s (first_waiting s.tickets)
network_stays s (Commit id offer) = commit_network s offer (ticket_at s.tickets id)
network_stays s (Reload entries) = decided-has (λ t. IsSameNetwork s.te t.te) s (must_have_links s.te entries) (done (after_reload s entries)) (same-refl s.te) (with_entries-same s.te entries)

-- ---- counts rise by at most one, and never fall

rise_by : (s t : State) → (s.changes ≤ t.changes) × (t.changes ≤ s.changes + 1) → (s.last_session ≤ t.last_session) × (t.last_session ≤ s.last_session + 1) → (s.last_ticket ≤ t.last_ticket) × (t.last_ticket ≤ s.last_ticket + 1) → CountsRise s t
rise_by s t changes sessions tickets = record { changes_kept = changes.0; changes_rise = changes.1; sessions_kept = sessions.0; sessions_rise = sessions.1; tickets_kept = tickets.0; tickets_rise = tickets.1 }

same_count : (n : ℕ) → (n ≤ n) × (n ≤ n + 1)
same_count n = (omega arith, omega arith)

one_more : (n m : ℕ) → m ≡ n + 1 → (n ≤ m) × (m ≤ n + 1)
one_more n m is = (omega arith, omega arith)

counted : (b : Bool) (n : ℕ) → (n ≤ cond b (n + 1) n) × (cond b (n + 1) n ≤ n + 1)
counted true n = one_more n (n + 1) refl
counted false n = same_count n

-- if no path is added or dropped, no session begins and nothing is asked for, the counts stay
no_rise : (s t : State) → t.changes ≡ s.changes → t.last_session ≡ s.last_session → t.last_ticket ≡ s.last_ticket → CountsRise s t
no_rise s t changes sessions tickets = rise_by s t (omega arith, omega arith) (omega arith, omega arith) (omega arith, omega arith)

stays : (s : State) → CountsRise s s
stays s = no_rise s s refl refl refl

-- the counts after an effect
effect_rise : (s t : State) (e : Effect) → t.changes ≡ cond (moves_paths e) (s.changes + 1) s.changes → t.last_session ≡ s.last_session → t.last_ticket ≡ s.last_ticket → CountsRise s t
effect_rise s t e changes sessions tickets =
    let c = counted (moves_paths e) s.changes in
    rise_by s t (subst (λ (k : ℕ). (s.changes ≤ k) × (k ≤ s.changes + 1)) (sym changes) c) (omega arith, omega arith) (omega arith, omega arith)

session_rise : (s t : State) (e : Effect) → t.changes ≡ cond (moves_paths e) (s.changes + 1) s.changes → t.last_session ≡ s.last_session + 1 → t.last_ticket ≡ s.last_ticket → CountsRise s t
session_rise s t e changes sessions tickets =
    let c = counted (moves_paths e) s.changes in
    rise_by s t (subst (λ (k : ℕ). (s.changes ≤ k) × (k ≤ s.changes + 1)) (sym changes) c) (one_more s.last_session t.last_session sessions) (omega arith, omega arith)

ticket_rise : (s t : State) → t.changes ≡ s.changes → t.last_session ≡ s.last_session → t.last_ticket ≡ s.last_ticket + 1 → CountsRise s t
ticket_rise s t changes sessions tickets = rise_by s t (omega arith, omega arith) (omega arith, omega arith) (one_more s.last_ticket t.last_ticket tickets)

reload_rise : (s : State) (entries : List LinkReload) → CountsRise s (after_reload s entries)
reload_rise s entries = rise_by s (after_reload s entries) (one_more s.changes (s.changes + 1) refl) (same_count s.last_session) (same_count s.last_ticket)

take_rise : (s : State) (o : Option Ticket) → CountsRise s (taken s o).state
take_rise s None = stays s
take_rise s (Some t) = no_rise s _ refl refl refl

commit_rise : (s : State) (offer : Option (List ℕ)) (o : Option Ticket) → CountsRise s (committed s offer o).state
commit_rise s offer None = stays s
commit_rise s offer (Some t) = decided-has (CountsRise s) s _ _ (stays s)
    (judged-has (CountsRise s) s t (unwrap_or offer []) (verdict_on s t offer)
    (effect_rise s (granted s t (unwrap_or offer [])) (granting (path_of s t (unwrap_or offer []))) refl refl refl)
    (no_rise s _ refl refl refl) (no_rise s _ refl refl refl) (λ m. no_rise s _ refl refl refl))

pub counts_rise : (s : State) (event : Event) → CountsRise s (step s event).state
unfolding step
counts_rise s (Up n sent) = decided-has (CountsRise s) s (must_be_down s.peers n ⨟ may_be_known s.peers n) (done (after_up s n sent)) (stays s) (session_rise s _ (up_effect s.base n sent) refl refl refl)
counts_rise s (Report n r) = decided-has (CountsRise s) s (must_be_up s.peers n) (booked s n r.plsp (report_result s.base s.te n r)) (stays s) (booked-has (CountsRise s) s n r.plsp (report_result s.base s.te n r) (stays s) (λ e is. effect_rise s _ e refl refl refl))
counts_rise s (Marker n) = decided-has (CountsRise s) s (must_be_up s.peers n) (done (after_marker s n)) (stays s) (effect_rise s _ (marker_effect s.base n) refl refl refl)
counts_rise s (Down n) = decided-has (CountsRise s) s (must_be_up s.peers n) (done (after_down s n)) (stays s) (effect_rise s _ (down_effect s.base n) refl refl refl)
counts_rise s (Expire n) = decided-has (CountsRise s) s (must_be_known s.peers n ⨟ must_be_down s.peers n) (done (after_expire s n)) (stays s) (effect_rise s _ (expire_effect s.base n) refl refl refl)
counts_rise s (Drain n) = decided-has (CountsRise s) s (must_be_up s.peers n) (drained s n) (stays s) (no_rise s _ refl refl refl)
counts_rise s (PeerRefused n srp) = decided-has (CountsRise s) s (must_be_up s.peers n) (done (after_refused s n srp)) (stays s) (effect_rise s _ (refused_effect s.base n srp) refl refl refl)
counts_rise s (Return n plsp) = decided-has (CountsRise s) s (return_tests s n plsp) (done (after_return s n plsp)) (stays s) (effect_rise s _ (given_back plsp (lsp_at s.base.records n plsp)) refl refl refl)
counts_rise s (Delete n plsp) = decided-has (CountsRise s) s (deletion_tests s n plsp) (deleted s n plsp) (stays s) (effect_rise s _ (removal_asked (next_number s n) plsp (lsp_at s.base.records n plsp)) refl refl refl)
counts_rise s (Ask n purpose) = decided-has (CountsRise s) s (may_be_asked s n purpose) _ (stays s) (asked-has (CountsRise s) s n purpose (constraints_for s.base.records n purpose) (stays s) (λ t own next. ticket_rise s _ refl refl next))
counts_rise s Take = take_rise s (first_waiting s.tickets)
counts_rise s (Commit id offer) = commit_rise s offer (ticket_at s.tickets id)
counts_rise s (Reload entries) = decided-has (CountsRise s) s (must_have_links s.te entries) (done (after_reload s entries)) (stays s) (reload_rise s entries)

-- ---- an event changes only what belongs to its own peer

all_stay : (peer : Option ℕ) (s : State) → OthersStay peer s s
all_stay peer s = record { paths = IsPermutation-refl _; records = IsPermutation-refl _; known = λ m plsp other. refl; peers = refl; names = IsPermutation-refl _; tickets = refl }

-- the paths and the records stay
kept_others : (n : ℕ) (s t : State) → t.base ≡ s.base → other_peers n t.peers ≡ other_peers n s.peers → other_names n t.names ≡ other_names n s.names → other_tickets n t.tickets ≡ other_tickets n s.tickets → OthersStay (Some n) s t
kept_others n s t same peers names tickets = record {
  paths = subst (λ (b : Lsps). IsPermutation (other_paths n s.base.paths) (other_paths n b.paths)) (sym same) (IsPermutation-refl _);
  records = subst (λ (b : Lsps). IsPermutation (other_records n s.base.records) (other_records n b.records)) (sym same) (IsPermutation-refl _);
  known = λ m plsp other. ap (λ (b : Lsps). lsp_at b.records m plsp) same;
  peers = peers;
  names = same_others n s.names t.names names;
  tickets = tickets;
}

-- after an effect on the peer's LSPs, those of others stay
effect_others : (n : ℕ) (s t : State) (e : Effect) → AreDistinct s.base.records → IsOwn n e → t.base ≡ changed s.base n e → other_peers n t.peers ≡ other_peers n s.peers → IsPermutation (other_names n s.names) (other_names n t.names) → other_tickets n t.tickets ≡ other_tickets n s.tickets → OthersStay (Some n) s t
effect_others n s t e distinct own is peers names tickets = record {
  paths = subst (λ (b : Lsps). IsPermutation (other_paths n s.base.paths) (other_paths n b.paths)) (sym is) (changed-paths n s.base e own);
  records = subst (λ (b : Lsps). IsPermutation (other_records n s.base.records) (other_records n b.records)) (sym is) (changed-records n s.base e);
  known = λ m plsp other. ap (λ (b : Lsps). lsp_at b.records m plsp) is ∙ changed-known n s.base e distinct m plsp other;
  peers = peers;
  names = names;
  tickets = tickets;
}

affected_others : (n : ℕ) (s : State) (e : Effect) (ps : List Peer) (last : ℕ) → AreDistinct s.base.records → IsOwn n e → other_peers n ps ≡ other_peers n s.peers → OthersStay (Some n) s (record (affected s n e) { peers = ps; last_session = last })
affected_others n s e ps last distinct own peers = effect_others n s _ e distinct own refl peers (names_without-others n s.names e.change.dropped own.dropped) refl

up_others : (n : ℕ) (s : State) (sent : Option Capabilities) → AreDistinct s.base.records → OthersStay (Some n) s (after_up s n sent)
up_others n s sent distinct = affected_others n s (up_effect s.base n sent) _ _ distinct (up-own n s.base sent) (put_peer-others n (in_session (peer_at s.peers n) (s.last_session + 1) sent) s.peers (peer_at-number n s.peers))

marker_others : (n : ℕ) (s : State) → AreDistinct s.base.records → OthersStay (Some n) s (after_marker s n)
marker_others n s distinct = affected_others n s (marker_effect s.base n) _ s.last_session distinct (marker-own n s.base) (put_peer-others n (synchronized (peer_at s.peers n)) s.peers (peer_at-number n s.peers))

down_others : (n : ℕ) (s : State) → AreDistinct s.base.records → OthersStay (Some n) s (after_down s n)
down_others n s distinct =
    let e = down_effect s.base n in
    let left = changed s.base n e in
    record {
      paths = subst (IsPermutation (other_paths n s.base.paths)) (sym (with_stale-paths n left)) (changed-paths n s.base e (down-own n s.base));
      records = subst (λ rs. IsPermutation (other_records n s.base.records) (other_records n rs)) (sym (with_stale-records n left)) (changed-records n s.base e);
      known = λ m plsp other. ap (λ rs. lsp_at rs m plsp) (with_stale-records n left) ∙ changed-known n s.base e distinct m plsp other;
      peers = put_peer-others n (out_of_session (peer_at s.peers n)) s.peers (peer_at-number n s.peers);
      names = names_without-others n s.names e.change.dropped ((down-own n s.base).dropped);
      tickets = refl;
    }

expire_others : (n : ℕ) (s : State) → AreDistinct s.base.records → OthersStay (Some n) s (after_expire s n)
expire_others n s distinct = affected_others n s (expire_effect s.base n) _ s.last_session distinct (expire-own n s.base) (forget-others n s.peers)

drain_others : (n : ℕ) (s : State) → OthersStay (Some n) s (drained s n).state
drain_others n s = kept_others n s _ refl (put_peer-others n (emptied (peer_at s.peers n)) s.peers (peer_at-number n s.peers)) refl refl

asking_others : (n : ℕ) (s : State) (e : Effect) (message : Message) → AreDistinct s.base.records → IsOwn n e → OthersStay (Some n) s (asking s n e message)
asking_others n s e message distinct own = affected_others n s e _ s.last_session distinct own (put_peer-others n (asked (peer_at s.peers n) message) s.peers (peer_at-number n s.peers))

return_others : (n : ℕ) (s : State) (plsp : ℕ) → AreDistinct s.base.records → OthersStay (Some n) s (after_return s n plsp)
return_others n s plsp distinct = asking_others n s (given_back plsp (lsp_at s.base.records n plsp)) (return_message (next_number s n) plsp) distinct (return-own n plsp (lsp_at s.base.records n plsp))

delete_others : (n : ℕ) (s : State) (plsp : ℕ) → AreDistinct s.base.records → OthersStay (Some n) s (after_delete s n plsp)
delete_others n s plsp distinct = asking_others n s (removal_asked (next_number s n) plsp (lsp_at s.base.records n plsp)) (delete_message (next_number s n) plsp) distinct (removal_asked-own n (next_number s n) plsp (lsp_at s.base.records n plsp))

number_of : (n m : ℕ) → m ≡ n → (m == n) ≡ true
number_of n m is = ap (λ (k : ℕ). k == n) is ∙ same_number n

ask_others : (n : ℕ) (s : State) (t : Ticket) → t.peer ≡ n → OthersStay (Some n) s (with_ticket s t).state
ask_others n s t own = kept_others n s _ refl refl refl (with_ticket-others n s.tickets t (number_of n t.peer own))

take_others : (s : State) (o : Option Ticket) → find is_waiting s.tickets ≡ o → OthersStay (peer_of_ticket o) s (taken s o).state
take_others s None is = all_stay None s
take_others s (Some t) is = kept_others t.peer s _ refl refl refl (edit-others t.peer is_waiting (searched_for s.changes) s.tickets (λ u. refl) (only_own t.peer is_waiting s.tickets t is (same_number t.peer)))

name_own : (n srp : ℕ) (purpose : Purpose) → IfSome (name_of_grant n srp purpose) (λ a. (a.peer == n) ≡ true)
name_own n srp (purposes.Update plsp) = tt
name_own n srp (purposes.Initiate name constraints) = same_number n
name_own n srp (purposes.Answer request plsp constraints) = tt

ended_tickets : (s : State) (t : Ticket) → ticket_at s.tickets t.id ≡ Some t → other_tickets t.peer (without_ticket s.tickets t.id) ≡ other_tickets t.peer s.tickets
ended_tickets s t is = drop-others t.peer (is_ticket t.id) s.tickets (only_own t.peer (is_ticket t.id) s.tickets t is (same_number t.peer))

offered_own : (s : State) (t : Ticket) (links : List ℕ) → ((path_of s t links).peer == t.peer) ≡ true
unfolding offered_path
offered_own s t links = same_number t.peer

granted_others : (s : State) (t : Ticket) (links : List ℕ) → AreDistinct s.base.records → ticket_at s.tickets t.id ≡ Some t → OthersStay (Some t.peer) s (granted s t links)
granted_others s t links distinct is =
    effect_others t.peer s _ (granting (path_of s t links)) distinct (granting-own t.peer (path_of s t links) (offered_own s t links)) refl
    (put_peer-others t.peer (asked (peer_at s.peers t.peer) (message_of s.te.links (next_number s t.peer) t.constraints links t.purpose)) s.peers (peer_at-number t.peer s.peers))
    (same_others t.peer s.names _ (with_name-others t.peer s.names (name_of_grant t.peer (next_number s t.peer) t.purpose) (name_own t.peer (next_number s t.peer) t.purpose)))
    (ended_tickets s t is)

commit_others : (s : State) (offer : Option (List ℕ)) (o : Option Ticket) → AreDistinct s.base.records → IfSome o (λ t. ticket_at s.tickets t.id ≡ Some t) → OthersStay (peer_of_ticket o) s (committed s offer o).state
commit_others s offer None distinct is = all_stay None s
commit_others s offer (Some t) distinct is = decided-has (OthersStay (Some t.peer) s) s _ _ (all_stay (Some t.peer) s)
    (judged-has (OthersStay (Some t.peer) s) s t (unwrap_or offer []) (verdict_on s t offer)
    (granted_others s t (unwrap_or offer []) distinct is)
    (kept_others t.peer s _ refl refl refl (edit-others t.peer (is_ticket t.id) waiting_again s.tickets (λ u. refl) (only_own t.peer (is_ticket t.id) s.tickets t is (same_number t.peer))))
    (kept_others t.peer s _ refl refl refl (ended_tickets s t is))
    (λ m. kept_others t.peer s _ refl (put_peer-others t.peer (with_message (peer_at s.peers t.peer) m) s.peers (peer_at-number t.peer s.peers)) refl (ended_tickets s t is)))

reload_others : (s : State) (entries : List LinkReload) → OthersStay None s (after_reload s entries)
reload_others s entries = record { paths = IsPermutation-refl _; records = IsPermutation-refl _; known = λ m plsp other. refl; peers = refl; names = IsPermutation-refl _; tickets = refl }

found_by_number : (s : State) (id : ℕ) (o : Option Ticket) → ticket_at s.tickets id ≡ o → IfSome o (λ t. ticket_at s.tickets t.id ≡ Some t)
found_by_number s id None is = tt
found_by_number s id (Some t) is = found_by_own id s.tickets t is

pub others_stay : (s : State) (event : Event) → AreDistinct s.base.records → OthersStay (peer_of s event) s (step s event).state
unfolding step
others_stay s (Up n sent) d = decided-has (OthersStay (Some n) s) s (must_be_down s.peers n ⨟ may_be_known s.peers n) (done (after_up s n sent)) (all_stay (Some n) s) (up_others n s sent d)
others_stay s (Report n r) d = decided-has (OthersStay (Some n) s) s (must_be_up s.peers n) (booked s n r.plsp (report_result s.base s.te n r)) (all_stay (Some n) s) (booked-has (OthersStay (Some n) s) s n r.plsp (report_result s.base s.te n r) (all_stay (Some n) s) (λ e is. affected_others n s e s.peers s.last_session d (report-own n s.base s.te r e is) refl))
others_stay s (Marker n) d = decided-has (OthersStay (Some n) s) s (must_be_up s.peers n) (done (after_marker s n)) (all_stay (Some n) s) (marker_others n s d)
others_stay s (Down n) d = decided-has (OthersStay (Some n) s) s (must_be_up s.peers n) (done (after_down s n)) (all_stay (Some n) s) (down_others n s d)
others_stay s (Expire n) d = decided-has (OthersStay (Some n) s) s (must_be_known s.peers n ⨟ must_be_down s.peers n) (done (after_expire s n)) (all_stay (Some n) s) (expire_others n s d)
others_stay s (Drain n) d = decided-has (OthersStay (Some n) s) s (must_be_up s.peers n) (drained s n) (all_stay (Some n) s) (drain_others n s)
others_stay s (PeerRefused n srp) d = decided-has (OthersStay (Some n) s) s (must_be_up s.peers n) (done (after_refused s n srp)) (all_stay (Some n) s) (affected_others n s (refused_effect s.base n srp) s.peers s.last_session d (refused-own n srp s.base) refl)
others_stay s (Return n plsp) d = decided-has (OthersStay (Some n) s) s (return_tests s n plsp) (done (after_return s n plsp)) (all_stay (Some n) s) (return_others n s plsp d)
others_stay s (Delete n plsp) d = decided-has (OthersStay (Some n) s) s (deletion_tests s n plsp) (deleted s n plsp) (all_stay (Some n) s) (delete_others n s plsp d)
others_stay s (Ask n purpose) d = decided-has (OthersStay (Some n) s) s (may_be_asked s n purpose) _ (all_stay (Some n) s) (asked-has (OthersStay (Some n) s) s n purpose (constraints_for s.base.records n purpose) (all_stay (Some n) s) (λ t own next. ask_others n s t own))
others_stay s Take d = take_others s (first_waiting s.tickets) refl
others_stay s (Commit id offer) d = commit_others s offer (ticket_at s.tickets id) d (found_by_number s id (ticket_at s.tickets id) refl)
others_stay s (Reload entries) d = decided-has (OthersStay None s) s (must_have_links s.te entries) (done (after_reload s entries)) (all_stay None s) (reload_others s entries)

-- ---- a refused event changes nothing

refused_tests : (s : State) (whys : Option Why) (o : Outcome) (why : Why) → (o.reply ≡ Refused why → o.state ≡ s) → (decided s whys o).reply ≡ Refused why → (decided s whys o).state ≡ s
refused_tests s (Some first) o why rest is = refl
refused_tests s None o why rest is = rest is

refused_report : (s : State) (n plsp : ℕ) (result : Result Effect Why) (why : Why) → (booked s n plsp result).reply ≡ Refused why → (booked s n plsp result).state ≡ s
refused_report s n plsp (Err first) why is = refl
refused_report s n plsp (Ok e) why is = absurd (cc (is))

refused_ask : (s : State) (n : ℕ) (purpose : Purpose) (c : Option Constraints) (why : Why) → (asked_with s n purpose c).reply ≡ Refused why → (asked_with s n purpose c).state ≡ s
refused_ask s n purpose None why is = refl
refused_ask s n purpose (Some c) why is = refused_tests s (must_have_ends s.te c ⨟ may_have_one_more s.tickets) (with_ticket s (new_ticket s n purpose c)) why (λ no. absurd (cc (no))) is

refused_take : (s : State) (o : Option Ticket) (why : Why) → (taken s o).reply ≡ Refused why → (taken s o).state ≡ s
refused_take s None why is = absurd (cc (is))
refused_take s (Some t) why is = absurd (cc (is))

refused_verdict : (s : State) (t : Ticket) (links : List ℕ) (v : Verdict) (why : Why) → (judged s t links v).reply ≡ Refused why → (judged s t links v).state ≡ s
refused_verdict s t links verdicts.Grant why is = absurd (cc (is))
refused_verdict s t links verdicts.Answer why is = absurd (cc (is))
refused_verdict s t links verdicts.Again why is = absurd (cc (is))
refused_verdict s t links verdicts.NoPath why is = absurd (cc (is))
refused_verdict s t links verdicts.GivenUp why is = absurd (cc (is))
refused_verdict s t links verdicts.Gone why is = absurd (cc (is))

refused_commit : (s : State) (offer : Option (List ℕ)) (o : Option Ticket) (why : Why) → (committed s offer o).reply ≡ Refused why → (committed s offer o).state ≡ s
refused_commit s offer None why is = refl
refused_commit s offer (Some t) why is = refused_tests s _ (judged s t (unwrap_or offer []) (verdict_on s t offer)) why (refused_verdict s t (unwrap_or offer []) (verdict_on s t offer) why) is

pub refused_stays : (s : State) (event : Event) (why : Why) → (step s event).reply ≡ Refused why → (step s event).state ≡ s
unfolding step
refused_stays s (Up n sent) why is = refused_tests s (must_be_down s.peers n ⨟ may_be_known s.peers n) (done (after_up s n sent)) why (λ no. absurd (cc (no))) is
refused_stays s (Report n r) why is = refused_tests s (must_be_up s.peers n) (booked s n r.plsp (report_result s.base s.te n r)) why (refused_report s n r.plsp (report_result s.base s.te n r) why) is
refused_stays s (Marker n) why is = refused_tests s (must_be_up s.peers n) (done (after_marker s n)) why (λ no. absurd (cc (no))) is
refused_stays s (Down n) why is = refused_tests s (must_be_up s.peers n) (done (after_down s n)) why (λ no. absurd (cc (no))) is
refused_stays s (Expire n) why is = refused_tests s (must_be_known s.peers n ⨟ must_be_down s.peers n) (done (after_expire s n)) why (λ no. absurd (cc (no))) is
refused_stays s (Drain n) why is = refused_tests s (must_be_up s.peers n) (drained s n) why (λ no. absurd (cc (no))) is
refused_stays s (PeerRefused n srp) why is = refused_tests s (must_be_up s.peers n) (done (after_refused s n srp)) why (λ no. absurd (cc (no))) is
refused_stays s (Return n plsp) why is = refused_tests s (return_tests s n plsp) (done (after_return s n plsp)) why (λ no. absurd (cc (no))) is
refused_stays s (Delete n plsp) why is = refused_tests s (deletion_tests s n plsp) (deleted s n plsp) why (λ no. absurd (cc (no))) is
refused_stays s (Ask n purpose) why is = refused_tests s (may_be_asked s n purpose) _ why (refused_ask s n purpose (constraints_for s.base.records n purpose) why) is
refused_stays s Take why is = refused_take s (first_waiting s.tickets) why is
refused_stays s (Commit id offer) why is = refused_commit s offer (ticket_at s.tickets id) why is
refused_stays s (Reload entries) why is = refused_tests s (must_have_links s.te entries) (done (after_reload s entries)) why (λ no. absurd (cc (no))) is

-- ---- the same for a call that takes the step, or leaves the state if memory runs out

pub by_step : (P : State → Type 0) (s t : State) (event : Event) (result : Result Reply AllocError) → P s → P (step s event).state → OnOk result (t ≡ (step s event).state) → OnErr result (t ≡ s) → P t
by_step P s t event (Ok reply) here there ok err = subst P (sym ok) there
by_step P s t event (Err e) here there ok err = subst P (sym err) here

pub others_stay-by : (s t : State) (event : Event) (result : Result Reply AllocError) → AreDistinct s.base.records → OnOk result (t ≡ (step s event).state) → OnErr result (t ≡ s) → OthersStay (peer_of s event) s t
others_stay-by s t event result distinct ok err = by_step (OthersStay (peer_of s event) s) s t event result (all_stay (peer_of s event) s) (others_stay s event distinct) ok err

pub counts_rise-by : (s t : State) (event : Event) (result : Result Reply AllocError) → OnOk result (t ≡ (step s event).state) → OnErr result (t ≡ s) → CountsRise s t
counts_rise-by s t event result ok err = by_step (CountsRise s) s t event result (stays s) (counts_rise s event) ok err
