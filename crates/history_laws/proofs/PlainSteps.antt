-- Each step gives the same with local protection and without it.
use Rattle.std.proofs.Common.{◌≡◌, ◌∙◌, ◌&&◌, ℕ, ◌+◌, not, List, [], ◌∷◌, length, map, refl, sym, ap}
use Rattle.std.specs.Prelude.{Option, Some, None, Result, Ok, Err, option_map, unwrap_or}
use Rattle.std.proofs.lemmas.List.{map-append}
use Rattle.lsp_words.specs.declared.object.Capabilities.{Capabilities}
use Rattle.pcep_messages.specs.declared.message.Attributes.{Attributes}
use Rattle.pcep_messages.specs.declared.message.Initiate.{Initiate}
use Rattle.pcep_messages.specs.declared.message.Initiate.TheVariants as initiates
use Rattle.pcep_messages.specs.declared.message.Message.{Message}
use Rattle.pcep_messages.specs.declared.message.Message.TheVariants as messages
use Rattle.pcep_messages.specs.declared.message.StateReport.{StateReport}
use Rattle.lsp_base.specs.Lsps.{Lsps, lsp_at, with_stale}
use Rattle.lsp_base.specs.Refusals.{unless, ◌⨟◌}
use Rattle.lsp_base.specs.declared.effect.Effect.{Effect}
use Rattle.lsp_base.specs.declared.effect.Record.{Record}
use Rattle.lsp_base.specs.declared.lsp.Constraints.{Constraints}
use Rattle.lsp_base.specs.declared.lsp.Lsp.{Lsp}
use Rattle.lsp_base.specs.declared.why.Why.{Why}
use Rattle.lsp_base.specs.declared.why.Why.TheVariants.{NotTaken}
use Rattle.sync_rules.specs.Peers.{down_effect, expire_effect, marker_effect, up_effect}
use Rattle.delegate_rules.specs.Effects.{report_result}
use Rattle.delegate_rules.specs.Refusals.{refused_effect}
use Rattle.delegate_rules.specs.Returns.{given_back, must_be_held}
use Rattle.initiate_rules.specs.Checks.{may_be_deleted}
use Rattle.initiate_rules.specs.Messages.{delete_message, no_path_message, return_message}
use Rattle.commit_core.specs.declared.ticket.Purpose.{Purpose}
use Rattle.commit_core.specs.declared.ticket.Purpose.TheVariants as purposes
use Rattle.commit_core.specs.declared.ticket.Ticket.{Ticket}
use Rattle.commit_core.specs.declared.verdict.Verdict.{Verdict}
use Rattle.commit_core.specs.declared.verdict.Verdict.TheVariants as verdicts
use Rattle.ticket_table.specs.Tickets.{first_waiting, is_ticket, is_waiting, put_back, searched_for, ticket_at, waiting_again}
use Rattle.link_reload.specs.Reloads.{must_have_links}
use Rattle.step_core.specs.Asks.{asked_with, ask_step, constraints_for, may_be_asked, may_have_one_more, must_have_ends, new_ticket, with_ticket}
use Rattle.step_core.specs.Grants.{answered, answered_in_vain, asking, commit_step, committed, ended, granted, granting, held_by, in_vain, job_of, judged, message_of, name_of_grant, path_of, saying, take_step, taken, verdict_on, with_name}
use Rattle.step_core.specs.Outcomes.{Outcome, decided, done, must_be_down, must_be_known, must_be_up, must_have_a_number, must_take_initiations, must_take_updates}
use Rattle.step_core.specs.Reloads.{after_reload}
use Rattle.step_core.specs.States.{State, affected, asked, emptied, in_session, is_peer, next_number, out_of_session, synchronized, with_message}
use Rattle.step_core.specs.Steps.{after_delete, after_down, after_expire, after_marker, after_refused, after_return, after_up, booked, delete_step, deleted, down_step, drain_step, drained, expire_step, marker_step, may_be_known, refused_step, removal_asked, report_step, return_step, step, up_step, wants}
use Rattle.step_core.specs.declared.event.Event.{Event}
use Rattle.step_core.specs.declared.event.Event.TheVariants.{Up, Report, Marker, Down, Expire, Drain, Refused as PeerRefused, Return, Delete, Ask, Take, Commit, Reload}
use Rattle.step_core.specs.declared.event.Reply.{Reply}
use Rattle.step_core.specs.declared.event.Reply.TheVariants as replies
use Rattle.step_core.specs.declared.peer.Peer.{Peer}
use Rattle.history_laws.specs.Plain.{plain, plain_attributes, plain_constraints, plain_event, plain_job, plain_lsp, plain_lsps, plain_message, plain_outcome, plain_peer, plain_purpose, plain_record, plain_reply, plain_report, plain_ticket}
use Rattle.history_laws.proofs.Mapped.{again-map, drop_first-map, edit_first-map, filter-map, find-map}
use Rattle.history_laws.proofs.PlainLsps.{back_plain, changed_plain, deletable_plain, down_plain, expire_plain, held_plain, lsp_plain, marker_plain, plain_effect, plain_result, refused_plain, report_plain, up_plain}
use Rattle.history_laws.proofs.PlainAsks.{asked_plain, constraints_plain, may_be_asked_plain, may_be_known_plain, message_plain, must_be_down_plain, must_be_known_plain, must_be_up_plain, must_have_a_number_plain, must_take_initiations_plain, must_take_updates_plain, name_plain, next_plain, one_more_plain, own_tunnel_plain, path_plain, peer_plain, set_plain, told_plain, update_asked_plain, verdict_on_plain}

abbrev outcome_of : State → Reply → Outcome
outcome_of s reply = record { state = s; reply = reply }

-- the same tests refuse the event; if none does, the outcome is the same
decided_plain : (s : State) (v w : Option Why) (o p : Outcome) → v ≡ w → o ≡ plain_outcome p → decided (plain s) v o ≡ plain_outcome (decided s w p)
decided_plain s v w o p tests comes = (λ i. decided (plain s) (tests i) (comes i)) ∙ by w
  where
    by : (w : Option Why) → decided (plain s) w (plain_outcome p) ≡ plain_outcome (decided s w p)
    by None = refl
    by (Some why) = refl

affected_plain : (s : State) (n : ℕ) (e f : Effect) → f ≡ plain_effect e → affected (plain s) n f ≡ plain (affected s n e)
affected_plain s n e f is = ap (affected (plain s) n) is ∙ ap (λ (b : Lsps). record (plain (affected s n e)) { base = b }) (changed_plain s.base n e)

asking_plain : (s : State) (n : ℕ) (e f : Effect) (m k : Message) → f ≡ plain_effect e → k ≡ plain_message m → asking (plain s) n f k ≡ plain (asking s n e m)
asking_plain s n e f m k effects said =
    let state = affected_plain s n e f effects in
    let peers = set_plain (λ p. asked p k) (λ p. asked p m) (λ p. ap (asked (plain_peer p)) said ∙ asked_plain p m) s.peers n in
    λ i. record (state i) { peers = peers i }

saying_plain : (s : State) (n : ℕ) (m k : Message) → k ≡ plain_message m → saying (plain s) n k ≡ plain (saying s n m)
saying_plain s n m k said =
    let peers = set_plain (λ p. with_message p k) (λ p. with_message p m) (λ p. ap (with_message (plain_peer p)) said ∙ told_plain p m) s.peers n in
    λ i. record (plain s) { peers = peers i }

-- ---- the life of a session

up_comes : (s : State) (n : ℕ) (sent : Option Capabilities) → up_step (plain s) n sent ≡ plain_outcome (up_step s n sent)
up_comes s n sent =
    let state = affected_plain s n (up_effect s.base n sent) (up_effect (plain_lsps s.base) n sent) (up_plain s.base n sent) in
    let peers = set_plain (λ p. in_session p (s.last_session + 1) sent) (λ p. in_session p (s.last_session + 1) sent) (λ p. refl) s.peers n in
    decided_plain s (must_be_down (map plain_peer s.peers) n ⨟ may_be_known (map plain_peer s.peers) n) (must_be_down s.peers n ⨟ may_be_known s.peers n) (done (after_up (plain s) n sent)) (done (after_up s n sent))
    (λ i. must_be_down_plain s.peers n i ⨟ may_be_known_plain s.peers n i)
    (λ i. done (record (state i) { peers = peers i; last_session = s.last_session + 1 }))

marker_comes : (s : State) (n : ℕ) → marker_step (plain s) n ≡ plain_outcome (marker_step s n)
marker_comes s n =
    let state = affected_plain s n (marker_effect s.base n) (marker_effect (plain_lsps s.base) n) (marker_plain s.base n) in
    let peers = set_plain synchronized synchronized (λ p. refl) s.peers n in
    decided_plain s (must_be_up (map plain_peer s.peers) n) (must_be_up s.peers n) (done (after_marker (plain s) n)) (done (after_marker s n)) (must_be_up_plain s.peers n)
    (λ i. done (record (state i) { peers = peers i }))

down_comes : (s : State) (n : ℕ) → down_step (plain s) n ≡ plain_outcome (down_step s n)
unfolding with_stale
down_comes s n =
    let state = affected_plain s n (down_effect s.base n) (down_effect (plain_lsps s.base) n) (down_plain s.base n) in
    let peers = set_plain out_of_session out_of_session (λ p. refl) s.peers n in
    decided_plain s (must_be_up (map plain_peer s.peers) n) (must_be_up s.peers n) (done (after_down (plain s) n)) (done (after_down s n)) (must_be_up_plain s.peers n)
    (λ i. done (record (state i) { base = with_stale (state i).base n; peers = peers i }))

expire_comes : (s : State) (n : ℕ) → expire_step (plain s) n ≡ plain_outcome (expire_step s n)
expire_comes s n =
    let state = affected_plain s n (expire_effect s.base n) (expire_effect (plain_lsps s.base) n) (expire_plain s.base n) in
    let peers = filter-map plain_peer (λ p. not (is_peer n p)) (λ p. refl) s.peers in
    decided_plain s (must_be_known (map plain_peer s.peers) n ⨟ must_be_down (map plain_peer s.peers) n) (must_be_known s.peers n ⨟ must_be_down s.peers n) (done (after_expire (plain s) n)) (done (after_expire s n))
    (λ i. must_be_known_plain s.peers n i ⨟ must_be_down_plain s.peers n i)
    (λ i. done (record (state i) { peers = peers i }))

drain_comes : (s : State) (n : ℕ) → drain_step (plain s) n ≡ plain_outcome (drain_step s n)
drain_comes s n =
    let peers = set_plain emptied emptied (λ p. refl) s.peers n in
    decided_plain s (must_be_up (map plain_peer s.peers) n) (must_be_up s.peers n) (drained (plain s) n) (drained s n) (must_be_up_plain s.peers n)
    (λ i. outcome_of (record (plain s) { peers = peers i }) (replies.Out (peer_plain s.peers n i).outgoing))

-- ---- reports, refusals, returns and deletions

booked_plain : (s : State) (n plsp : ℕ) (x y : Result Effect Why) → x ≡ plain_result y → booked (plain s) n plsp x ≡ plain_outcome (booked s n plsp y)
booked_plain s n plsp x y is = ap (booked (plain s) n plsp) is ∙ by y
  where
    wants_plain : (e : Effect) → wants (plain s) n plsp (plain_effect e) ≡ wants s n plsp e
    wants_plain e = λ i. e.wants_path && ((peer_plain s.peers n i).capabilities).update && not (peer_plain s.peers n i).syncing && not (update_asked_plain s.tickets n plsp i)

    by : (y : Result Effect Why) → booked (plain s) n plsp (plain_result y) ≡ plain_outcome (booked s n plsp y)
    by (Err why) = refl
    by (Ok e) = let state = affected_plain s n e (plain_effect e) refl in λ i. outcome_of (state i) (replies.Booked (wants_plain e i))

report_comes : (s : State) (n : ℕ) (r : StateReport) → report_step (plain s) n (plain_report r) ≡ plain_outcome (report_step s n r)
report_comes s n r =
    let old = report_result s.base s.te n r in
    let new = report_result (plain_lsps s.base) s.te n (plain_report r) in
    decided_plain s (must_be_up (map plain_peer s.peers) n) (must_be_up s.peers n) (booked (plain s) n r.plsp new) (booked s n r.plsp old) (must_be_up_plain s.peers n)
    (booked_plain s n r.plsp new old (report_plain s.base s.te n r))

refused_comes : (s : State) (n srp : ℕ) → refused_step (plain s) n srp ≡ plain_outcome (refused_step s n srp)
refused_comes s n srp =
    decided_plain s (must_be_up (map plain_peer s.peers) n) (must_be_up s.peers n) (done (after_refused (plain s) n srp)) (done (after_refused s n srp)) (must_be_up_plain s.peers n)
    (ap done (affected_plain s n (refused_effect s.base n srp) (refused_effect (plain_lsps s.base) n srp) (refused_plain s.base n srp)))

return_message_plain : (srp plsp : ℕ) → return_message srp plsp ≡ plain_message (return_message srp plsp)
unfolding return_message
return_message_plain srp plsp = refl

delete_message_plain : (srp plsp : ℕ) → delete_message srp plsp ≡ plain_message (delete_message srp plsp)
unfolding delete_message
delete_message_plain srp plsp = refl

return_comes : (s : State) (n plsp : ℕ) → return_step (plain s) n plsp ≡ plain_outcome (return_step s n plsp)
return_comes s n plsp =
    let said = ap (λ k. return_message k plsp) (next_plain s n) ∙ return_message_plain (next_number s n) plsp in
    decided_plain s (must_take_updates (map plain_peer s.peers) n ⨟ must_be_held (plain_lsps s.base) n plsp ⨟ must_have_a_number (plain s) n) (must_take_updates s.peers n ⨟ must_be_held s.base n plsp ⨟ must_have_a_number s n) (done (after_return (plain s) n plsp)) (done (after_return s n plsp))
    (λ i. must_take_updates_plain s.peers n i ⨟ held_plain s.base n plsp i ⨟ must_have_a_number_plain s n i)
    (ap done (asking_plain s n (given_back plsp (lsp_at s.base.records n plsp)) (given_back plsp (lsp_at (map plain_record s.base.records) n plsp)) (return_message (next_number s n) plsp) (return_message (next_number (plain s) n) plsp) (back_plain s.base n plsp) said))

removal_asked_plain : (b : Lsps) (n srp plsp : ℕ) → removal_asked srp plsp (lsp_at (map plain_record b.records) n plsp) ≡ plain_effect (removal_asked srp plsp (lsp_at b.records n plsp))
removal_asked_plain b n srp plsp = ap (removal_asked srp plsp) (lsp_plain b.records n plsp) ∙ by (lsp_at b.records n plsp)
  where
    by : (lsp : Option Lsp) → removal_asked srp plsp (option_map plain_lsp lsp) ≡ plain_effect (removal_asked srp plsp lsp)
    by None = refl
    by (Some lsp) = refl

deleted_plain : (s : State) (n plsp : ℕ) → after_delete (plain s) n plsp ≡ plain (after_delete s n plsp)
deleted_plain s n plsp =
    let srp = next_number s n in
    let known = lsp_at (map plain_record s.base.records) n plsp in
    ap (λ k. asking (plain s) n (removal_asked k plsp known) (delete_message k plsp)) (next_plain s n)
    ∙ asking_plain s n (removal_asked srp plsp (lsp_at s.base.records n plsp)) (removal_asked srp plsp known) (delete_message srp plsp) (delete_message srp plsp) (removal_asked_plain s.base n srp plsp) (delete_message_plain srp plsp)

delete_comes : (s : State) (n plsp : ℕ) → delete_step (plain s) n plsp ≡ plain_outcome (delete_step s n plsp)
delete_comes s n plsp =
    let state = deleted_plain s n plsp in
    decided_plain s (must_take_initiations (map plain_peer s.peers) n ⨟ may_be_deleted (plain_lsps s.base) n plsp ⨟ must_have_a_number (plain s) n) (must_take_initiations s.peers n ⨟ may_be_deleted s.base n plsp ⨟ must_have_a_number s n) (deleted (plain s) n plsp) (deleted s n plsp)
    (λ i. must_take_initiations_plain s.peers n i ⨟ deletable_plain s.base n plsp i ⨟ must_have_a_number_plain s n i)
    (λ i. outcome_of (state i) (replies.Removing (next_plain s n i)))

-- ---- a path is asked for, and searched for

new_ticket_plain : (s : State) (n : ℕ) (p : Purpose) (c : Constraints) → new_ticket (plain s) n (plain_purpose p) (plain_constraints c) ≡ plain_ticket (new_ticket s n p c)
new_ticket_plain s n p c = ap (λ (q : Peer). record (plain_ticket (new_ticket s n p c)) { session = q.session }) (peer_plain s.peers n)

with_ticket_plain : (s : State) (t u : Ticket) → u ≡ plain_ticket t → with_ticket (plain s) u ≡ plain_outcome (with_ticket s t)
with_ticket_plain s t u is = ap (with_ticket (plain s)) is ∙ ap (λ ts. outcome_of (record (plain s) { tickets = ts; last_ticket = t.id }) (replies.Asked t.id)) (sym (map-append plain_ticket s.tickets (t ∷ [])))

asked_with_plain : (s : State) (n : ℕ) (p : Purpose) (c : Option Constraints) → asked_with (plain s) n (plain_purpose p) (option_map plain_constraints c) ≡ plain_outcome (asked_with s n p c)
asked_with_plain s n p None = refl
asked_with_plain s n p (Some c) =
    decided_plain s (must_have_ends s.te c ⨟ may_have_one_more (map plain_ticket s.tickets)) (must_have_ends s.te c ⨟ may_have_one_more s.tickets) (with_ticket (plain s) (new_ticket (plain s) n (plain_purpose p) (plain_constraints c))) (with_ticket s (new_ticket s n p c))
    (λ i. must_have_ends s.te c ⨟ one_more_plain s.tickets i)
    (with_ticket_plain s (new_ticket s n p c) (new_ticket (plain s) n (plain_purpose p) (plain_constraints c)) (new_ticket_plain s n p c))

ask_comes : (s : State) (n : ℕ) (p : Purpose) → ask_step (plain s) n (plain_purpose p) ≡ plain_outcome (ask_step s n p)
ask_comes s n p =
    let old = constraints_for s.base.records n p in
    let new = constraints_for (map plain_record s.base.records) n (plain_purpose p) in
    decided_plain s (may_be_asked (plain s) n (plain_purpose p)) (may_be_asked s n p) (asked_with (plain s) n (plain_purpose p) new) (asked_with s n p old) (may_be_asked_plain s n p)
    (ap (asked_with (plain s) n (plain_purpose p)) (constraints_plain s.base.records n p) ∙ asked_with_plain s n p old)

job_plain : (s : State) (t : Ticket) → job_of (plain s) (plain_ticket t) ≡ plain_job (job_of s t)
job_plain s t = ap (λ o. record (plain_job (job_of s t)) { own = held_by s.base.paths (length s.te.links) o }) (own_tunnel_plain s.base.records t.peer t.purpose)

taken_plain : (s : State) (t : Option Ticket) → taken (plain s) (option_map plain_ticket t) ≡ plain_outcome (taken s t)
taken_plain s None = refl
taken_plain s (Some t) =
    let tickets = edit_first-map plain_ticket (searched_for s.changes) is_waiting (λ t. refl) (λ t. refl) s.tickets in
    let job = job_plain s (searched_for s.changes t) in
    λ i. outcome_of (record (plain s) { tickets = tickets i }) (replies.Job (job i))

take_comes : (s : State) → take_step (plain s) ≡ plain_outcome (take_step s)
take_comes s = ap (taken (plain s)) (find-map plain_ticket is_waiting (λ t. refl) s.tickets) ∙ taken_plain s (first_waiting s.tickets)

-- ---- a search has answered

ended_plain : (s : State) (t : Ticket) → ended (plain s) (plain_ticket t) ≡ plain (ended s t)
ended_plain s t = ap (λ ts. record (plain s) { tickets = ts }) (drop_first-map plain_ticket (is_ticket t.id) (λ t. refl) s.tickets)

-- the message by which an offer is carried out or answered
said_plain : (s : State) (t : Ticket) (links : List ℕ) → message_of s.te.links (next_number (plain s) t.peer) (plain_constraints t.constraints) links (plain_purpose t.purpose) ≡ plain_message (message_of s.te.links (next_number s t.peer) t.constraints links t.purpose)
said_plain s t links =
    ap (λ srp. message_of s.te.links srp (plain_constraints t.constraints) links (plain_purpose t.purpose)) (next_plain s t.peer)
    ∙ message_plain s.te.links (next_number s t.peer) t.constraints links t.purpose

granted_plain : (s : State) (t : Ticket) (links : List ℕ) → granted (plain s) (plain_ticket t) links ≡ plain (granted s t links)
granted_plain s t links =
    let old = message_of s.te.links (next_number s t.peer) t.constraints links t.purpose in
    let new = message_of s.te.links (next_number (plain s) t.peer) (plain_constraints t.constraints) links (plain_purpose t.purpose) in
    let before = granting (path_of s t links) in
    let after = granting (path_of (plain s) (plain_ticket t) links) in
    let state = ap (λ u. asking u t.peer after new) (ended_plain s t) ∙ asking_plain (ended s t) t.peer before after old new (ap granting (path_plain s t links)) (said_plain s t links) in
    let name = ap (λ srp. name_of_grant t.peer srp (plain_purpose t.purpose)) (next_plain s t.peer) ∙ name_plain t.peer (next_number s t.peer) t.purpose in
    λ i. record (state i) { names = with_name s.names (name i) }

answered_plain : (s : State) (t : Ticket) (links : List ℕ) → answered (plain s) (plain_ticket t) links ≡ plain (answered s t links)
answered_plain s t links =
    let old = message_of s.te.links (next_number s t.peer) t.constraints links t.purpose in
    let new = message_of s.te.links (next_number (plain s) t.peer) (plain_constraints t.constraints) links (plain_purpose t.purpose) in
    ap (λ u. saying u t.peer new) (ended_plain s t) ∙ saying_plain (ended s t) t.peer old new (said_plain s t links)

no_path_message_plain : (request : ℕ) → no_path_message request ≡ plain_message (no_path_message request)
unfolding no_path_message
no_path_message_plain request = refl

vain_plain : (s : State) (n : ℕ) (p : Purpose) → answered_in_vain (plain s) n (plain_purpose p) ≡ plain (answered_in_vain s n p)
vain_plain s n (purposes.Update plsp) = refl
vain_plain s n (purposes.Initiate name c) = refl
vain_plain s n (purposes.Answer request plsp c) = saying_plain s n (no_path_message request) (no_path_message request) (no_path_message_plain request)

in_vain_plain : (s : State) (t : Ticket) → in_vain (plain s) (plain_ticket t) ≡ plain (in_vain s t)
in_vain_plain s t = ap (λ u. answered_in_vain u t.peer (plain_purpose t.purpose)) (ended_plain s t) ∙ vain_plain (ended s t) t.peer t.purpose

again_plain : (s : State) (id : ℕ) → put_back (map plain_ticket s.tickets) id ≡ map plain_ticket (put_back s.tickets id)
again_plain s id = edit_first-map plain_ticket waiting_again (is_ticket id) (λ t. refl) (λ t. refl) s.tickets

judged_plain : (s : State) (t : Ticket) (links : List ℕ) (v : Verdict) → judged (plain s) (plain_ticket t) links v ≡ plain_outcome (judged s t links v)
judged_plain s t links verdicts.Grant = let state = granted_plain s t links in λ i. outcome_of (state i) (replies.Granted (next_plain s t.peer i))
judged_plain s t links verdicts.Answer = ap (λ u. outcome_of u replies.Answered) (answered_plain s t links)
judged_plain s t links verdicts.Again = ap (λ ts. outcome_of (record (plain s) { tickets = ts }) replies.Again) (again_plain s t.id)
judged_plain s t links verdicts.NoPath = ap (λ u. outcome_of u replies.NoPath) (in_vain_plain s t)
judged_plain s t links verdicts.GivenUp = ap (λ u. outcome_of u replies.GivenUp) (in_vain_plain s t)
judged_plain s t links verdicts.Gone = ap (λ u. outcome_of u replies.Gone) (ended_plain s t)

committed_plain : (s : State) (offer : Option (List ℕ)) (t : Option Ticket) → committed (plain s) offer (option_map plain_ticket t) ≡ plain_outcome (committed s offer t)
committed_plain s offer None = refl
committed_plain s offer (Some t) =
    let links = unwrap_or offer [] in
    decided_plain s (unless t.taken NotTaken) (unless t.taken NotTaken) (judged (plain s) (plain_ticket t) links (verdict_on (plain s) (plain_ticket t) offer)) (judged s t links (verdict_on s t offer)) refl
    (ap (judged (plain s) (plain_ticket t) links) (verdict_on_plain s t offer) ∙ judged_plain s t links (verdict_on s t offer))

commit_comes : (s : State) (id : ℕ) (offer : Option (List ℕ)) → commit_step (plain s) id offer ≡ plain_outcome (commit_step s id offer)
commit_comes s id offer = ap (committed (plain s) offer) (find-map plain_ticket (is_ticket id) (λ t. refl) s.tickets) ∙ committed_plain s offer (ticket_at s.tickets id)

-- ---- any event

pub step_comes : (s : State) (event : Event) → step (plain s) (plain_event event) ≡ plain_outcome (step s event)
unfolding step
step_comes s (Up n sent) = up_comes s n sent
step_comes s (Report n r) = report_comes s n r
step_comes s (Marker n) = marker_comes s n
step_comes s (Down n) = down_comes s n
step_comes s (Expire n) = expire_comes s n
step_comes s (Drain n) = drain_comes s n
step_comes s (PeerRefused n srp) = refused_comes s n srp
step_comes s (Return n plsp) = return_comes s n plsp
step_comes s (Delete n plsp) = delete_comes s n plsp
step_comes s (Ask n purpose) = ask_comes s n purpose
step_comes s Take = take_comes s
step_comes s (Commit id offer) = commit_comes s id offer
step_comes s (Reload entries) = decided_plain s (must_have_links s.te entries) (must_have_links s.te entries) (done (after_reload (plain s) entries)) (done (after_reload s entries)) refl refl

-- ---- what is plain stays as it is

attributes_again : (a : Option Attributes) → option_map plain_attributes (option_map plain_attributes a) ≡ option_map plain_attributes a
attributes_again None = refl
attributes_again (Some a) = refl

initiate_again : (i : Initiate) → plain_message (plain_message (messages.Initiate i)) ≡ plain_message (messages.Initiate i)
initiate_again (initiates.Create c) = ap (λ a. messages.Initiate (initiates.Create (record c { attributes = a }))) (attributes_again c.attributes)
initiate_again (initiates.Remove srp plsp) = refl

message_again : (m : Message) → plain_message (plain_message m) ≡ plain_message m
message_again (messages.Report reports) = ap messages.Report (again-map plain_report (λ r. refl) reports)
message_again (messages.Update u) = ap (λ a. messages.Update (record u { attributes = a })) (attributes_again u.attributes)
message_again (messages.Initiate i) = initiate_again i
message_again (messages.Opening opening) = refl
message_again messages.Keepalive = refl
message_again (messages.Request requests) = refl
message_again (messages.Reply reply) = refl
message_again messages.Notify = refl
message_again (messages.Error errors) = refl
message_again (messages.Close reason) = refl
message_again (messages.Unknown kind) = refl

peer_again : (p : Peer) → plain_peer (plain_peer p) ≡ plain_peer p
peer_again p = ap (λ ms. record (plain_peer p) { outgoing = ms }) (again-map plain_message message_again p.outgoing)

purpose_again : (p : Purpose) → plain_purpose (plain_purpose p) ≡ plain_purpose p
purpose_again (purposes.Update plsp) = refl
purpose_again (purposes.Initiate name c) = refl
purpose_again (purposes.Answer request plsp c) = refl

ticket_again : (t : Ticket) → plain_ticket (plain_ticket t) ≡ plain_ticket t
ticket_again t = ap (λ p. record (plain_ticket t) { purpose = p }) (purpose_again t.purpose)

abbrev state_by : State → List Record → List Peer → List Ticket → State
state_by s rs ps ts = record s { base = record s.base { records = rs }; peers = ps; tickets = ts }

state_again : (s : State) → plain (plain s) ≡ plain s
state_again s = λ i. state_by s (again-map plain_record (λ r. refl) s.base.records i) (again-map plain_peer peer_again s.peers i) (again-map plain_ticket ticket_again s.tickets i)

reply_again : (r : Reply) → plain_reply (plain_reply r) ≡ plain_reply r
reply_again (replies.Job job) = ap (λ t. replies.Job (record job { ticket = t })) (ticket_again job.ticket)
reply_again (replies.Out waiting) = ap replies.Out (again-map plain_message message_again waiting)
reply_again replies.Done = refl
reply_again (replies.Booked wants) = refl
reply_again (replies.Asked id) = refl
reply_again replies.Idle = refl
reply_again (replies.Granted srp) = refl
reply_again replies.Answered = refl
reply_again replies.Again = refl
reply_again replies.NoPath = refl
reply_again replies.GivenUp = refl
reply_again replies.Gone = refl
reply_again (replies.Removing srp) = refl
reply_again (replies.Refused why) = refl

outcome_again : (o : Outcome) → plain_outcome (plain_outcome o) ≡ plain_outcome o
outcome_again o = λ i. outcome_of (state_again o.state i) (reply_again o.reply i)

pub step_plain : (s : State) (event : Event) → plain_outcome (step s event) ≡ plain_outcome (step (plain s) (plain_event event))
step_plain s event = sym (outcome_again (step s event)) ∙ ap plain_outcome (sym (step_comes s event))
