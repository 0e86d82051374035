-- Each step leaves the state consistent, and no SRP-ID above the last that its peer was given.
use Rattle.std.proofs.Common.{◌≡◌, ◌≤◌, ◌<◌, ◌==◌, ◌&&◌, ◌||◌, ℕ, ◌+◌, Bool, true, false, cond, not, nat_lt, nat_le, List, [], ◌∷◌, length, map, filter, refl, sym, ap, subst, arith}
use Rattle.std.specs.Prelude.{Option, Some, None, Result, Ok, OnOk, OnErr, find, unwrap_or, option_map, IfSome, if◌then◌else◌}
use Rattle.std.specs.List.{list_all, list_any}
use Rattle.std.specs.declared.alloc.AllocError.{AllocError}
use Rattle.std.proofs.lemmas.Bool.{and_from, and_parts, eqb-true}
use Rattle.std.proofs.lemmas.Bool.Decides.{nat_tests}
use Rattle.lsp_words.specs.declared.object.Capabilities.{Capabilities}
use Rattle.pcep_messages.specs.declared.message.Message.{Message}
use Rattle.pcep_messages.specs.declared.message.StateReport.{StateReport}
use Rattle.te_base.specs.Ted.{Ted}
use Rattle.lsp_base.specs.Lsps.{Lsps, AreDistinct, changed, dropping, has_none_left, is_path_of, is_record_of, lsp_at, taking}
use Rattle.lsp_base.specs.Grants.{has_srp}
use Rattle.lsp_base.specs.Pending.{is_grant_as}
use Rattle.lsp_base.specs.Refusals.{◌⨟◌}
use Rattle.lsp_base.specs.declared.lsp.Constraints.{Constraints}
use Rattle.lsp_base.specs.declared.lsp.Lsp.{Lsp}
use Rattle.lsp_base.specs.declared.path.Path.{Path}
use Rattle.lsp_base.specs.declared.effect.Effect.{Effect}
use Rattle.lsp_base.specs.declared.effect.Record.{Record}
use Rattle.lsp_base.specs.declared.effect.RecordChange.{RecordChange}
use Rattle.lsp_base.specs.declared.why.Why.{Why}
use Rattle.sync_rules.specs.Peers.{is_of_peer, up_effect, marker_effect, down_effect, expire_effect}
use Rattle.delegate_rules.specs.Effects.{report_result}
use Rattle.delegate_rules.specs.Refusals.{refused_effect}
use Rattle.delegate_rules.specs.Reports.{old_removing}
use Rattle.delegate_rules.specs.Returns.{given_back, must_be_held, undelegated}
use Rattle.initiate_rules.specs.Checks.{may_be_deleted}
use Rattle.initiate_rules.specs.Messages.{return_message}
use Rattle.commit_core.specs.Offers.{is_request}
use Rattle.commit_core.specs.Routes.{is_acceptable}
use Rattle.commit_core.specs.Verdicts.{is_gone, verdict}
use Rattle.commit_core.specs.declared.ticket.Purpose.{Purpose}
use Rattle.commit_core.specs.declared.ticket.Purpose.TheVariants as purposes
use Rattle.commit_core.specs.declared.ticket.Ticket.{Ticket}
use Rattle.commit_core.specs.declared.verdict.PeerView.{PeerView}
use Rattle.commit_core.specs.declared.verdict.Verdict.{Verdict}
use Rattle.commit_core.specs.declared.verdict.Verdict.TheVariants as verdicts
use Rattle.step_core.specs.Asks.{asked_with, may_be_asked, may_have_one_more, must_have_ends, new_ticket, with_ticket, constraints_for}
use Rattle.step_core.specs.Consistent.{AreRising, asked_as, count, has_srps_left, IsConsistent, NoneAbove}
use Rattle.step_core.specs.Grants.{committed, ended, judged, name_of_grant, path_of, taken, saying, answered_in_vain, verdict_on, view_of}
use Rattle.step_core.specs.Names.{is_of_grant}
use Rattle.step_core.specs.Outcomes.{Outcome, decided, done, must_be_down, must_be_known, must_be_up, must_have_a_number, must_take_initiations, must_take_updates}
use Rattle.link_reload.specs.Reloads.{must_have_links}
use Rattle.step_core.specs.Reloads.{after_reload}
use Rattle.step_core.specs.States.{State, affected, asked, emptied, in_session, is_peer, next_number, out_of_session, peer_at, put_peer, synchronized, with_message, unknown_peer, empty}
use Rattle.step_core.specs.Steps.{after_down, after_expire, after_marker, after_refused, after_return, after_up, booked, deleted, drained, may_be_known, step}
use Rattle.ticket_table.specs.Tickets.{AreInOrder, first_waiting, put_back, ticket_at}
use Rattle.step_core.specs.declared.event.Event.{Event}
use Rattle.step_core.specs.declared.event.Event.TheVariants.{Up, Report, Marker, Down, Expire, Drain, Refused as PeerRefused, Return, Delete, Ask, Take, Commit, Reload}
use Rattle.step_core.specs.declared.event.Reply.{Reply}
use Rattle.step_core.specs.declared.names.AwaitedName.{AwaitedName}
use Rattle.step_core.specs.declared.peer.Peer.{Peer}
use Rattle.step_core.proofs.Consistent.{Keeps, consistent_effect, consistent_stale, keeps_all, keeps_effect, has_paths, keeps_lsps, less_asked, none_by, number_of, put_rise, same_peers, stale_asked}
use Rattle.step_core.proofs.Counts.{count-exchanged, count-filter, count-filtered, count-fewer, count-map, count-none, count-same, none_of}
use Rattle.step_core.proofs.Dropped.{has_none}
use Rattle.step_core.proofs.Kept.{HasPaths, count-length, KeepsPaths, down-keeps, expire-keeps, marker-keeps, no_effect-keeps, one_record-keeps, up-keeps}
use Rattle.step_core.proofs.KeptRefusals.{refused-keeps}
use Rattle.step_core.proofs.KeptReports.{report-keeps}
use Rattle.step_core.proofs.PeerCounts.{forgotten-other}
use Rattle.step_core.proofs.Plain.{IsPlain, no_effect-plain, down-plain, expire-plain, marker-plain, refused-plain, report-plain, sets_numbered, up-plain}
use Rattle.step_core.proofs.RecordCounts.{AllTake-map, known_numbered, none_awaited, put-same, taken_all}
use Rattle.step_core.proofs.OtherTickets.{found_by_own}
use Rattle.ticket_table.proofs.TicketOrders.{order_pushed, order_put_back, order_taken, order_without}
use Rattle.step_core.proofs.StepLaws.{booked-has, by_step, decided-has, in_vain-has}
use Rattle.lsp_base.proofs.Removal.{has_filter}
use Rattle.step_core.proofs.ConsistentGrants.{asked_rises, keeps_delete, keeps_granted, keeps_once, may_grant, no_name_yet}

-- ---- sessions

keeps_up : (s : State) (n : ℕ) (sent : Option Capabilities) → IsConsistent s → Keeps s (after_up s n sent)
keeps_up s n sent c = keeps_effect s _ n (up_effect s.base n sent) c (up-plain s.base n sent c.numbered) (up-keeps s.base n sent (has_paths s c)) refl refl (keeps_once s (in_session (peer_at s.peers n) (s.last_session + 1) sent) c) (λ rising. put_rise s.peers n (in_session (peer_at s.peers n) (s.last_session + 1) sent) (number_of n s.peers) (omega arith)) c.tickets

keeps_marker : (s : State) (n : ℕ) → IsConsistent s → Keeps s (after_marker s n)
keeps_marker s n c = keeps_effect s _ n (marker_effect s.base n) c (marker-plain s.base n c.numbered) (marker-keeps s.base n (has_paths s c)) refl refl (keeps_once s (synchronized (peer_at s.peers n)) c) (λ rising. put_rise s.peers n (synchronized (peer_at s.peers n)) (number_of n s.peers) (omega arith)) c.tickets

keeps_drain : (s : State) (n : ℕ) → IsConsistent s → Keeps s (drained s n).state
keeps_drain s n c = keeps_lsps s _ c refl refl (keeps_once s (emptied (peer_at s.peers n)) c) (put_rise s.peers n (emptied (peer_at s.peers n)) (number_of n s.peers) (omega arith)) c.tickets

keeps_down : (s : State) (n : ℕ) → IsConsistent s → Keeps s (after_down s n)
keeps_down s n c =
    let e = down_effect s.base n in
    let peer = out_of_session (peer_at s.peers n) in
    let plain = down-plain s.base n c.numbered in
    let left : State = record (affected s n e) { peers = put_peer s.peers peer } in
    let first : IsConsistent left = consistent_effect s left n e c plain (down-keeps s.base n (has_paths s c)) refl refl (keeps_once s peer c) c.tickets in
    record {
      consistent = consistent_stale left (after_down s n) n first refl refl refl c.tickets;
      none = λ above rising. none_by s (after_down s n) (λ m k. let stale = stale_asked (changed s.base n e) n m k in let less = less_asked s.base n e plain m k in omega (arith, stale, less)) (put_rise s.peers n peer (number_of n s.peers) (omega arith)) above;
    }

-- ---- a peer that is forgotten

own_twice : (b c : Bool) → (b && (b && c)) ≡ (b && c)
own_twice true c = refl
own_twice false c = refl

never_both : (b c : Bool) → (not b && (b && c)) ≡ false
never_both true c = refl
never_both false c = refl

-- no grant of the peer is left
no_grants_left : (base : Lsps) (n k : ℕ) → count (is_grant_as n k) (changed base n (expire_effect base n)).paths ≡ 0
unfolding changed expire_effect dropping
no_grants_left base n k =
    let paths = count-exchanged (is_grant_as n k) base.paths (filter (is_of_peer n) base.paths) [] (has_filter (is_of_peer n) base.paths) in
    let gone = count-filter (is_grant_as n k) (is_of_peer n) base.paths in
    let all = count-same (λ (x : Path). is_of_peer n x && is_grant_as n k x) (is_grant_as n k) (λ x. own_twice (x.peer == n) (has_srp (Some k) x.part)) base.paths in
    omega (arith, paths, gone, all)

-- each of its records is removed
each_goes : (base : Lsps) (n q : ℕ) → count (is_record_of n q) base.records ≤ count (λ c. c.plsp == q) (map taking (filter (has_none_left (is_of_peer n) n base.paths) base.records))
each_goes base n q =
    let mapped = count-map (λ (c : RecordChange). c.plsp == q) taking (filter (has_none_left (is_of_peer n) n base.paths) base.records) in
    let chosen = count-filter (λ (r : Record). r.plsp == q) (has_none_left (is_of_peer n) n base.paths) base.records in
    let fewer = count-fewer (is_record_of n q) (λ (r : Record). has_none_left (is_of_peer n) n base.paths r && r.plsp == q) (λ r is. goes r is) base.records in
    omega (arith, mapped, chosen, fewer)
  where
    none : (r : Record) → list_any (λ x. not (is_of_peer n x) && is_path_of n r.plsp x) base.paths ≡ false
    none r = none_of (λ (x : Path). not (is_of_peer n x) && is_path_of n r.plsp x) base.paths (count-none (λ (x : Path). not (is_of_peer n x) && is_path_of n r.plsp x) (λ x. never_both (x.peer == n) (x.plsp == r.plsp)) base.paths)

    goes : (r : Record) → is_record_of n q r ≡ true → (has_none_left (is_of_peer n) n base.paths r && r.plsp == q) ≡ true
    goes r is =
        let parts = and_parts (r.peer == n) (r.plsp == q) is in
        and_from (has_none_left (is_of_peer n) n base.paths r) (r.plsp == q) (and_from (r.peer == n) _ parts.0 (ap not (none r))) parts.1

no_records_left : (base : Lsps) (n q : ℕ) → AreDistinct base.records → count (is_record_of n q) (changed base n (expire_effect base n)).records ≡ 0
unfolding changed expire_effect dropping
no_records_left base n q distinct =
    let once = distinct n q in
    let same = count-length (is_record_of n q) base.records in
    taken_all n q base.records (map taking (filter (has_none_left (is_of_peer n) n base.paths) base.records)) (AllTake-map (filter (has_none_left (is_of_peer n) n base.paths) base.records)) (omega (arith, once, same)) (each_goes base n q)

nothing_left : (base : Lsps) (n k : ℕ) → AreDistinct base.records → asked_as (changed base n (expire_effect base n)) n k ≡ 0
nothing_left base n k distinct =
    let grants = no_grants_left base n k in
    let removals = none_awaited n k (changed base n (expire_effect base n)).records (λ q. no_records_left base n q distinct) in
    omega (arith, grants, removals)

keeps_expire : (s : State) (n : ℕ) → IsConsistent s → Keeps s (after_expire s n)
keeps_expire s n c = record {
  consistent = consistent_effect s (after_expire s n) n (expire_effect s.base n) c plain (expire-keeps s.base n (has_paths s c)) refl refl (λ m. let fewer = count-filtered (is_peer m) (λ (p : Peer). not (is_peer n p)) s.peers in let few = c.peers m in omega (arith, fewer, few)) c.tickets;
  none = λ above rising. record { none = λ m k lt. by above m k (n == m) refl lt };
}
  where
    plain : IsPlain s.base n (expire_effect s.base n)
    plain = expire-plain s.base n c.numbered

    by : NoneAbove s → (m k : ℕ) (b : Bool) → (n == m) ≡ b → (peer_at (filter (λ p. not (is_peer n p)) s.peers) m).last_srp < k → asked_as (changed s.base n (expire_effect s.base n)) m k ≡ 0
    by above m k true is lt = subst (λ (j : ℕ). asked_as (changed s.base n (expire_effect s.base n)) j k ≡ 0) (eqb-true n m is) (nothing_left s.base n k c.distinct)
    by above m k false other lt =
        let same = ap (λ (p : Peer). p.last_srp) (forgotten-other n m other s.peers) in
        let none = above.none m k (omega (arith, lt, same)) in
        let less = less_asked s.base n (expire_effect s.base n) plain m k in
        omega (arith, none, less)

-- ---- reports and refusals

keeps_report : (s : State) (n : ℕ) (r : StateReport) (e : Effect) → IsConsistent s → report_result s.base s.te n r ≡ Ok e → Keeps s (affected s n e)
keeps_report s n r e c is = keeps_effect s (affected s n e) n e c (report-plain s.base s.te n r e is) (report-keeps s.base s.te n r e (has_paths s c) is) refl refl c.peers (λ rising. same_peers s.peers) c.tickets

keeps_refused : (s : State) (n srp : ℕ) → IsConsistent s → Keeps s (after_refused s n srp)
keeps_refused s n srp c = keeps_effect s (after_refused s n srp) n (refused_effect s.base n srp) c (refused-plain s.base n srp c.numbered) (refused-keeps s.base n srp (has_paths s c)) refl refl c.peers (λ rising. same_peers s.peers) c.tickets

-- ---- an LSP that is given back

given_back-plain : (base : Lsps) (n plsp : ℕ) (o : Option Lsp) → lsp_at base.records n plsp ≡ o → count (λ r. r.plsp == 0) base.records ≡ 0 → IsPlain base n (given_back plsp o)
given_back-plain base n plsp None known numbered = no_effect-plain base n
given_back-plain base n plsp (Some lsp) known numbered = record {
  has = has_none base.paths;
  grants = λ m k. omega arith;
  unbound = λ m k. refl;
  removals = λ m k. put-same m k n plsp (undelegated lsp) base.records (ap old_removing known);
  numbered = sets_numbered plsp (undelegated lsp) (known_numbered n plsp lsp base.records numbered known);
}

given_back-keeps : (base : Lsps) (n plsp : ℕ) (o : Option Lsp) → lsp_at base.records n plsp ≡ o → HasPaths base → KeepsPaths base n (given_back plsp o)
given_back-keeps base n plsp None known h = no_effect-keeps base n h
given_back-keeps base n plsp (Some lsp) known h = one_record-keeps base n plsp lsp (undelegated lsp) h known

keeps_return : (s : State) (n plsp : ℕ) → IsConsistent s → Keeps s (after_return s n plsp)
keeps_return s n plsp c =
    let message = return_message (next_number s n) plsp in
    keeps_effect s (after_return s n plsp) n (given_back plsp (lsp_at s.base.records n plsp)) c (given_back-plain s.base n plsp (lsp_at s.base.records n plsp) refl c.numbered) (given_back-keeps s.base n plsp (lsp_at s.base.records n plsp) refl (has_paths s c)) refl refl (keeps_once s (asked (peer_at s.peers n) message) c) (asked_rises s n message) c.tickets

-- ---- tickets

keeps_tickets : (s t : State) → IsConsistent s → t.base ≡ s.base → t.names ≡ s.names → t.peers ≡ s.peers → AreInOrder t.last_ticket t.tickets → Keeps s t
keeps_tickets s t c base names peers tickets = keeps_lsps s t c base names (λ m. subst (λ (ps : List Peer). count (is_peer m) ps ≤ 1) (sym peers) (c.peers m)) (λ m. let e = ap (λ (ps : List Peer). (peer_at ps m).last_srp) peers in omega (arith, e)) tickets

keeps_ended : (s : State) (t : Ticket) → IsConsistent s → Keeps s (ended s t)
keeps_ended s t c = keeps_tickets s (ended s t) c refl refl refl (order_without t.id s.last_ticket s.tickets c.tickets)

keeps_with_message : (s : State) (t : Ticket) (message : Message) → IsConsistent s → Keeps s (saying (ended s t) t.peer message)
keeps_with_message s t message c = keeps_lsps s _ c refl refl (keeps_once s (with_message (peer_at s.peers t.peer) message) c) (put_rise s.peers t.peer (with_message (peer_at s.peers t.peer) message) (number_of t.peer s.peers) (omega arith)) (order_without t.id s.last_ticket s.tickets c.tickets)

keeps_in_vain : (s : State) (t : Ticket) → IsConsistent s → Keeps s (answered_in_vain (ended s t) t.peer t.purpose)
keeps_in_vain s t c = in_vain-has (Keeps s) (ended s t) t.peer t.purpose (keeps_ended s t c) (λ m. keeps_with_message s t m c)

-- a ticket is searched for again only if it may be tried again
offer_again : (gone acceptable low request many used : Bool) → (if gone then verdicts.Gone else (if acceptable then (if request then verdicts.Answer else (if many || used then verdicts.GivenUp else verdicts.Grant)) else (if low then verdicts.Again else verdicts.GivenUp))) ≡ verdicts.Again → low ≡ true
offer_again true acceptable low request many used is = absurd (cc (is))
offer_again false true low true many used is = absurd (cc (is))
offer_again false true low false true used is = absurd (cc (is))
offer_again false true low false false true is = absurd (cc (is))
offer_again false true low false false false is = absurd (cc (is))
offer_again false false true request many used is = refl
offer_again false false false request many used is = absurd (cc (is))

nothing_again : (gone same low : Bool) → (if gone then verdicts.Gone else (if same then verdicts.NoPath else (if low then verdicts.Again else verdicts.NoPath))) ≡ verdicts.Again → low ≡ true
nothing_again true same low is = absurd (cc (is))
nothing_again false true low is = absurd (cc (is))
nothing_again false false true is = refl
nothing_again false false false is = absurd (cc (is))

again_by : (t : Ticket) (offer : Option Path) (lsps : Lsps) (te : Ted) (v : PeerView) → verdict t offer lsps te v ≡ verdicts.Again → nat_lt t.tries 4 ≡ true
unfolding verdict
again_by t None lsps te v is = nothing_again (is_gone lsps t v) (v.changes == t.seen) (nat_lt t.tries 4) is
again_by t (Some g) lsps te v is = offer_again (is_gone lsps t v) (is_acceptable te lsps.paths t.constraints g) (nat_lt t.tries 4) (is_request t.purpose) (nat_le 16384 (length lsps.paths)) v.srp_in_use is

few_tries : (n : ℕ) → nat_lt n 4 ≡ true → n < 4
few_tries n is = grind (arith, nat_tests)

keeps_again : (s : State) (t : Ticket) (offer : Option (List ℕ)) → ticket_at s.tickets t.id ≡ Some t → verdict_on s t offer ≡ verdicts.Again → IsConsistent s → Keeps s (record s { tickets = put_back s.tickets t.id })
keeps_again s t offer there is c =
    let few = few_tries t.tries (again_by t (option_map (path_of s t) offer) s.base s.te (view_of s t.peer) is) in
    keeps_tickets s _ c refl refl refl (order_put_back t.id s.last_ticket s.tickets (subst (λ (o : Option Ticket). IfSome o (λ u. u.tries < 4)) (sym there) few) c.tickets)

keeps_judged : (s : State) (t : Ticket) (offer : Option (List ℕ)) (v : Verdict) → ticket_at s.tickets t.id ≡ Some t → verdict_on s t offer ≡ v → IsConsistent s → Keeps s (judged s t (unwrap_or offer []) v).state
keeps_judged s t offer verdicts.Grant there is c = keeps_granted s t (unwrap_or offer []) c (may_grant s t offer is)
keeps_judged s t offer verdicts.Answer there is c = keeps_with_message s t _ c
keeps_judged s t offer verdicts.Again there is c = keeps_again s t offer there is c
keeps_judged s t offer verdicts.NoPath there is c = keeps_in_vain s t c
keeps_judged s t offer verdicts.GivenUp there is c = keeps_in_vain s t c
keeps_judged s t offer verdicts.Gone there is c = keeps_ended s t c

keeps_commit : (s : State) (offer : Option (List ℕ)) (id : ℕ) (o : Option Ticket) → ticket_at s.tickets id ≡ o → IsConsistent s → Keeps s (committed s offer o).state
keeps_commit s offer id None is c = keeps_all s c
keeps_commit s offer id (Some t) is c = decided-has (Keeps s) s _ _ (keeps_all s c) (keeps_judged s t offer (verdict_on s t offer) (found_by_own id s.tickets t is) refl c)

keeps_take : (s : State) (o : Option Ticket) → IsConsistent s → Keeps s (taken s o).state
keeps_take s None c = keeps_all s c
keeps_take s (Some t) c = keeps_tickets s _ c refl refl refl (order_taken s.changes s.last_ticket s.tickets c.tickets)

keeps_ask : (s : State) (n : ℕ) (purpose : Purpose) (o : Option Constraints) → IsConsistent s → Keeps s (asked_with s n purpose o).state
keeps_ask s n purpose None c = keeps_all s c
keeps_ask s n purpose (Some constraints) c =
    let t = new_ticket s n purpose constraints in
    decided-has (Keeps s) s (must_have_ends s.te constraints ⨟ may_have_one_more s.tickets) (with_ticket s t) (keeps_all s c) (keeps_tickets s _ c refl refl refl (order_pushed t s.last_ticket s.tickets (omega arith) refl c.tickets))

-- ---- any event

-- if all tests pass, so does the last one
last_passes : (a b : Option Why) → (a ⨟ b) ≡ None → b ≡ None
last_passes (Some why) b is = absurd (cc (is))
last_passes None b is = is

decided-when : (s : State) (whys : Option Why) (o : Outcome) → IsConsistent s → (whys ≡ None → Keeps s o.state) → Keeps s (decided s whys o).state
decided-when s (Some why) o c there = keeps_all s c
decided-when s None o c there = there refl

pub step_keeps : (s : State) (event : Event) → IsConsistent s → Keeps s (step s event).state
unfolding step
step_keeps s (Up n sent) c = decided-has (Keeps s) s (must_be_down s.peers n ⨟ may_be_known s.peers n) (done (after_up s n sent)) (keeps_all s c) (keeps_up s n sent c)
step_keeps s (Report n r) c = decided-has (Keeps s) s (must_be_up s.peers n) (booked s n r.plsp (report_result s.base s.te n r)) (keeps_all s c) (booked-has (Keeps s) s n r.plsp (report_result s.base s.te n r) (keeps_all s c) (λ e is. keeps_report s n r e c is))
step_keeps s (Marker n) c = decided-has (Keeps s) s (must_be_up s.peers n) (done (after_marker s n)) (keeps_all s c) (keeps_marker s n c)
step_keeps s (Down n) c = decided-has (Keeps s) s (must_be_up s.peers n) (done (after_down s n)) (keeps_all s c) (keeps_down s n c)
step_keeps s (Expire n) c = decided-has (Keeps s) s (must_be_known s.peers n ⨟ must_be_down s.peers n) (done (after_expire s n)) (keeps_all s c) (keeps_expire s n c)
step_keeps s (Drain n) c = decided-has (Keeps s) s (must_be_up s.peers n) (drained s n) (keeps_all s c) (keeps_drain s n c)
step_keeps s (PeerRefused n srp) c = decided-has (Keeps s) s (must_be_up s.peers n) (done (after_refused s n srp)) (keeps_all s c) (keeps_refused s n srp c)
step_keeps s (Return n plsp) c = decided-has (Keeps s) s (must_take_updates s.peers n ⨟ must_be_held s.base n plsp ⨟ must_have_a_number s n) (done (after_return s n plsp)) (keeps_all s c) (keeps_return s n plsp c)
step_keeps s (Delete n plsp) c = decided-when s (must_take_initiations s.peers n ⨟ may_be_deleted s.base n plsp ⨟ must_have_a_number s n) (deleted s n plsp) c (λ is. keeps_delete s n plsp c (last_passes (may_be_deleted s.base n plsp) (must_have_a_number s n) (last_passes (must_take_initiations s.peers n) (may_be_deleted s.base n plsp ⨟ must_have_a_number s n) is)))
step_keeps s (Ask n purpose) c = decided-has (Keeps s) s (may_be_asked s n purpose) _ (keeps_all s c) (keeps_ask s n purpose (constraints_for s.base.records n purpose) c)
step_keeps s Take c = keeps_take s (first_waiting s.tickets) c
step_keeps s (Commit id offer) c = keeps_commit s offer id (ticket_at s.tickets id) refl c
step_keeps s (Reload entries) c = decided-has (Keeps s) s (must_have_links s.te entries) (done (after_reload s entries)) (keeps_all s c) (keeps_tickets s (after_reload s entries) c refl refl refl c.tickets)

-- ---- the empty state

pub empty_consistent : (te : Ted) → IsConsistent (empty te)
empty_consistent te = record { distinct = λ peer plsp. omega arith; numbered = refl; asked = λ peer srp. omega arith; names = λ peer srp. refl; grants = λ peer plsp bound. omega arith; kept = λ peer plsp bound. omega arith; peers = λ number. omega arith; tickets = record { rising = tt; given = refl; tries = refl } }

pub empty_none : (te : Ted) → NoneAbove (empty te)
empty_none te = record { none = λ peer srp lt. refl }

-- ---- the same for a call that takes the step, or leaves the state if memory runs out

pub consistent_by : (s t : State) (event : Event) (result : Result Reply AllocError) → IsConsistent s → OnOk result (t ≡ (step s event).state) → OnErr result (t ≡ s) → IsConsistent t
consistent_by s t event result c ok err = by_step IsConsistent s t event result c (step_keeps s event c).consistent ok err

pub none_above_by : (s t : State) (event : Event) (result : Result Reply AllocError) → IsConsistent s → NoneAbove s → AreRising s → OnOk result (t ≡ (step s event).state) → OnErr result (t ≡ s) → NoneAbove t
none_above_by s t event result c above rising ok err = by_step NoneAbove s t event result above ((step_keeps s event c).none above rising) ok err

-- ---- what the calls ask for

-- each last SRP-ID is low if each listed peer has some left
low_by : (n : ℕ) (ps : List Peer) → list_all has_srps_left ps ≡ true → (peer_at ps n).last_srp < 0xFFFFFFFE
low_by n [] all = omega arith
low_by n (p ∷ ps) all = by (is_peer n p) (and_parts (has_srps_left p) (list_all has_srps_left ps) all) (low_by n ps)
  where
    less : (k : ℕ) → nat_lt k 0xFFFFFFFE ≡ true → k < 0xFFFFFFFE
    less k is = grind (arith, nat_tests)

    by : (b : Bool) → (has_srps_left p ≡ true) × (list_all has_srps_left ps ≡ true) → (list_all has_srps_left ps ≡ true → (peer_at ps n).last_srp < 0xFFFFFFFE) → (unwrap_or (cond b (Some p) (find (is_peer n) ps)) (unknown_peer n)).last_srp < 0xFFFFFFFE
    by true parts rest = less p.last_srp parts.0
    by false parts rest = rest parts.1

pub rising_by : (s : State) → list_all has_srps_left s.peers ≡ true → AreRising s
rising_by s all = record { low = λ n. low_by n s.peers all }

-- no name is held yet for a grant that is new
pub name_absent : (names : List AwaitedName) (n srp : ℕ) (p : Purpose) → list_any (is_of_grant n srp) names ≡ false → IfSome (name_of_grant n srp p) (λ a. list_any (is_of_grant a.peer a.srp) names ≡ false)
name_absent names n srp (purposes.Update plsp) absent = tt
name_absent names n srp (purposes.Initiate name constraints) absent = absent
name_absent names n srp (purposes.Answer request plsp constraints) absent = tt

pub grant_is_new : (s : State) (t : Ticket) (offer : Option (List ℕ)) → IsConsistent s → verdict_on s t offer ≡ verdicts.Grant → list_any (is_of_grant t.peer (next_number s t.peer)) s.names ≡ false
grant_is_new s t offer c is = no_name_yet s t.peer c (may_grant s t offer is).free
