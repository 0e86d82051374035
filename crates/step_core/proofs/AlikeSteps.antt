-- States that differ only in the order of their lists answer each event alike, and differ in nothing else after it.
use Rattle.std.proofs.Common.{◌≡◌, ◌≤◌, ◌==◌, ◌&&◌, ◌||◌, ℕ, ◌+◌, Bool, true, cond, not, nat_le, List, [], ◌∷◌, ◌++◌, length, filter, IsPermutation, refl, sym, ap, ◌∙◌, subst, arith}
use Rattle.std.specs.Prelude.{Option, Some, None, Result, Ok, Err, option_map, unwrap_or, if◌then◌else◌}
use Rattle.std.proofs.lemmas.Bool.{and_from, and_parts}
use Rattle.std.proofs.lemmas.List.Sorted.{IsPermutation-append_left, IsPermutation-map, IsPermutation-refl, length_permutation}
use Rattle.lsp_words.specs.declared.object.Capabilities.{Capabilities}
use Rattle.pcep_messages.specs.declared.message.Message.{Message}
use Rattle.pcep_messages.specs.declared.message.StateReport.{StateReport}
use Rattle.te_snapshot.specs.Admissible.{keeps_other_bounds}
use Rattle.te_snapshot.specs.Network.{network_of, state_of}
use Rattle.lsp_base.specs.Lsps.{HasAll, Lsps, changed, lsp_at, made_stale, with_stale}
use Rattle.lsp_base.specs.Grants.{has_srp, is_unbound_grant}
use Rattle.lsp_base.specs.Pending.{is_delegated, is_grant_as}
use Rattle.lsp_base.specs.Refusals.{unless, ◌⨟◌}
use Rattle.lsp_base.specs.declared.effect.Effect.{Effect}
use Rattle.lsp_base.specs.declared.lsp.Constraints.{Constraints}
use Rattle.lsp_base.specs.declared.lsp.Lsp.{Lsp}
use Rattle.lsp_base.specs.declared.path.Path.{Path}
use Rattle.lsp_base.specs.declared.tunnel.Part.TheVariants.{Granted}
use Rattle.lsp_base.specs.declared.tunnel.Tunnel.{Tunnel}
use Rattle.lsp_base.specs.declared.tunnel.Tunnel.TheVariants.{Unsignalled}
use Rattle.lsp_base.specs.declared.why.Why.{Why}
use Rattle.lsp_base.specs.declared.why.Why.TheVariants.{NotTaken, Pending, SrpInUse}
use Rattle.delegate_rules.specs.Effects.{report_result}
use Rattle.delegate_rules.specs.Refusals.{refused_effect}
use Rattle.delegate_rules.specs.Returns.{given_back, must_be_held}
use Rattle.initiate_rules.specs.Checks.{may_be_deleted}
use Rattle.initiate_rules.specs.Messages.{delete_message, return_message}
use Rattle.commit_core.specs.Offers.{granted_plsp, granted_tunnel, is_request, offered_path, own_tunnel}
use Rattle.commit_core.specs.Routes.{is_route}
use Rattle.commit_core.specs.Verdicts.{is_moot, unless_tried, verdict}
use Rattle.commit_core.specs.declared.ticket.Purpose.{Purpose}
use Rattle.commit_core.specs.declared.ticket.Purpose.TheVariants as purposes
use Rattle.commit_core.specs.declared.ticket.Ticket.{Ticket}
use Rattle.commit_core.specs.declared.verdict.PeerView.{PeerView}
use Rattle.commit_core.specs.declared.verdict.Verdict.{Verdict}
use Rattle.commit_core.specs.declared.verdict.Verdict.TheVariants as verdicts
use Rattle.step_core.specs.Asks.{asked_with, is_name_held, may_be_asked, may_have_one_more, must_have_ends, new_ticket, with_ticket, constraints_for}
use Rattle.step_core.specs.Consistent.{IsConsistent, count}
use Rattle.step_core.specs.Grants.{asking, committed, ended, granted, held_by, job_of, judged, name_of_grant, path_of, taken, answered_in_vain, verdict_on, view_of, with_name}
use Rattle.step_core.specs.Names.{is_of_grant}
use Rattle.step_core.specs.Outcomes.{Outcome, decided, done, must_be_down, must_be_known, must_be_up, must_have_a_number, must_take_initiations, must_take_updates}
use Rattle.link_reload.specs.Reloads.{must_have_links}
use Rattle.step_core.specs.Reloads.{after_reload}
use Rattle.step_core.specs.States.{State, affected, asked, in_session, is_awaited_as, is_peer, next_number, peer_at, put_peer, synchronized}
use Rattle.step_core.specs.Steps.{after_delete, after_down, after_expire, after_marker, after_refused, after_return, after_up, booked, deleted, drained, may_be_known, removal_asked, step}
use Rattle.ticket_table.specs.Tickets.{first_waiting, is_name_asked, is_update_asked, searched_for, take_first, ticket_at}
use Rattle.step_core.specs.declared.event.Event.{Event}
use Rattle.step_core.specs.declared.event.Event.TheVariants.{Up, Report, Marker, Down, Expire, Drain, Refused as PeerRefused, Return, Delete, Ask, Take, Commit, Reload}
use Rattle.step_core.specs.declared.event.Reply.TheVariants.{Booked, Job as JobOf}
use Rattle.step_core.specs.declared.names.AwaitedName.{AwaitedName}
use Rattle.step_core.specs.declared.peer.Peer.{Peer}
use Rattle.step_core.proofs.Counts.{count-fewer}
use Rattle.step_core.proofs.Dropped.{has_none}
use Rattle.step_core.proofs.Plain.{down-plain, expire-plain, marker-plain, refused-plain, report-plain, up-plain}
use Rattle.step_core.specs.Laws.{AreAlike}
use Rattle.step_core.proofs.Permuted.{any-permuted}
use Rattle.step_core.proofs.PermutedShares.{all_left-permuted, fits-permuted, own_shares-permuted}
use Rattle.step_core.proofs.PermutedLists.{empty-permuted, names-permuted, paths-permuted, records-permuted}
use Rattle.step_core.proofs.PermutedEffects.{AreSameLsps, ComeToTheSame, DoTheSame, deleted-same, down-same, expire-same, held-same, known-same, marker-same, new-same, pending-same, refused-same, result-same, same_effect, up-same, used-same}

-- the state with these LSPs and names instead of its own
abbrev with_lists : State → Lsps → List AwaitedName → State
with_lists s b ns = record s { base = b; names = ns }

-- both outcomes have the same reply, and their states are alike
abbrev AreAlikeOutcomes : Outcome → Outcome → Type 0
AreAlikeOutcomes o u = (o.reply ≡ u.reply) × AreAlike o.state u.state

decided_alike : (s t : State) (why other : Option Why) (o u : Outcome) → AreAlike s t → why ≡ other → AreAlikeOutcomes o u → AreAlikeOutcomes (decided s why o) (decided t other u)
decided_alike s t why other o u alike is after = subst (λ (w : Option Why). AreAlikeOutcomes (decided s why o) (decided t w u)) is (by why)
  where
    by : (w : Option Why) → AreAlikeOutcomes (decided s w o) (decided t w u)
    by (Some w) = (refl, alike)
    by None = after

-- the sessions of both are set alike
in_sessions : (s t : State) (peers : List Peer) (session : ℕ) → AreAlike s t → AreAlike (record s { peers = peers; last_session = session }) (record t { peers = peers; last_session = session })
in_sessions s t peers session alike = record {
  paths = alike.paths;
  records = alike.records;
  names = alike.names;
  te = alike.te;
  peers = refl;
  tickets = alike.tickets;
  changes = alike.changes;
  last_session = refl;
  last_ticket = alike.last_ticket;
}

-- at most one name is held for an SRP-ID
few_names : (s : State) → IsConsistent s → (m k : ℕ) → count (is_of_grant m k) s.names ≤ 1
few_names s c m k =
    let same = c.names m k in
    let few = c.asked m k in
    let fewer = count-fewer (is_unbound_grant m (Some k)) (is_grant_as m k) (λ x is. asked_for x is) s.base.paths in
    omega (arith, same, few, fewer)
  where
    asked_for : (x : Path) → is_unbound_grant m (Some k) x ≡ true → is_grant_as m k x ≡ true
    asked_for x is =
        let parts = and_parts (x.peer == m && x.plsp == 0) (has_srp (Some k) x.part) is in
        and_from (x.peer == m) (has_srp (Some k) x.part) (and_parts (x.peer == m) (x.plsp == 0) parts.0).0 parts.1

tunnels-same : (x y : Option Tunnel) (d : Tunnel) → x ≡ y → unwrap_or x d ≡ unwrap_or y d
tunnels-same x y d is = ap (λ (o : Option Tunnel). unwrap_or o d) is

module _ (s : State) (b : Lsps) (ns : List AwaitedName) (c : IsConsistent s) (paths : IsPermutation s.base.paths b.paths) (records : IsPermutation s.base.records b.records) (names : IsPermutation s.names ns) where
  same : AreSameLsps s.base b
  same = record { paths = paths; records = records; distinct = c.distinct; asked = c.asked }

  here : AreAlike s (with_lists s b ns)
  here = record { paths = paths; records = records; names = names; te = refl; peers = refl; tickets = refl; changes = refl; last_session = refl; last_ticket = refl }

  -- ---- effects

  affected_alike : (n : ℕ) (e f : Effect) → HasAll s.base.paths e.change.dropped → DoTheSame e f → AreAlike (affected s n e) (affected (with_lists s b ns) n f)
  unfolding changed
  affected_alike n e f has alike = record {
    paths = paths-permuted s.base.paths b.paths e.change.dropped f.change.dropped e.change.added f.change.added has paths alike.dropped alike.added;
    records = records-permuted n s.base.records b.records e.records f.records c.distinct records alike.records;
    names = names-permuted s.names ns e.change.dropped f.change.dropped (few_names s c) names alike.dropped;
    te = refl;
    peers = refl;
    tickets = refl;
    changes = λ i. cond (not (sym (empty-permuted _ _ alike.dropped) i && sym (empty-permuted _ _ alike.added) i)) (s.changes + 1) s.changes;
    last_session = refl;
    last_ticket = refl;
  }

  -- ---- sessions

  up_alike : (n : ℕ) (sent : Option Capabilities) → AreAlike (after_up s n sent) (after_up (with_lists s b ns) n sent)
  up_alike n sent = in_sessions _ _ (put_peer s.peers (in_session (peer_at s.peers n) (s.last_session + 1) sent)) (s.last_session + 1) (affected_alike n _ _ (up-plain s.base n sent c.numbered).has (up-same s.base b same n sent))

  marker_alike : (n : ℕ) → AreAlike (after_marker s n) (after_marker (with_lists s b ns) n)
  marker_alike n = in_sessions _ _ (put_peer s.peers (synchronized (peer_at s.peers n))) s.last_session (affected_alike n _ _ (marker-plain s.base n c.numbered).has (marker-same s.base b same n))

  down_alike : (n : ℕ) → AreAlike (after_down s n) (after_down (with_lists s b ns) n)
  unfolding with_stale
  down_alike n =
      let after = affected_alike n _ _ (down-plain s.base n c.numbered).has (down-same s.base b same n) in
      record {
        paths = IsPermutation-map (made_stale n) _ _ after.paths;
        records = after.records;
        names = after.names;
        te = refl;
        peers = refl;
        tickets = refl;
        changes = after.changes;
        last_session = refl;
        last_ticket = refl;
      }

  expire_alike : (n : ℕ) → AreAlike (after_expire s n) (after_expire (with_lists s b ns) n)
  expire_alike n = in_sessions _ _ (filter (λ p. not (is_peer n p)) s.peers) s.last_session (affected_alike n _ _ (expire-plain s.base n c.numbered).has (expire-same s.base b same n))

  -- ---- reports and refusals

  booked_alike : (n plsp : ℕ) (x y : Result Effect Why) → ((e : Effect) → x ≡ Ok e → HasAll s.base.paths e.change.dropped) → ComeToTheSame x y → AreAlikeOutcomes (booked s n plsp x) (booked (with_lists s b ns) n plsp y)
  booked_alike n plsp (Err why) (Err other) has same = (ap (λ (w : Why). (booked s n plsp (Err w)).reply) same, here)
  booked_alike n plsp (Ok e) (Ok f) has same =
      (ap (λ (w : Bool). Booked (w && ((peer_at s.peers n).capabilities).update && not (peer_at s.peers n).syncing && not (is_update_asked s.tickets n plsp))) same.wants, affected_alike n e f (has e refl) same)
  booked_alike n plsp (Err why) (Ok f) has same = absurd same
  booked_alike n plsp (Ok e) (Err why) has same = absurd same

  report_alike : (n : ℕ) (r : StateReport) → AreAlikeOutcomes (booked s n r.plsp (report_result s.base s.te n r)) (booked (with_lists s b ns) n r.plsp (report_result b s.te n r))
  report_alike n r = booked_alike n r.plsp (report_result s.base s.te n r) (report_result b s.te n r) (λ e is. (report-plain s.base s.te n r e is).has) (result-same s.base b same s.te n r)

  refused_alike : (n srp : ℕ) → AreAlike (after_refused s n srp) (after_refused (with_lists s b ns) n srp)
  refused_alike n srp = affected_alike n (refused_effect s.base n srp) (refused_effect b n srp) (refused-plain s.base n srp c.numbered).has (subst (DoTheSame (refused_effect s.base n srp)) (sym (refused-same s.base b same n srp)) (same_effect _))

  -- ---- what a peer is asked for

  number-same : (n : ℕ) → must_have_a_number s n ≡ must_have_a_number (with_lists s b ns) n
  number-same n = λ i. unless (not (sym (used-same s.base b same n (next_number s n)) i)) SrpInUse

  asking_alike : (n : ℕ) (e f : Effect) (message : Message) → HasAll s.base.paths e.change.dropped → DoTheSame e f → AreAlike (asking s n e message) (asking (with_lists s b ns) n f message)
  asking_alike n e f message has alike = in_sessions _ _ (put_peer s.peers (asked (peer_at s.peers n) message)) s.last_session (affected_alike n e f has alike)

  back_has : (plsp : ℕ) (o : Option Lsp) → HasAll s.base.paths (given_back plsp o).change.dropped
  back_has plsp None = has_none s.base.paths
  back_has plsp (Some lsp) = has_none s.base.paths

  return_alike : (n plsp : ℕ) → AreAlike (after_return s n plsp) (after_return (with_lists s b ns) n plsp)
  return_alike n plsp =
      let known = lsp_at s.base.records n plsp in
      asking_alike n (given_back plsp known) (given_back plsp (lsp_at b.records n plsp)) (return_message (next_number s n) plsp) (back_has plsp known)
      (subst (λ (o : Option Lsp). DoTheSame (given_back plsp known) (given_back plsp o)) (sym (known-same s.base b same n plsp)) (same_effect _))

  removal_has : (srp plsp : ℕ) (o : Option Lsp) → HasAll s.base.paths (removal_asked srp plsp o).change.dropped
  removal_has srp plsp None = has_none s.base.paths
  removal_has srp plsp (Some lsp) = has_none s.base.paths

  delete_alike : (n plsp : ℕ) → AreAlike (after_delete s n plsp) (after_delete (with_lists s b ns) n plsp)
  delete_alike n plsp =
      let srp = next_number s n in
      let known = lsp_at s.base.records n plsp in
      asking_alike n (removal_asked srp plsp known) (removal_asked srp plsp (lsp_at b.records n plsp)) (delete_message srp plsp) (removal_has srp plsp known)
      (subst (λ (o : Option Lsp). DoTheSame (removal_asked srp plsp known) (removal_asked srp plsp o)) (sym (known-same s.base b same n plsp)) (same_effect _))

  return_tests-same : (n plsp : ℕ) → (must_take_updates s.peers n ⨟ must_be_held s.base n plsp ⨟ must_have_a_number s n) ≡ (must_take_updates s.peers n ⨟ must_be_held b n plsp ⨟ must_have_a_number (with_lists s b ns) n)
  return_tests-same n plsp = λ i. must_take_updates s.peers n ⨟ sym (held-same s.base b same n plsp) i ⨟ number-same n i

  deletion_tests-same : (n plsp : ℕ) → (must_take_initiations s.peers n ⨟ may_be_deleted s.base n plsp ⨟ must_have_a_number s n) ≡ (must_take_initiations s.peers n ⨟ may_be_deleted b n plsp ⨟ must_have_a_number (with_lists s b ns) n)
  deletion_tests-same n plsp = λ i. must_take_initiations s.peers n ⨟ sym (deleted-same s.base b same n plsp) i ⨟ number-same n i

  -- ---- paths that are asked for

  ask_tests-same : (n : ℕ) (purpose : Purpose) → may_be_asked s n purpose ≡ may_be_asked (with_lists s b ns) n purpose
  ask_tests-same n (purposes.Update plsp) = λ i. must_take_updates s.peers n ⨟ sym (held-same s.base b same n plsp) i ⨟ unless (not (is_update_asked s.tickets n plsp)) Pending
  ask_tests-same n (purposes.Initiate name constraints) = λ i. must_take_initiations s.peers n ⨟ sym (new-same s.base b same n name (is_name_held s n name) (is_name_held (with_lists s b ns) n name) held) i
    where
      held : is_name_held (with_lists s b ns) n name ≡ is_name_held s n name
      held = λ i. is_name_asked s.tickets n name || any-permuted (is_awaited_as n name) s.names ns names i
  ask_tests-same n (purposes.Answer request plsp constraints) = refl

  constraints-same : (n : ℕ) (purpose : Purpose) → constraints_for s.base.records n purpose ≡ constraints_for b.records n purpose
  constraints-same n (purposes.Update plsp) = ap (option_map (λ (lsp : Lsp). lsp.constraints)) (sym (known-same s.base b same n plsp))
  constraints-same n (purposes.Initiate name constraints) = refl
  constraints-same n (purposes.Answer request plsp constraints) = refl

  -- only tickets and sessions change, and they change alike
  kept : (peers : List Peer) (tickets : List Ticket) (last : ℕ) → AreAlike (record s { peers = peers; tickets = tickets; last_ticket = last }) (record (with_lists s b ns) { peers = peers; tickets = tickets; last_ticket = last })
  kept peers tickets last = record { paths = paths; records = records; names = names; te = refl; peers = refl; tickets = refl; changes = refl; last_session = refl; last_ticket = refl }

  asked_alike : (n : ℕ) (purpose : Purpose) (o : Option Constraints) → AreAlikeOutcomes (asked_with s n purpose o) (asked_with (with_lists s b ns) n purpose o)
  asked_alike n purpose None = (refl, here)
  asked_alike n purpose (Some constraints) =
      let ticket = new_ticket s n purpose constraints in
      decided_alike s (with_lists s b ns) (must_have_ends s.te constraints ⨟ may_have_one_more s.tickets) _ (with_ticket s ticket) (with_ticket (with_lists s b ns) ticket) here refl (refl, kept s.peers (s.tickets ++ ticket ∷ []) ticket.id)

  ask_alike : (n : ℕ) (purpose : Purpose) → AreAlikeOutcomes (asked_with s n purpose (constraints_for s.base.records n purpose)) (asked_with (with_lists s b ns) n purpose (constraints_for b.records n purpose))
  ask_alike n purpose =
      subst (λ (o : Option Constraints). AreAlikeOutcomes (asked_with s n purpose (constraints_for s.base.records n purpose)) (asked_with (with_lists s b ns) n purpose o)) (constraints-same n purpose)
      (asked_alike n purpose (constraints_for s.base.records n purpose))

  -- ---- a ticket is taken

  tunnel-same : (n : ℕ) (purpose : Purpose) → own_tunnel s.base.records n purpose ≡ own_tunnel b.records n purpose
  tunnel-same n (purposes.Update plsp) = ap (option_map (λ (lsp : Lsp). lsp.tunnel)) (sym (known-same s.base b same n plsp))
  tunnel-same n (purposes.Initiate name constraints) = refl
  tunnel-same n (purposes.Answer request None constraints) = refl
  tunnel-same n (purposes.Answer request (Some plsp) constraints) = ap (option_map (λ (lsp : Lsp). lsp.tunnel)) (sym (known-same s.base b same n plsp))

  held_by-same : (links : ℕ) (o : Option Tunnel) → held_by s.base.paths links o ≡ held_by b.paths links o
  held_by-same links None = refl
  held_by-same links (Some tunnel) = sym (own_shares-permuted s.base.paths b.paths paths tunnel links)

  job-same : (ticket : Ticket) → job_of s ticket ≡ job_of (with_lists s b ns) ticket
  job-same ticket =
      let left = sym (all_left-permuted s.te.links s.base.paths b.paths paths) in
      let own = ap (held_by s.base.paths (length s.te.links)) (tunnel-same ticket.peer ticket.purpose) ∙ held_by-same (length s.te.links) (own_tunnel b.records ticket.peer ticket.purpose) in
      λ i. record { ticket = ticket; snapshot = state_of (network_of s.te) (left i); own = own i }

  take_alike : (o : Option Ticket) → AreAlikeOutcomes (taken s o) (taken (with_lists s b ns) o)
  take_alike None = (refl, here)
  take_alike (Some ticket) = (ap JobOf (job-same (searched_for s.changes ticket)), kept s.peers (take_first s.tickets s.changes) s.last_ticket)

  -- ---- an offer is judged

  granted_tunnel-same : (n srp : ℕ) (purpose : Purpose) → granted_tunnel s.base.records n srp purpose ≡ granted_tunnel b.records n srp purpose
  granted_tunnel-same n srp (purposes.Update plsp) = ap (λ (o : Option Tunnel). unwrap_or o (Unsignalled n plsp)) (tunnel-same n (purposes.Update plsp))
  granted_tunnel-same n srp (purposes.Initiate name constraints) = refl
  granted_tunnel-same n srp (purposes.Answer request None constraints) = refl
  granted_tunnel-same n srp (purposes.Answer request (Some plsp) constraints) = ap (λ (o : Option Tunnel). unwrap_or o (Unsignalled n 0)) (tunnel-same n (purposes.Answer request (Some plsp) constraints))

  path-same : (ticket : Ticket) (links : List ℕ) → path_of s ticket links ≡ path_of (with_lists s b ns) ticket links
  unfolding offered_path
  path-same ticket links =
      let tunnel = granted_tunnel-same ticket.peer (next_number s ticket.peer) ticket.purpose in
      λ i. record {
        peer = ticket.peer;
        plsp = granted_plsp ticket.purpose;
        part = Granted (next_number s ticket.peer);
        tunnel = tunnel i;
        hold = ticket.constraints.priorities.hold;
        bandwidth = ticket.constraints.bandwidth;
        links = links;
        fresh = true;
      }

  moot-same : (n : ℕ) (purpose : Purpose) → is_moot s.base n purpose ≡ is_moot b n purpose
  moot-same n (purposes.Update plsp) = λ i. not (is_delegated (sym (known-same s.base b same n plsp) i)) || sym (pending-same s.base b same n plsp) i
  moot-same n (purposes.Initiate name constraints) = refl
  moot-same n (purposes.Answer request plsp constraints) = refl

  verdict-same : (ticket : Ticket) (o : Option Path) (v : PeerView) → verdict ticket o s.base s.te v ≡ verdict ticket o b s.te v
  unfolding verdict
  verdict-same ticket None v =
      let moot = moot-same ticket.peer ticket.purpose in
      λ i. if not (v.up && v.session == ticket.session) || (not (is_request ticket.purpose) && v.syncing || moot i) then verdicts.Gone else (if v.changes == ticket.seen then verdicts.NoPath else unless_tried ticket verdicts.NoPath)
  verdict-same ticket (Some g) v =
      let moot = moot-same ticket.peer ticket.purpose in
      let room = sym (fits-permuted s.te.links s.base.paths b.paths paths g ticket.constraints.priorities.setup) in
      let number = sym (length_permutation s.base.paths b.paths paths) in
      λ i. if not (v.up && v.session == ticket.session) || (not (is_request ticket.purpose) && v.syncing || moot i)
      then verdicts.Gone
      else (if (is_route s.te ticket.constraints g.links && room i) && keeps_other_bounds s.te.links ticket.constraints g.links
      then (if is_request ticket.purpose then verdicts.Answer else (if nat_le 16384 (number i) || v.srp_in_use then verdicts.GivenUp else verdicts.Grant))
      else unless_tried ticket verdicts.GivenUp)

  view-same : (n : ℕ) → view_of s n ≡ view_of (with_lists s b ns) n
  view-same n =
      let p = peer_at s.peers n in
      let used = sym (used-same s.base b same n (next_number s n)) in
      λ i. record { session = p.session; up = p.up; syncing = p.syncing; changes = s.changes; srp_in_use = used i }

  verdict_on-same : (ticket : Ticket) (offer : Option (List ℕ)) → verdict_on s ticket offer ≡ verdict_on (with_lists s b ns) ticket offer
  verdict_on-same ticket offer =
      verdict-same ticket (option_map (path_of s ticket) offer) (view_of s ticket.peer)
      ∙ (λ i. verdict ticket (option_map (λ links. path-same ticket links i) offer) b s.te (view-same ticket.peer i))

  named_alike : (o : Option AwaitedName) → IsPermutation (with_name s.names o) (with_name ns o)
  named_alike None = names
  named_alike (Some a) = IsPermutation-append_left (a ∷ []) s.names ns names

  granted_alike : (ticket : Ticket) (links : List ℕ) → AreAlike (granted s ticket links) (granted (with_lists s b ns) ticket links)
  unfolding changed
  granted_alike ticket links =
      let g = path_of s ticket links in
      let added : IsPermutation (g ∷ []) (path_of (with_lists s b ns) ticket links ∷ []) = subst (λ (x : Path). IsPermutation (g ∷ []) (x ∷ [])) (path-same ticket links) (IsPermutation-refl (g ∷ [])) in
      record {
        paths = paths-permuted s.base.paths b.paths [] [] (g ∷ []) (path_of (with_lists s b ns) ticket links ∷ []) (has_none s.base.paths) paths (IsPermutation-refl []) added;
        records = records;
        names = named_alike (name_of_grant ticket.peer (next_number s ticket.peer) ticket.purpose);
        te = refl;
        peers = refl;
        tickets = refl;
        changes = refl;
        last_session = refl;
        last_ticket = refl;
      }

  alike_with_message : (ticket : Ticket) (peers : List Peer) → AreAlike (record (ended s ticket) { peers = peers }) (record (ended (with_lists s b ns) ticket) { peers = peers })
  alike_with_message ticket peers = kept peers (ended s ticket).tickets s.last_ticket

  vain_alike : (ticket : Ticket) (purpose : Purpose) → AreAlike (answered_in_vain (ended s ticket) ticket.peer purpose) (answered_in_vain (ended (with_lists s b ns) ticket) ticket.peer purpose)
  vain_alike ticket (purposes.Update plsp) = alike_with_message ticket s.peers
  vain_alike ticket (purposes.Initiate name constraints) = alike_with_message ticket s.peers
  vain_alike ticket (purposes.Answer request plsp constraints) = alike_with_message ticket _

  judged_alike : (ticket : Ticket) (links : List ℕ) (v : Verdict) → AreAlikeOutcomes (judged s ticket links v) (judged (with_lists s b ns) ticket links v)
  judged_alike ticket links verdicts.Grant = (refl, granted_alike ticket links)
  judged_alike ticket links verdicts.Answer = (refl, alike_with_message ticket _)
  judged_alike ticket links verdicts.Again = (refl, kept s.peers _ s.last_ticket)
  judged_alike ticket links verdicts.NoPath = (refl, vain_alike ticket ticket.purpose)
  judged_alike ticket links verdicts.GivenUp = (refl, vain_alike ticket ticket.purpose)
  judged_alike ticket links verdicts.Gone = (refl, alike_with_message ticket s.peers)

  commit_alike : (offer : Option (List ℕ)) (o : Option Ticket) → AreAlikeOutcomes (committed s offer o) (committed (with_lists s b ns) offer o)
  commit_alike offer None = (refl, here)
  commit_alike offer (Some ticket) =
      let links = unwrap_or offer [] in
      let first = judged s ticket links (verdict_on s ticket offer) in
      decided_alike s (with_lists s b ns) (unless ticket.taken NotTaken) (unless ticket.taken NotTaken) first (judged (with_lists s b ns) ticket links (verdict_on (with_lists s b ns) ticket offer)) here refl
      (subst (λ (v : Verdict). AreAlikeOutcomes first (judged (with_lists s b ns) ticket links v)) (verdict_on-same ticket offer) (judged_alike ticket links (verdict_on s ticket offer)))

  -- ---- any event

  lists_alike : (event : Event) → AreAlikeOutcomes (step s event) (step (with_lists s b ns) event)
  unfolding step
  lists_alike (Up n sent) = decided_alike s (with_lists s b ns) (must_be_down s.peers n ⨟ may_be_known s.peers n) _ (done (after_up s n sent)) (done (after_up (with_lists s b ns) n sent)) here refl (refl, up_alike n sent)
  lists_alike (Report n r) = decided_alike s (with_lists s b ns) (must_be_up s.peers n) _ (booked s n r.plsp (report_result s.base s.te n r)) (booked (with_lists s b ns) n r.plsp (report_result b s.te n r)) here refl (report_alike n r)
  lists_alike (Marker n) = decided_alike s (with_lists s b ns) (must_be_up s.peers n) _ (done (after_marker s n)) (done (after_marker (with_lists s b ns) n)) here refl (refl, marker_alike n)
  lists_alike (Down n) = decided_alike s (with_lists s b ns) (must_be_up s.peers n) _ (done (after_down s n)) (done (after_down (with_lists s b ns) n)) here refl (refl, down_alike n)
  lists_alike (Expire n) = decided_alike s (with_lists s b ns) (must_be_known s.peers n ⨟ must_be_down s.peers n) _ (done (after_expire s n)) (done (after_expire (with_lists s b ns) n)) here refl (refl, expire_alike n)
  lists_alike (Drain n) = decided_alike s (with_lists s b ns) (must_be_up s.peers n) _ (drained s n) (drained (with_lists s b ns) n) here refl (refl, kept _ s.tickets s.last_ticket)
  lists_alike (PeerRefused n srp) = decided_alike s (with_lists s b ns) (must_be_up s.peers n) _ (done (after_refused s n srp)) (done (after_refused (with_lists s b ns) n srp)) here refl (refl, refused_alike n srp)
  lists_alike (Return n plsp) = decided_alike s (with_lists s b ns) _ _ (done (after_return s n plsp)) (done (after_return (with_lists s b ns) n plsp)) here (return_tests-same n plsp) (refl, return_alike n plsp)
  lists_alike (Delete n plsp) = decided_alike s (with_lists s b ns) _ _ (deleted s n plsp) (deleted (with_lists s b ns) n plsp) here (deletion_tests-same n plsp) (refl, delete_alike n plsp)
  lists_alike (Ask n purpose) = decided_alike s (with_lists s b ns) (may_be_asked s n purpose) (may_be_asked (with_lists s b ns) n purpose) _ _ here (ask_tests-same n purpose) (ask_alike n purpose)
  lists_alike Take = take_alike (first_waiting s.tickets)
  lists_alike (Commit id offer) = commit_alike offer (ticket_at s.tickets id)
  lists_alike (Reload entries) = decided_alike s (with_lists s b ns) (must_have_links s.te entries) _ (done (after_reload s entries)) (done (after_reload (with_lists s b ns) entries)) here refl
      (refl, record { paths = paths; records = records; names = names; te = refl; peers = refl; tickets = refl; changes = refl; last_session = refl; last_ticket = refl })

pub step_alike : (s t : State) (event : Event) → IsConsistent s → AreAlike s t → ((step s event).reply ≡ (step t event).reply) × AreAlike (step s event).state (step t event).state
step_alike s t event c alike =
    subst (λ (u : State). AreAlikeOutcomes (step s event) (step u event)) (λ i. record { te = alike.te i; base = t.base; names = t.names; peers = alike.peers i; tickets = alike.tickets i; changes = alike.changes i; last_session = alike.last_session i; last_ticket = alike.last_ticket i })
    (lists_alike s t.base t.names c alike.paths alike.records alike.names event)
