-- One event: its tests in order, and what it does if all of them pass.
use Rattle.std.specs.Prelude.{ℕ, ◌+◌, Bool, false, ◌&&◌, ◌||◌, not, List, [], length, filter, Option, Some, None, Result, Ok, Err, nat_lt}
use Rattle.lsp_words.specs.declared.object.Capabilities.{Capabilities}
use Rattle.pcep_messages.specs.declared.message.StateReport.{StateReport}
use Rattle.lsp_base.specs.Lsps.{with_stale, lsp_at, effect_of, no_effect}
use Rattle.lsp_base.specs.Refusals.{unless, ◌⨟◌}
use Rattle.lsp_base.specs.declared.effect.Effect.{Effect}
use Rattle.lsp_base.specs.declared.lsp.Lsp.{Lsp}
use Rattle.lsp_base.specs.declared.why.Why.{Why}
use Rattle.lsp_base.specs.declared.why.Why.TheVariants.{TooManyPeers}
use Rattle.sync_rules.specs.Peers.{up_effect, marker_effect, down_effect, expire_effect}
use Rattle.delegate_rules.specs.Effects.{report_result, one_record}
use Rattle.delegate_rules.specs.Refusals.{refused_effect}
use Rattle.delegate_rules.specs.Returns.{must_be_held, given_back}
use Rattle.initiate_rules.specs.Checks.{may_be_deleted}
use Rattle.initiate_rules.specs.Messages.{return_message, delete_message}
use Rattle.step_core.specs.declared.event.Event.{Event}
use Rattle.step_core.specs.declared.event.Event.TheVariants.{Up, Report, Marker, Down, Expire, Drain, Refused as PeerRefused, Return, Delete, Ask, Take, Commit, Reload}
use Rattle.step_core.specs.declared.event.Reply.TheVariants.{Booked, Out, Removing, Refused}
use Rattle.step_core.specs.declared.peer.Peer.{Peer}
use Rattle.step_core.specs.Asks.{ask_step}
use Rattle.step_core.specs.Grants.{asking, take_step, commit_step}
use Rattle.step_core.specs.Outcomes.{Outcome, decided, done, must_be_known, must_be_up, must_be_down, must_take_updates, must_take_initiations, must_have_a_number}
use Rattle.step_core.specs.Reloads.{reload_step}
use Rattle.step_core.specs.States.{State, is_known, peer_at, is_peer, put_peer, in_session, synchronized, out_of_session, emptied, outgoing, next_number, affected}
use Rattle.ticket_table.specs.Tickets.{is_update_asked}

-- ---- a session comes up, with the next number (RFC 8231 section 5.6)

abbrev pub may_be_known : List Peer → ℕ → Option Why
may_be_known peers n = unless (is_known peers n || nat_lt (length peers) 64) TooManyPeers

abbrev pub after_up : State → ℕ → Option Capabilities → State
after_up s n sent = record (affected s n (up_effect s.base n sent)) { peers = put_peer s.peers (in_session (peer_at s.peers n) (s.last_session + 1) sent); last_session = s.last_session + 1 }

abbrev pub up_step : State → ℕ → Option Capabilities → Outcome
up_step s n sent = decided s (must_be_down s.peers n ⨟ may_be_known s.peers n) (done (after_up s n sent))

-- ---- the peer has reported all that it has (RFC 8231 section 5.6)

abbrev pub after_marker : State → ℕ → State
after_marker s n = record (affected s n (marker_effect s.base n)) { peers = put_peer s.peers (synchronized (peer_at s.peers n)) }

abbrev pub marker_step : State → ℕ → Outcome
marker_step s n = decided s (must_be_up s.peers n) (done (after_marker s n))

-- ---- a session ends: delegations and removals end, what waits to be sent is dropped, all paths stay and are stale

abbrev pub after_down : State → ℕ → State
after_down s n = let t = affected s n (down_effect s.base n) in record t { base = with_stale t.base n; peers = put_peer s.peers (out_of_session (peer_at s.peers n)) }

abbrev pub down_step : State → ℕ → Outcome
down_step s n = decided s (must_be_up s.peers n) (done (after_down s n))

-- ---- a peer that is down is forgotten, with its paths and records

abbrev pub after_expire : State → ℕ → State
after_expire s n = record (affected s n (expire_effect s.base n)) { peers = filter (λ p. not (is_peer n p)) s.peers }

abbrev pub expire_step : State → ℕ → Outcome
expire_step s n = decided s (must_be_known s.peers n ⨟ must_be_down s.peers n) (done (after_expire s n))

-- ---- what waits for a peer that is up is handed out to be sent

abbrev pub drained : State → ℕ → Outcome
drained s n = record { state = record s { peers = put_peer s.peers (emptied (peer_at s.peers n)) }; reply = Out (outgoing s n) }

abbrev pub drain_step : State → ℕ → Outcome
drain_step s n = decided s (must_be_up s.peers n) (drained s n)

-- ---- an LSP is reported (RFC 8231 section 6.1)

-- the LSP waits for a path, no path is asked for yet, and the PCE may send the peer one (RFC 8231 section 5.8.3)
abbrev pub wants : State → ℕ → ℕ → Effect → Bool
wants s n plsp e = e.wants_path && ((peer_at s.peers n).capabilities).update && not (peer_at s.peers n).syncing && not (is_update_asked s.tickets n plsp)

abbrev pub booked : State → ℕ → ℕ → Result Effect Why → Outcome
booked s n plsp (Err why) = record { state = s; reply = Refused why }
booked s n plsp (Ok e) = record { state = affected s n e; reply = Booked (wants s n plsp e) }

abbrev pub report_step : State → ℕ → StateReport → Outcome
report_step s n r = decided s (must_be_up s.peers n) (booked s n r.plsp (report_result s.base s.te n r))

-- ---- a peer refuses what the PCE asked it for (RFC 8231 section 6.3); a number that nothing has changes nothing

abbrev pub after_refused : State → ℕ → ℕ → State
after_refused s n srp = affected s n (refused_effect s.base n srp)

abbrev pub refused_step : State → ℕ → ℕ → Outcome
refused_step s n srp = decided s (must_be_up s.peers n) (done (after_refused s n srp))

-- ---- an LSP is given back to its peer (RFC 8231 section 5.7.3)

abbrev pub after_return : State → ℕ → ℕ → State
after_return s n plsp = asking s n (given_back plsp (lsp_at s.base.records n plsp)) (return_message (next_number s n) plsp)

abbrev pub return_step : State → ℕ → ℕ → Outcome
return_step s n plsp = decided s (must_take_updates s.peers n ⨟ must_be_held s.base n plsp ⨟ must_have_a_number s n) (done (after_return s n plsp))

-- ---- an LSP that the PCE initiated is to be removed (RFC 8281 section 5.4)

-- what is known about an LSP whose removal is awaited under this number
abbrev pub removing : ℕ → Lsp → Lsp
removing srp lsp = record lsp { removing = Some srp }

abbrev pub removal_asked : ℕ → ℕ → Option Lsp → Effect
removal_asked srp plsp None = no_effect
removal_asked srp plsp (Some lsp) = effect_of [] [] (one_record plsp (removing srp lsp)) false

abbrev pub after_delete : State → ℕ → ℕ → State
after_delete s n plsp = let srp = next_number s n in asking s n (removal_asked srp plsp (lsp_at s.base.records n plsp)) (delete_message srp plsp)

abbrev pub deleted : State → ℕ → ℕ → Outcome
deleted s n plsp = record { state = after_delete s n plsp; reply = Removing (next_number s n) }

abbrev pub delete_step : State → ℕ → ℕ → Outcome
delete_step s n plsp = decided s (must_take_initiations s.peers n ⨟ may_be_deleted s.base n plsp ⨟ must_have_a_number s n) (deleted s n plsp)

-- ---- any event

unfoldable pub step : State → Event → Outcome
step s (Up n sent) = up_step s n sent
step s (Report n r) = report_step s n r
step s (Marker n) = marker_step s n
step s (Down n) = down_step s n
step s (Expire n) = expire_step s n
step s (Drain n) = drain_step s n
step s (PeerRefused n srp) = refused_step s n srp
step s (Return n plsp) = return_step s n plsp
step s (Delete n plsp) = delete_step s n plsp
step s (Ask n purpose) = ask_step s n purpose
step s Take = take_step s
step s (Commit ticket offer) = commit_step s ticket offer
step s (Reload entries) = reload_step s entries
