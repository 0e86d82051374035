-- The table of metrics: a line for each.
use Rattle.std.specs.Prelude.{ℕ, true, false, List, [], ◌∷◌, ◌++◌, codes, cond, map, Option, Some, None, is_none}
use Rattle.server_counts.specs.Counts.{count_of}
use Rattle.server_counts.specs.Times.{bounds}
use Rattle.server_counts.specs.declared.counters.Counters.{Counters}
use Rattle.server_counts.specs.declared.kinds.Counted.TheVariants as counted
use Rattle.end_reasons.specs.declared.reason.Reason.{Reason}
use Rattle.end_reasons.specs.declared.reason.Reason.TheVariants as reason
use Rattle.history_core.specs.declared.fault.Fault.TheVariants.{OutOfMemory}
use Rattle.server_counts.specs.declared.kinds.MessageKind.{MessageKind}
use Rattle.server_counts.specs.declared.kinds.MessageKind.TheVariants as message
use Rattle.lsp_base.specs.declared.why.Why.TheVariants.{UnknownPeer}
use Rattle.history_core.specs.declared.step.Brief.{Brief}
use Rattle.history_core.specs.declared.step.Brief.TheVariants as brief
use Rattle.server_counts.specs.declared.stream.Way.TheVariants.{In, Out}
use Rattle.pce_seen.specs.declared.peers.PeerSession.{PeerSession}
use Rattle.pce_seen.specs.declared.seen.Numbers.{Numbers}
use Rattle.pce_seen.specs.declared.steps.EventKind.{EventKind}
use Rattle.pce_seen.specs.declared.steps.EventKind.TheVariants as event
use Rattle.pce_view.specs.declared.question.ServerInfo.{ServerInfo}
use Rattle.pce_view.specs.declared.shown_states.ShownState.{ShownState}
use Rattle.pce_view.specs.declared.states.LspState.{LspState}
use Rattle.pce_view.specs.declared.states.LspState.TheVariants as state
use Rattle.metrics_text.specs.declared.format.Kind.{Kind}
use Rattle.metrics_text.specs.declared.format.Kind.TheVariants.{Gauge, Counter, Histogram}
use Rattle.metrics_text.specs.declared.table.Process.{Process}
use Rattle.metrics_text.specs.Exposition.{Family, Sample}
use Rattle.metrics_text.specs.Samples.{broken_in, build, counts, errors, grants_of_each, known, link_info, lsps_of_each, one, peers_up, reservable, state_counts, steps, times, unreserved}

abbrev pub every_event : List EventKind
every_event = event.Up ∷ event.Report ∷ event.Marker ∷ event.Down ∷ event.Expire ∷ event.Ask ∷ event.Take ∷ event.Commit ∷ event.Drain ∷ event.Refused ∷ event.Return ∷ event.Delete ∷ event.Reload ∷ []

abbrev pub every_reply : List Brief
every_reply = brief.Done ∷ brief.Booked false ∷ brief.Booked true ∷ brief.Asked 0 ∷ brief.Job 0 ∷ brief.Idle ∷ brief.Granted 0 ∷ brief.Answered ∷ brief.Again ∷ brief.NoPath ∷ brief.GivenUp ∷ brief.Gone ∷ brief.Removing 0 ∷ brief.Out 0 ∷ brief.Refused UnknownPeer ∷ []

-- what a search can come to
abbrev pub every_verdict : List Brief
every_verdict = brief.Granted 0 ∷ brief.Answered ∷ brief.Again ∷ brief.NoPath ∷ brief.GivenUp ∷ brief.Gone ∷ []

abbrev pub every_refusal : List ℕ
every_refusal = 1 ∷ 2 ∷ 3 ∷ 4 ∷ 5 ∷ 6 ∷ 7 ∷ 8 ∷ 9 ∷ 10 ∷ 11 ∷ 12 ∷ 13 ∷ 14 ∷ 15 ∷ 16 ∷ 17 ∷ 18 ∷ 19 ∷ 20 ∷ []

-- a session ended with a Close that was sent for this reason
abbrev pub closed_for : ℕ → Reason
closed_for number = reason.Session (record { error = None; close = Some number })

abbrev pub without_close : Reason
without_close = reason.Session (record { error = None; close = None })

-- one for each word
abbrev pub every_end : List Reason
every_end = reason.PeerClosed ∷ without_close ∷ reason.ReadFault ∷ reason.WriteFault ∷ reason.StoreFault OutOfMemory ∷ closed_for 2 ∷ closed_for 3 ∷ closed_for 0 ∷ reason.PlaceTaken ∷ reason.RunEnds ∷ reason.Refused 2 ∷ reason.Refused 0 ∷ reason.Unheard ∷ []

abbrev pub every_message : List MessageKind
every_message = message.Open ∷ message.Keepalive ∷ message.Request ∷ message.Reply ∷ message.Notification ∷ message.Error ∷ message.Close ∷ message.Report ∷ message.Update ∷ message.Initiate ∷ message.Other ∷ []

-- the types and values of PCErr that are counted apart
abbrev pub every_number : List ℕ
every_number = 0 ∷ 1 ∷ 2 ∷ 3 ∷ 4 ∷ 5 ∷ 6 ∷ 7 ∷ 8 ∷ 9 ∷ 10 ∷ 11 ∷ 12 ∷ 13 ∷ 14 ∷ 15 ∷ 16 ∷ 17 ∷ 18 ∷ 19 ∷ 20 ∷ 21 ∷ 22 ∷ 23 ∷ 24 ∷ 25 ∷ 26 ∷ 27 ∷ 28 ∷ 29 ∷ 30 ∷ 31 ∷ []

abbrev pub every_state : List LspState
every_state = state.Active ∷ state.Up ∷ state.GoingUp ∷ state.GoingDown ∷ state.Down ∷ state.Unplaced ∷ state.Unknown ∷ []

-- ---- the table

abbrev pub family : Kind → List ℕ → List ℕ → List (List ℕ) → List Sample → Family
family kind name help labels samples = record { kind = kind; name = name; help = help; labels = labels; samples = samples }

-- a metric whose number may not be known: it is left out then
abbrev pub if_known : Kind → List ℕ → List ℕ → List (List ℕ) → Option ℕ → List Family
if_known kind name help labels n = cond (is_none n) [] (family kind name help labels (known n) ∷ [])

-- which program it is, what the system says of the process, and how far its journal is
unfoldable pub program : ServerInfo → Process → List Family
program info p =
    family Gauge (codes "pced_build_info") (codes "The version of the program, the logic of its proofs, and the commit of its sources.") (codes "version" ∷ codes "logic" ∷ codes "commit" ∷ []) (build info)
    ∷ (if_known Gauge (codes "process_resident_memory_bytes") (codes "Memory of the process that is in RAM.") [] p.resident_bytes
    ++ (if_known Gauge (codes "process_open_fds") (codes "File descriptors that are open.") [] p.open_descriptors
    ++ (if_known Gauge (codes "process_max_fds") (codes "File descriptors that may be open.") [] p.descriptor_limit
    ++ (if_known Gauge (codes "pced_journal_steps") (codes "Steps that the journal has.") [] p.journal_steps ++ []))))

-- what was counted
unfoldable pub counted_families : Counters → List Family
counted_families c =
    family Counter (codes "pced_events_total") (codes "Steps that the server took, by their event and its reply.") (codes "event" ∷ codes "reply" ∷ []) (steps c every_event every_reply)
    ∷ family Counter (codes "pced_refusals_total") (codes "Events that were refused, by reason.") (codes "reason" ∷ []) (counts c (map counted.Refusal every_refusal))
    ∷ family Counter (codes "pced_commits_total") (codes "Searches that were committed, by verdict.") (codes "verdict" ∷ []) (counts c (map (counted.Step event.Commit) every_verdict))
    ∷ family Counter (codes "pced_unanswered_total") (codes "Grants and deletions that routers left unanswered.") [] (one (count_of c counted.NoAnswer))
    ∷ family Counter (codes "pced_connections_total") (codes "Connections of routers that were accepted.") [] (one (count_of c counted.Accepted))
    ∷ family Counter (codes "pced_strangers_total") (codes "Connections from addresses that no node owns.") [] (one (count_of c counted.Stranger))
    ∷ family Counter (codes "pced_connection_ends_total") (codes "Connections of routers that ended, by reason.") (codes "reason" ∷ []) (counts c (map counted.Ended every_end))
    ∷ family Counter (codes "pced_messages_received_total") (codes "Messages that came from routers, by type.") (codes "type" ∷ []) (counts c (map counted.Received every_message))
    ∷ family Counter (codes "pced_messages_sent_total") (codes "Messages that were sent to routers, by type.") (codes "type" ∷ []) (counts c (map counted.Sent every_message))
    ∷ family Counter (codes "pced_errors_sent_total") (codes "PCErr that were sent, by type and value; 31 stands for all from 31 on.") (codes "type" ∷ codes "value" ∷ []) (errors c Out every_number every_number)
    ∷ family Counter (codes "pced_errors_received_total") (codes "PCErr that routers sent, by type and value; 31 stands for all from 31 on.") (codes "type" ∷ codes "value" ∷ []) (errors c In every_number every_number)
    ∷ family Histogram (codes "pced_search_seconds") (codes "Time from the beginning of a search to the verdict on what it found.") (codes "le" ∷ []) (times bounds c.searches)
    ∷ family Histogram (codes "pced_ask_seconds") (codes "Time from an ask for a path to the last verdict.") (codes "le" ∷ []) (times bounds c.waits)
    ∷ family Histogram (codes "pced_look_seconds") (codes "Time for which a look held the lock.") (codes "le" ∷ []) (times bounds c.looks)
    ∷ []

abbrev pub peers_in : Numbers → List PeerSession
peers_in n = (n.peers).peers.items

-- what was seen of the database
unfoldable pub seen_families : Numbers → List ShownState → List Family
seen_families n states =
    family Gauge (codes "pced_lsps_by_state") (codes "LSPs by the state in which they are shown.") (codes "state" ∷ []) (state_counts states every_state)
    ∷ family Gauge (codes "pced_partly_placed_paths") (codes "Reported paths whose links have a gap.") [] (one (broken_in states))
    ∷ family Gauge (codes "pced_sessions_up") (codes "Sessions that are up.") [] (one (n.counts).sessions_up)
    ∷ family Gauge (codes "pced_tickets") (codes "Paths that are asked for and not found yet.") [] (one (n.counts).tickets)
    ∷ family Gauge (codes "pced_lsps") (codes "LSPs that are known.") [] (one (n.counts).lsps)
    ∷ family Gauge (codes "pced_paths") (codes "Paths of LSPs, reported or granted.") [] (one (n.counts).paths)
    ∷ family Gauge (codes "pced_waiting_grants") (codes "Granted paths that no report has settled.") [] (one (n.counts).waiting_grants)
    ∷ family Gauge (codes "pced_kept_steps") (codes "Steps that the history keeps.") [] (one (n.counts).kept)
    ∷ family Counter (codes "pced_steps_total") (codes "Steps that were ever taken.") [] (one (n.counts).steps)
    ∷ family Counter (codes "pced_grants_total") (codes "Steps that were grants.") [] (one (n.counts).grants)
    ∷ family Gauge (codes "pced_peer_up") (codes "1 if the session of a router is up, and 0 if not.") (codes "peer" ∷ []) (peers_up (peers_in n))
    ∷ family Gauge (codes "pced_peer_lsps") (codes "LSPs of a router by the state in which they are shown.") (codes "peer" ∷ codes "state" ∷ []) (lsps_of_each states every_state (peers_in n))
    ∷ family Gauge (codes "pced_peer_grants") (codes "Granted paths of a router that no report has settled.") (codes "peer" ∷ []) (grants_of_each (n.peers).grants.items (peers_in n))
    ∷ family Gauge (codes "pced_link_info") (codes "1; the number of a link.") (codes "link" ∷ codes "from" ∷ codes "to" ∷ codes "local" ∷ []) (link_info (n.book).nodes.items (n.book).links.items)
    ∷ family Gauge (codes "pced_link_reservable_bytes_per_second") (codes "What may be reserved of a link.") (codes "from" ∷ codes "to" ∷ codes "local" ∷ []) (reservable (n.book).nodes.items (n.book).links.items)
    ∷ family Gauge (codes "pced_link_unreserved_bytes_per_second") (codes "What is left of a link at a priority.") (codes "from" ∷ codes "to" ∷ codes "local" ∷ codes "priority" ∷ []) (unreserved (n.book).nodes.items (n.book).links.items (n.book).left.items)
    ∷ []

-- all metrics
unfoldable pub families : ServerInfo → Numbers → Counters → Process → List ShownState → List Family
families info n c process states = program info process ++ (counted_families c ++ seen_families n states)
