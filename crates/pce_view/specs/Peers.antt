-- `peers`: routers with their sessions.
use Rattle.std.specs.Prelude.{ℕ, ◌-◌, ◌==◌, ◌&&◌, nat_eq, List, [], ◌∷◌, codes, count_by, Option, Some, None, ◌≡◌, length, map}
use Rattle.json.specs.Json.{Json, boolean, array, object, Items, no_items, item, no_members, member, document}
use Rattle.pce_seen.specs.declared.peers.KnownPeer.{KnownPeer}
use Rattle.pce_seen.specs.declared.peers.LspOwner.{LspOwner}
use Rattle.std.specs.Map.{lookup}
use Rattle.end_reasons.specs.Reasons.{reason_number}
use Rattle.server_counts.specs.declared.peer_states.LastEnd.{LastEnd}
use Rattle.server_counts.specs.declared.peer_states.PeerState.{PeerState}
use Rattle.pce_view.specs.declared.moments.Moments.{Moments}
use Rattle.pce_view.specs.Fields.{address, end_json, whole_or_null}
use Rattle.pce_view.specs.Json.{whole}
use Rattle.lsp_base.specs.declared.effect.Record.{Record}
use Rattle.step_core.specs.declared.peer.Peer.{Peer}
use Rattle.history_core.specs.Histories.{Content}
use Rattle.pce_seen.specs.declared.peers.SeenPeers.{SeenPeers}
use Rattle.pce_view.specs.declared.question.ServerInfo.{ServerInfo}

-- how many LSPs are the peer's, and how many of these are delegated
abbrev pub lsps_of : List LspOwner → ℕ → ℕ
lsps_of owners peer = count_by (λ o. o.peer == peer) owners

abbrev pub delegated_of : List LspOwner → ℕ → ℕ
delegated_of owners peer = count_by (λ o. o.peer == peer && o.is_delegated) owners

abbrev pub ended_at : ℕ → Option LastEnd → Moments
ended_at now_ms None = record { since_ms_ago = None; end_ms_ago = None; end = None; number = None }
ended_at now_ms (Some e) = record { since_ms_ago = None; end_ms_ago = Some (now_ms - e.at_ms); end = Some e.reason; number = reason_number e.reason }

-- how long ago a peer came up or went down, and how long ago its last connection ended, and why
abbrev pub moments_of : ℕ → Option PeerState → Moments
moments_of now_ms None = ended_at now_ms None
moments_of now_ms (Some v) = record (ended_at now_ms v.last_end) { since_ms_ago = Some (now_ms - v.since_ms) }

unfoldable pub counted_json : KnownPeer → ℕ → ℕ → Moments → Json
counted_json p lsps delegated m = object
    (member (codes "peer") (address p.peer)
    (member (codes "is_up") (boolean p.is_up)
    (member (codes "is_synchronizing") (boolean p.is_synchronizing)
    (member (codes "session") (whole p.session)
    (member (codes "may_update") (boolean p.may_update)
    (member (codes "may_create") (boolean p.may_create)
    (member (codes "waiting_messages") (whole p.waiting_messages)
    (member (codes "lsps") (whole lsps)
    (member (codes "delegated_lsps") (whole delegated)
    (member (codes "since_ms_ago") (whole_or_null m.since_ms_ago)
    (member (codes "last_end_ms_ago") (whole_or_null m.end_ms_ago)
    (member (codes "last_end_reason") (end_json m.end)
    (member (codes "last_end_number") (whole_or_null m.number)
    no_members)))))))))))))

-- a peer with its session, and how many LSPs are its own
abbrev pub peer_json : ℕ → List (ℕ × PeerState) → List LspOwner → KnownPeer → Json
peer_json now_ms peer_states owners p =
    counted_json p (lsps_of owners p.peer) (delegated_of owners p.peer) (moments_of now_ms (lookup (nat_eq p.peer) peer_states))

abbrev pub peer_items : ℕ → List (ℕ × PeerState) → List LspOwner → List KnownPeer → Items
peer_items now_ms peer_states owners [] = no_items
peer_items now_ms peer_states owners (peer ∷ peers) = item (peer_json now_ms peer_states owners peer) (peer_items now_ms peer_states owners peers)

abbrev pub peers_json : ℕ → List (ℕ × PeerState) → List LspOwner → List KnownPeer → Json
peers_json now_ms peer_states owners peers = object (member (codes "peers") (array (peer_items now_ms peer_states owners peers)) no_members)

-- a peer with its last session
abbrev pub known_peer : Peer → KnownPeer
known_peer p = record {
  peer = p.number;
  is_up = p.up;
  is_synchronizing = p.syncing;
  session = p.session;
  may_update = (p.capabilities).update;
  may_create = (p.capabilities).create;
  waiting_messages = length p.outgoing;
}

abbrev pub owner_of_lsp : Record → LspOwner
owner_of_lsp r = record { peer = r.peer; is_delegated = (r.lsp).delegated }

-- the peers in the order of their coming, and whose each LSP is
pub record SeesPeers (d : Content) (seen : SeenPeers) : Type 0 where
  pub peers : seen.peers.items ≡ map known_peer d.state.peers
  pub lsps : seen.lsps.items ≡ map owner_of_lsp d.state.base.records

-- a reader of JSON reads the text as what was seen
abbrev pub ReadsPeers : ServerInfo → SeenPeers → List ℕ → Type 0
ReadsPeers info peers text = document text ≡ Some (peers_json info.uptime_ms info.peer_states.now peers.lsps.items peers.peers.items)
