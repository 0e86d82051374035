-- Since when each peer is up or down, and how its last connection ended.
use Rattle.std.specs.Prelude.{ℕ, ◌≡◌, nat_eq, Bool, false, Option, Some, None, unwrap_or, is_some, if◌then◌else◌}
use Rattle.indexmap.specs.IndexMap.{get}
use Rattle.end_reasons.specs.declared.reason.Reason.{Reason}
use Rattle.server_counts.specs.declared.peer_states.PeerState.{PeerState}
use Rattle.server_counts.specs.declared.peer_states.PeerStates.{PeerStates}

-- the state of a peer that isn't known
abbrev pub no_peer_state : PeerState
no_peer_state = record { up_at = None; since_ms = 0; last_end = None }

-- what the table has for a peer
abbrev pub peer_state_of : PeerStates → ℕ → Option PeerState
peer_state_of v peer = get nat_eq v.table peer

-- a session came up on the connection of this slot
abbrev pub risen : ℕ → ℕ → PeerState → PeerState
risen slot now_ms v = record { up_at = Some slot; since_ms = now_ms; last_end = v.last_end }

abbrev pub is_at : ℕ → Option ℕ → Bool
is_at slot None = false
is_at slot (Some other) = nat_eq other slot

-- The connection of this slot ended. If its session was up, the peer is down from now on; if the session of another
-- connection is up, the peer stays up.
abbrev pub ended : ℕ → ℕ → Reason → PeerState → PeerState
ended slot now_ms reason v = record {
  up_at = if is_at slot v.up_at then None else v.up_at;
  since_ms = if is_at slot v.up_at then now_ms else v.since_ms;
  last_end = Some (record { at_ms = now_ms; reason = reason });
}

-- a peer that is down is removed from the table
abbrev pub forgotten : Option PeerState → Option PeerState
forgotten None = None
forgotten (Some v) = if is_some v.up_at then Some v else None

-- the table has for this peer what `make` gives for what it had, or for a peer that isn't known; for each other peer it
-- has what it had
abbrev pub SetsPeerState : PeerStates → PeerStates → ℕ → (PeerState → PeerState) → Type 0
SetsPeerState old new peer make = (other : ℕ) → peer_state_of new other ≡ (if nat_eq peer other then Some (make (unwrap_or (peer_state_of old other) no_peer_state)) else peer_state_of old other)
