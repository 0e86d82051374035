-- The open sessions, by their peers in rising order.
use Rattle.std.specs.Prelude.{ℕ, Bool, List, Option, if◌then◌else◌}
use Rattle.std.specs.BTreeMap.{insert_entry, is_at}
use Rattle.std.specs.Map.{lookup, set_value, remove_entry}
use Rattle.std.specs.Ordering.{nat_cmp}
use Rattle.pcep_session.specs.Turns.{is_closed}
use Rattle.engine_core.specs.declared.client.Client.{Client}

abbrev pub Sessions : Type 0
Sessions = List (ℕ × Client)

abbrev pub is_peer : ℕ → ℕ → Bool
is_peer peer = is_at (nat_cmp peer)

abbrev pub session_of : ℕ → Sessions → Option Client
session_of peer sessions = lookup (is_peer peer) sessions

-- the sessions without a peer's, if it has ended
abbrev pub gone_if : Bool → ℕ → Sessions → Sessions
gone_if ended peer sessions = if ended then remove_entry (is_peer peer) sessions else sessions

-- the sessions with a peer's as it is now, or without it if it has ended
abbrev pub kept : ℕ → Client → Sessions → Sessions
kept peer c sessions = gone_if (is_closed c.session.state) peer (set_value (is_peer peer) sessions c)

-- the sessions with a new one, unless it has ended
abbrev pub placed : ℕ → Client → Sessions → Sessions
placed peer c sessions = if is_closed c.session.state then sessions else insert_entry nat_cmp sessions peer c
