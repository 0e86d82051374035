-- What holds in every state that events lead to.
use Rattle.std.specs.Prelude.{ℕ, ◌≡◌, ◌≤◌, ◌<◌, ◌+◌, ◌==◌, Bool, false, List, [], ◌∷◌, Some, if◌then◌else◌, nat_lt}
use Rattle.lsp_base.specs.Lsps.{Lsps, AreDistinct, is_path_of, is_record_of}
use Rattle.lsp_base.specs.Grants.{is_grant_of, is_unbound_grant}
use Rattle.lsp_base.specs.Pending.{is_grant_as, is_removed_as}
use Rattle.initiate_rules.specs.Numbers.{is_srp_used}
use Rattle.step_core.specs.Names.{is_of_grant}
use Rattle.step_core.specs.States.{State, is_peer, next_number, peer_at}
use Rattle.ticket_table.specs.Tickets.{AreInOrder}
use Rattle.step_core.specs.declared.peer.Peer.{Peer}

-- how many of the items pass a test
abbrev pub count : {X : Type 0} → (X → Bool) → List X → ℕ
count test [] = 0
count test (x ∷ xs) = (if test x then 1 else 0) + count test xs

-- how many grants and awaited removals of a peer have the SRP-ID
abbrev pub asked_as : Lsps → ℕ → ℕ → ℕ
asked_as lsps peer srp = count (is_grant_as peer srp) lsps.paths + count (is_removed_as peer srp) lsps.records

pub record IsConsistent (s : State) : Type 0 where
  -- each LSP has at most one record, and none has PLSP-ID 0
  pub distinct : AreDistinct s.base.records
  pub numbered : count (λ r. r.plsp == 0) s.base.records ≡ 0
  -- no two grants or awaited removals of a peer have the same SRP-ID
  pub asked : (peer srp : ℕ) → asked_as s.base peer srp ≤ 1
  -- an LSP has at most one grant
  pub grants : (peer plsp : ℕ) → (plsp == 0) ≡ false → count (is_grant_of peer plsp) s.base.paths ≤ 1
  -- each record has a path of its LSP, reported or granted: no LSP has more records than paths
  pub kept : (peer plsp : ℕ) → (plsp == 0) ≡ false → count (is_record_of peer plsp) s.base.records ≤ count (is_path_of peer plsp) s.base.paths
  -- a name is held for each grant that no report has bound yet, and for no other
  pub names : (peer srp : ℕ) → count (is_of_grant peer srp) s.names ≡ count (is_unbound_grant peer (Some srp)) s.base.paths
  -- each peer is listed once
  pub peers : (number : ℕ) → count (is_peer number) s.peers ≤ 1
  -- tickets' numbers rise, none is above the last that was given, and none was searched for more than four times
  pub tickets : AreInOrder s.last_ticket s.tickets

-- no grant or awaited removal has an SRP-ID above the last that its peer was given
pub record NoneAbove (s : State) : Type 0 where
  pub none : (peer srp : ℕ) → (peer_at s.peers peer).last_srp < srp → asked_as s.base peer srp ≡ 0

-- the peer was not yet given the greatest SRP-ID, 0xFFFFFFFE, after which 1 comes again (RFC 8231 section 7.2)
abbrev pub has_srps_left : Peer → Bool
has_srps_left p = nat_lt p.last_srp 0xFFFFFFFE

-- the last SRP-ID of each peer isn't the greatest, 0xFFFFFFFE: the next one is above it
pub record AreRising (s : State) : Type 0 where
  pub low : (peer : ℕ) → (peer_at s.peers peer).last_srp < 0xFFFFFFFE

-- the SRP-ID that each peer is given next is free
pub record AreFree (s : State) : Type 0 where
  pub free : (peer : ℕ) → is_srp_used s.base peer (next_number s peer) ≡ false
