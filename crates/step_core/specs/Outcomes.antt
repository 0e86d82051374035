-- The outcome of an event, and the tests that events share.
use Rattle.std.specs.Prelude.{ℕ, not, List, Option, Some, None}
use Rattle.lsp_base.specs.Refusals.{unless, ◌⨟◌}
use Rattle.lsp_base.specs.declared.why.Why.{Why}
use Rattle.lsp_base.specs.declared.why.Why.TheVariants.{UnknownPeer, PeerUp, PeerDown, NoUpdate, NoInitiate, SrpInUse, Syncing}
use Rattle.initiate_rules.specs.Numbers.{is_srp_used}
use Rattle.step_core.specs.declared.event.Reply.{Reply}
use Rattle.step_core.specs.declared.event.Reply.TheVariants.{Done, Refused}
use Rattle.step_core.specs.declared.peer.Peer.{Peer}
use Rattle.step_core.specs.States.{State, is_known, peer_at, next_number}

pub record Outcome : Type 0 where
  pub state : State
  pub reply : Reply

-- a refused event changes nothing
abbrev pub decided : State → Option Why → Outcome → Outcome
decided s (Some why) outcome = record { state = s; reply = Refused why }
decided s None outcome = outcome

abbrev pub done : State → Outcome
done s = record { state = s; reply = Done }

-- ---- tests of the peer

abbrev pub must_be_known : List Peer → ℕ → Option Why
must_be_known peers n = unless (is_known peers n) UnknownPeer

abbrev pub must_be_up : List Peer → ℕ → Option Why
must_be_up peers n = must_be_known peers n ⨟ unless (peer_at peers n).up PeerDown

abbrev pub must_be_down : List Peer → ℕ → Option Why
must_be_down peers n = unless (not (peer_at peers n).up) PeerUp

-- the peer is up, and has reported all that it has (RFC 8231 section 5.6)
abbrev pub must_be_in_sync : List Peer → ℕ → Option Why
must_be_in_sync peers n = must_be_known peers n ⨟ unless (peer_at peers n).up PeerDown ⨟ unless (not (peer_at peers n).syncing) Syncing

-- the peer also takes updates (RFC 8231 section 7.1.1)
abbrev pub must_take_updates : List Peer → ℕ → Option Why
must_take_updates peers n = must_be_in_sync peers n ⨟ unless ((peer_at peers n).capabilities).update NoUpdate

-- the peer also takes initiations (RFC 8281 section 4.1)
abbrev pub must_take_initiations : List Peer → ℕ → Option Why
must_take_initiations peers n = must_be_in_sync peers n ⨟ unless ((peer_at peers n).capabilities).create NoInitiate

-- the number of the next request to the peer isn't one that is still awaited
abbrev pub must_have_a_number : State → ℕ → Option Why
must_have_a_number s n = unless (not (is_srp_used s.base n (next_number s n))) SrpInUse
