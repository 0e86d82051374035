-- Who holds LSPs. A router that holds none may make room for one that isn't known.
use Rattle.std.specs.Prelude.{◌≡◌, ◌==◌, ℕ, Bool, true, false, ◌||◌, nat_lt, List, ◌++◌, length, map, Option, Some, None}
use Rattle.lsp_base.specs.Lsps.{Lsps}
use Rattle.step_core.specs.declared.peer.Peer.{Peer}
use Rattle.step_core.specs.States.{is_known}
use Rattle.history_core.specs.Histories.{Content}
use Rattle.server_base.specs.declared.holders.Holders.{Holders}

-- the peer is one of the 64 that may be known, or may be one more
abbrev pub is_known_or_fits : List Peer → ℕ → Bool
is_known_or_fits peers peer = is_known peers peer || nat_lt (length peers) 64

-- the router of each record and of each path; a path that was granted and not yet reported may have no record
abbrev pub holders_in : Lsps → List ℕ
holders_in lsps = map (λ r. r.peer) lsps.records ++ map (λ x. x.peer) lsps.paths

-- None if the peer is known, or there is room for one more; otherwise who holds LSPs
abbrev pub SeesHolders : ℕ → Content → Option Holders → Type 0
SeesHolders peer d None = is_known_or_fits d.state.peers peer ≡ true
SeesHolders peer d (Some holders) = (is_known_or_fits d.state.peers peer ≡ false) × (holders.peers.items ≡ holders_in d.state.base)
