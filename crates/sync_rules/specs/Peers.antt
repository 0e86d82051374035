-- What the start and end of a peer's session do to its paths and records (RFC 8231 sections 5.4 and 5.6).
use Rattle.std.specs.Prelude.{ℕ, Bool, false, ◌==◌, ◌&&◌, not, [], map, filter, Option, Some, None}
use Rattle.lsp_base.specs.Lsps.{Lsps, dropping, no_effect, effect_of}
use Rattle.lsp_base.specs.declared.path.Path.{Path}
use Rattle.lsp_base.specs.declared.effect.Effect.{Effect}
use Rattle.lsp_base.specs.declared.effect.Record.{Record}
use Rattle.lsp_base.specs.declared.effect.RecordChange.{RecordChange}
use Rattle.lsp_words.specs.declared.object.Capabilities.{Capabilities}

abbrev pub is_of_peer : ℕ → Path → Bool
is_of_peer peer x = x.peer == peer

-- a path or grant of an earlier session that was not reported again
abbrev pub is_stale_of : ℕ → Path → Bool
is_stale_of peer x = x.peer == peer && not x.fresh

-- the end of synchronization: what the peer didn't report again is gone
unfoldable pub marker_effect : Lsps → ℕ → Effect
marker_effect lsps peer = dropping lsps peer (is_stale_of peer)

-- a peer that doesn't synchronize reports nothing again
unfoldable pub up_effect : Lsps → ℕ → Option Capabilities → Effect
up_effect lsps peer None = marker_effect lsps peer
up_effect lsps peer (Some capabilities) = no_effect

-- the LSP is no longer delegated, and its removal is no longer awaited
abbrev pub left_alone : Record → RecordChange
left_alone r = record { plsp = r.plsp; lsp = Some (record (r.lsp) { delegated = false; removing = None }) }

-- the end of a session: delegations and removals end, and no path goes
unfoldable pub down_effect : Lsps → ℕ → Effect
down_effect lsps peer = effect_of [] [] (map left_alone (filter (λ r. r.peer == peer) lsps.records)) false

-- the peer is forgotten, with all its paths and records
unfoldable pub expire_effect : Lsps → ℕ → Effect
expire_effect lsps peer = dropping lsps peer (is_of_peer peer)
