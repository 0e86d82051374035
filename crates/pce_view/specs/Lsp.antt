-- `lsp PEER PLSP`: one LSP, and what its router says of it.
use Rattle.std.specs.Prelude.{ℕ, List, option_map, Option, Some, None, ◌≡◌}
use Rattle.json.specs.Json.{Json, null, document}
use Rattle.pce_seen.specs.declared.places.PlacedLsp.{PlacedLsp}
use Rattle.pce_view.specs.declared.heard.Heard.{Heard}
use Rattle.pce_view.specs.Lsps.{lsp_json}
use Rattle.asks.specs.declared.ask.LspId.{LspId}
use Rattle.history_core.specs.Histories.{Content}
use Rattle.pce_seen.specs.Gaps.{placed}
use Rattle.pce_seen.specs.Lsps.{lsp_in}

-- one LSP, or nothing
abbrev pub lsp_or_null : Heard → Option PlacedLsp → Json
lsp_or_null h None = null
lsp_or_null h (Some placed) = lsp_json h placed.gaps placed.lsp

abbrev pub SeesLsp : LspId → Content → Option PlacedLsp → Type 0
SeesLsp q d lsp = lsp ≡ option_map (placed d.state.te) (lsp_in d.state.base q.peer q.plsp)

-- a reader of JSON reads the text as what was seen, with what routers said of it
abbrev pub ReadsLsp : Heard → Option PlacedLsp → List ℕ → Type 0
ReadsLsp heard lsp text = document text ≡ Some (lsp_or_null heard lsp)
