-- LSPs as they are seen: each with its paths, in pages.
use Rattle.std.specs.Prelude.{ℕ, ◌≡◌, ◌<◌, ◌≤◌, ◌-◌, Bool, true, ◌==◌, List, length, map, filter, take, drop, option_map, Option, Some, None, IfSome}
use Rattle.lsp_base.specs.Lsps.{Lsps, is_path_of, lsp_at}
use Rattle.lsp_base.specs.Shares.{has_link}
use Rattle.lsp_base.specs.declared.effect.Record.{Record}
use Rattle.lsp_base.specs.declared.lsp.Lsp.{Lsp}
use Rattle.lsp_base.specs.declared.path.Path.{Path}
use Rattle.pce_seen.specs.declared.lsps.KnownLsp.{KnownLsp}
use Rattle.pce_seen.specs.declared.lsps.LspPage.{LspPage}
use Rattle.pce_seen.specs.declared.lsps.HeldPath.{HeldPath}

-- an LSP with its paths, in their order
abbrev pub known_lsp : List Path → Record → KnownLsp
known_lsp paths r = record { known = r; paths = filter (is_path_of r.peer r.plsp) paths }

-- the same for an LSP by its peer and its PLSP-ID
abbrev pub lsp_of : List Path → ℕ → ℕ → Lsp → KnownLsp
lsp_of paths peer plsp lsp = known_lsp paths (record { peer = peer; plsp = plsp; lsp = lsp })

-- what is seen of one LSP, if there is one
abbrev pub lsp_in : Lsps → ℕ → ℕ → Option KnownLsp
lsp_in lsps peer plsp = option_map (lsp_of lsps.paths peer plsp) (lsp_at lsps.records peer plsp)

-- the LSP is one of the peer; if no peer is named, any LSP is
abbrev pub is_asked : Option ℕ → Record → Bool
is_asked None r = true
is_asked (Some peer) r = r.peer == peer

-- the items between the start of a page and the start of the next one, or the end
abbrev pub passed : {X : Type 0} → List X → ℕ → Option ℕ → List X
passed xs from None = drop from xs
passed xs from (Some next) = take (next - from) (drop from xs)

-- A page from this place on has each LSP that is asked for, up to where the next page starts: none is skipped. It has
-- at most 256 LSPs, and exactly 256 if another page follows.
pub record IsPage (lsps : Lsps) (peer : Option ℕ) (from : ℕ) (page : LspPage) : Type 0 where
  pub each : page.lsps.items ≡ map (known_lsp lsps.paths) (filter (is_asked peer) (passed lsps.records from page.next))
  pub few : length page.lsps.items ≤ 256
  pub full : IfSome page.next (λ next. length page.lsps.items ≡ 256)
  pub onward : IfSome page.next (λ next. from < next)
  pub inside : IfSome page.next (λ next. next < length lsps.records)

-- what a path holds on each of its links
abbrev pub held_path : Path → HeldPath
held_path x = record { peer = x.peer; plsp = x.plsp; part = x.part; tunnel = x.tunnel; hold = x.hold; bandwidth = x.bandwidth }

-- the paths over a link
abbrev pub held_on : List Path → ℕ → List HeldPath
held_on paths l = map held_path (filter (has_link l) paths)
