-- The LSPs over a link.
use Rattle.std.specs.Prelude.{ℕ, ◌≡◌, ◌≤◌, ◌<◌, ◌==◌, ◌&&◌, Bool, not, List, [], ◌∷◌, length, filter, filter_map, take, Option, Some, None, IfSome}
use Rattle.lsp_base.specs.Lsps.{Lsps}
use Rattle.lsp_base.specs.Shares.{has_link}
use Rattle.lsp_base.specs.declared.path.Path.{Path}
use Rattle.pce_seen.specs.Lsps.{lsp_in}
use Rattle.pce_seen.specs.declared.lsps.KnownLsp.{KnownLsp}

abbrev pub same_lsp : KnownLsp → KnownLsp → Bool
same_lsp k l = (k.known).peer == (l.known).peer && (k.known).plsp == (l.known).plsp

-- each LSP once, at its first place
abbrev pub each_once : List KnownLsp → List KnownLsp
each_once [] = []
each_once (l ∷ ls) = l ∷ filter (λ k. not (same_lsp l k)) (each_once ls)

-- the LSP of a path, with all of its paths; None for a grant that is bound to no LSP
abbrev pub lsp_with : Lsps → Path → Option KnownLsp
lsp_with lsps x = lsp_in lsps x.peer x.plsp

-- the LSPs of those of the paths that go over the link, each once
abbrev pub lsps_over : Lsps → ℕ → List Path → List KnownLsp
lsps_over lsps link paths = each_once (filter_map (lsp_with lsps) (filter (has_link link) paths))

-- the paths up to this place, or all
abbrev pub paths_up_to : List Path → Option ℕ → List Path
paths_up_to paths None = paths
paths_up_to paths (Some rest) = take rest paths

-- The LSPs over a link, up to the path at `rest`: at most 512, and exactly 512 if others may follow.
pub record AreOver (lsps : Lsps) (link : ℕ) (seen : List KnownLsp) (rest : Option ℕ) : Type 0 where
  pub each : seen ≡ lsps_over lsps link (paths_up_to lsps.paths rest)
  pub few : length seen ≤ 512
  pub full : IfSome rest (λ place. length seen ≡ 512)
  pub inside : IfSome rest (λ place. place < length lsps.paths)
