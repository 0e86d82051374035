-- Reported paths that hold no link, and the states of their LSPs.
use Rattle.std.specs.Prelude.{ℕ, ◌+◌, ◌≡◌, Bool, true, false, not, ◌&&◌, ◌==◌, nat_lt, List, [], ◌∷◌, length, map, filter, take, drop, is_some, Option, Some, None, if◌then◌else◌}
use Rattle.std.specs.List.{list_any}
use Rattle.lsp_base.specs.Lsps.{is_path_of, lsp_at}
use Rattle.lsp_base.specs.Grants.{has_grant}
use Rattle.lsp_base.specs.Same.{is_reported}
use Rattle.lsp_base.specs.declared.lsp.Lsp.{Lsp}
use Rattle.lsp_base.specs.declared.path.Path.{Path}
use Rattle.lsp_base.specs.declared.tunnel.Part.{Part}
use Rattle.lsp_base.specs.declared.tunnel.Part.TheVariants.{Reported, Granted}
use Rattle.ticket_table.specs.Tickets.{is_update_asked}
use Rattle.step_core.specs.States.{State}
use Rattle.history_core.specs.Histories.{Content}
use Rattle.server_base.specs.declared.linkless.SeenLinkless.{SeenLinkless}
use Rattle.server_base.specs.declared.linkless.LinklessPage.{LinklessPage}

abbrev pub is_empty : List ℕ → Bool
is_empty [] = true
is_empty (x ∷ xs) = false

abbrev pub holds_links : Path → Bool
holds_links x = not (is_empty x.links)

-- its router reported it down, or its route isn't known
abbrev pub is_linkless : Path → Bool
is_linkless x = is_reported x.part && not (holds_links x)

abbrev pub lsp_id_of : Part → ℕ
lsp_id_of (Reported lsp) = lsp
lsp_id_of (Granted srp) = 0

-- it was reported with this LSP-ID
abbrev pub is_reported_as : ℕ → Path → Bool
is_reported_as lsp x = is_reported x.part && lsp_id_of x.part == lsp

abbrev pub is_delegated : Option Lsp → Bool
is_delegated None = false
is_delegated (Some lsp) = lsp.delegated

abbrev pub is_removing : Option Lsp → Bool
is_removing None = false
is_removing (Some lsp) = is_some lsp.removing

-- the path, and the state of its LSP
abbrev pub seen_linkless : State → Path → SeenLinkless
seen_linkless s x = record {
  peer = x.peer;
  plsp = x.plsp;
  lsp = lsp_id_of x.part;
  is_delegated = is_delegated (lsp_at s.base.records x.peer x.plsp);
  holds_links = list_any (λ y. holds_links y && is_path_of x.peer x.plsp y) s.base.paths;
  has_grant = has_grant s.base.paths x.peer x.plsp;
  has_ticket = is_update_asked s.tickets x.peer x.plsp;
  is_removing = is_removing (lsp_at s.base.records x.peer x.plsp);
}

-- the place after 256 paths, if there is a path at it
abbrev pub next_of : ℕ → ℕ → Option ℕ
next_of from count = if nat_lt (from + 256) count then Some (from + 256) else None

-- of 256 paths from a place on, those that hold no link
pub record SeesLinkless (from : ℕ) (d : Content) (seen : LinklessPage) : Type 0 where
  pub paths : seen.paths.items ≡ map (seen_linkless d.state) (filter is_linkless (take 256 (drop from d.state.base.paths)))
  pub next : seen.next ≡ next_of from (length d.state.base.paths)
