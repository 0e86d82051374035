-- What is known of an LSP that may be missing, and what the PCE asked its peer for and still awaits: a grant, or a
-- removal (RFC 8231 section 6.2, RFC 8281 section 5.4).
use Rattle.std.specs.Prelude.{ℕ, Bool, false, ◌==◌, ◌&&◌, ◌||◌, Option, Some, None, is_some}
use Rattle.lsp_base.specs.Lsps.{Lsps, lsp_at}
use Rattle.lsp_base.specs.Grants.{has_grant, has_srp, is_number}
use Rattle.lsp_base.specs.declared.path.Path.{Path}
use Rattle.lsp_base.specs.declared.lsp.Lsp.{Lsp}
use Rattle.lsp_base.specs.declared.effect.Record.{Record}

abbrev pub is_delegated : Option Lsp → Bool
is_delegated None = false
is_delegated (Some lsp) = lsp.delegated

-- the PCE initiated it
abbrev pub is_created : Option Lsp → Bool
is_created None = false
is_created (Some lsp) = lsp.created

-- its removal is awaited
abbrev pub is_removing : Option Lsp → Bool
is_removing None = false
is_removing (Some lsp) = is_some lsp.removing

-- a grant or a removal of the LSP is awaited
abbrev pub is_pending : Lsps → ℕ → ℕ → Bool
is_pending lsps peer plsp = has_grant lsps.paths peer plsp || is_removing (lsp_at lsps.records peer plsp)

-- the peer's grant of this SRP-ID, bound to an LSP or not
abbrev pub is_grant_as : ℕ → ℕ → Path → Bool
is_grant_as peer srp x = x.peer == peer && has_srp (Some srp) x.part

-- an LSP of the peer whose removal has this SRP-ID
abbrev pub is_removed_as : ℕ → ℕ → Record → Bool
is_removed_as peer srp r = r.peer == peer && is_number (r.lsp).removing srp
