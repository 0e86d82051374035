-- The last error that a router sent for each LSP.
use Rattle.std.specs.Prelude.{◌≡◌, ◌==◌, ◌≤◌, ℕ, Bool, false, not, List, ◌∷◌, length, Option, Some, None, is_some}
use Rattle.indexmap.specs.IndexMap.{get, IsUnique}
use Rattle.server_rules.specs.Keyed.{known_from}
use Rattle.server_rules.specs.Retries.{is_same_lsp}
use Rattle.server_rules.specs.declared.retry.RouterLsp.{RouterLsp}
use Rattle.server_rules.specs.declared.peer_errors.PcErr.{PcErr}
use Rattle.server_rules.specs.declared.peer_errors.PcErrHappening.{PcErrHappening}
use Rattle.server_rules.specs.declared.peer_errors.PcErrHappening.TheVariants.{Sent, LspRemoved, Up, Expired}
use Rattle.server_rules.specs.declared.peer_errors.PeerErrors.{PeerErrors}

abbrev pub concerns : PcErrHappening → RouterLsp → Bool
concerns (Sent of _) lsp = is_same_lsp of lsp
concerns (LspRemoved of) lsp = is_same_lsp of lsp
concerns (Up peer) lsp = peer == lsp.peer
concerns (Expired peer) lsp = peer == lsp.peer

-- the last error of an LSP after a happening that concerns it
abbrev pub changed : PcErrHappening → Option PcErr → Option PcErr
changed (Sent _ error) last = Some error
changed (LspRemoved _) last = None
changed (Up _) last = None
changed (Expired _) last = None

-- the last error of an LSP, given all that happened, the latest first
abbrev pub error_from : List PcErrHappening → RouterLsp → Option PcErr
error_from past lsp = known_from concerns changed None past lsp

-- the router whose LSPs' errors are removed
abbrev pub forgets : PcErrHappening → Option ℕ
forgets (Sent _ _) = None
forgets (LspRemoved _) = None
forgets (Up peer) = Some peer
forgets (Expired peer) = Some peer

-- ---- the table

abbrev pub error_in : PeerErrors → RouterLsp → Option PcErr
error_in table lsp = get is_same_lsp table.errors lsp

-- the table has, in one entry for each LSP, what is known from all that happened, and has at most 16,384 entries
pub record Knows (table : PeerErrors) (past : List PcErrHappening) : Type 0 where
  pub few : length table.errors.entries ≤ 16384
  pub unique : IsUnique is_same_lsp table.errors
  pub known : (lsp : RouterLsp) → error_in table lsp ≡ error_from past lsp

abbrev pub IsSame : PeerErrors → PeerErrors → Type 0
IsSame old new = (past : List PcErrHappening) → Knows old past → Knows new past

-- the table knew all that happened, and now also knows this
abbrev pub Adds : PeerErrors → PeerErrors → PcErrHappening → Type 0
Adds old new what = (past : List PcErrHappening) → Knows old past → Knows new (what ∷ past)

-- the happening takes memory: it is the first error of an LSP
abbrev pub needs_room : PeerErrors → PcErrHappening → Bool
needs_room table (Sent of _) = not (is_some (error_in table of))
needs_room table _ = false
