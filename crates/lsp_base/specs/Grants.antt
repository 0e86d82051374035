-- Grants: paths that the PCE granted, until the peer has carried them out or refused them.
use Rattle.std.specs.Prelude.{ℕ, Bool, false, ◌==◌, ◌&&◌, not, List, Option, Some, None}
use Rattle.std.specs.List.{list_any}
use Rattle.lsp_base.specs.Same.{is_reported}
use Rattle.lsp_base.specs.Lsps.{is_path_of}
use Rattle.lsp_base.specs.declared.tunnel.Part.{Part}
use Rattle.lsp_base.specs.declared.tunnel.Part.TheVariants.{Reported, Granted}
use Rattle.lsp_base.specs.declared.path.Path.{Path}

-- the path is a grant that is bound to the LSP
abbrev pub is_grant_of : ℕ → ℕ → Path → Bool
is_grant_of peer plsp x = is_path_of peer plsp x && not (is_reported x.part)

-- the LSP has a grant
abbrev pub has_grant : List Path → ℕ → ℕ → Bool
has_grant paths peer plsp = list_any (is_grant_of peer plsp) paths

abbrev pub is_number : Option ℕ → ℕ → Bool
is_number None n = false
is_number (Some m) n = m == n

-- the part is a grant of this SRP-ID
abbrev pub has_srp : Option ℕ → Part → Bool
has_srp srp (Reported i) = false
has_srp srp (Granted s) = is_number srp s

-- the path is a grant of the peer that no report has bound yet: its PLSP-ID is 0
abbrev pub is_unbound_grant : ℕ → Option ℕ → Path → Bool
is_unbound_grant peer srp x = x.peer == peer && x.plsp == 0 && has_srp srp x.part
