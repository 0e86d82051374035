-- What a grant leaves of the links that it charges.
use Rattle.std.specs.Prelude.{ℕ, ◌≡◌, ◌≤◌, ◌++◌, true, List, [], ◌∷◌, pos, ◌≤ℤ◌}
use Rattle.lsp_base.specs.Shares.{has_link, rises, unreserved}
use Rattle.lsp_base.specs.declared.path.Path.{Path}
use Rattle.te_base.specs.declared.network.Link.{Link}

-- with one more path, none of its links is below zero at a priority, setup or better, at which its tunnel reserves more
-- than before
abbrev pub LeavesRoom : List Link → List Path → Path → ℕ → Type 0
LeavesRoom links paths g setup = (l p : ℕ) → has_link l g ≡ true → p ≤ setup → rises paths g l p ≡ true → pos 0 ≤ℤ unreserved links (paths ++ g ∷ []) l p
