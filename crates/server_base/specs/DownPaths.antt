-- The paths that were last reported DOWN.
use Rattle.std.specs.Prelude.{ℕ, Bool, ◌==◌, ◌&&◌}
use Rattle.server_base.specs.declared.down_paths.ReportedPath.{ReportedPath}

abbrev pub is_same_path : ReportedPath → ReportedPath → Bool
is_same_path a b = a.peer == b.peer && (a.plsp == b.plsp && a.lsp == b.lsp)

-- a path of the router
abbrev pub is_of : ℕ → ReportedPath → Bool
is_of peer q = q.peer == peer

-- a path of the LSP
abbrev pub is_of_lsp : ℕ → ℕ → ReportedPath → Bool
is_of_lsp peer plsp q = q.peer == peer && q.plsp == plsp
