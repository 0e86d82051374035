-- Which entries may have no paths.
use Rattle.std.specs.Prelude.{◌<◌, ◌≤◌, ℕ, List, length}
use Rattle.lsp_base.specs.declared.path.Path.{Path}
use Rattle.lsp_base.specs.declared.tunnel.Tunnel.{Tunnel}
use Rattle.bandwidth_book.specs.Paths.{held_by}

-- how often these paths have a link for a tunnel
abbrev pub noted : List Path → ℕ → Tunnel → ℕ
noted paths l t = length (held_by l t paths)

-- on each of n links, room is promised to a tunnel for at most what these paths hold
abbrev pub AreNoted : ℕ → (ℕ → Tunnel → ℕ) → List Path → Type 0
AreNoted n promised paths = (l : ℕ) (t : Tunnel) → l < n → promised l t ≤ noted paths l t
