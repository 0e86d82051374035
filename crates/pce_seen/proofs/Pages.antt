-- The paths of an LSP are found by it.
use Rattle.std.proofs.Common.{◌≡◌, ℕ, Bool, true, ◌||◌}
use Rattle.lsp_base.specs.Lsps.{is_path_of}
use Rattle.lsp_base.specs.Tables.{PicksFrom}

or_left : (a b : Bool) → a ≡ true → (a || b) ≡ true
or_left a b is = rw is

pub picks_own : (peer plsp : ℕ) → PicksFrom (is_path_of peer plsp) peer plsp
picks_own peer plsp = record { of = λ x is. or_left (is_path_of peer plsp x) (is_path_of peer 0 x) is }
