-- What one side of the quick search knows.
use Rattle.std.specs.Prelude.{ℕ, ◌≡◌, length}
use Rattle.path_finder.specs.declared.quick.Side.{Side}

-- it has a label and a link for each node
pub record IsOver (nodes : ℕ) (side : Side) : Type 0 where
  pub costs : length side.costs.items ≡ nodes
  pub via : length side.via.items ≡ nodes
