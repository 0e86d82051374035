use Rattle.std.proofs.Common.{◌≡◌, ◌++◌, drop, map}
use Rattle.serde_json.specs.View.{view}
use Rattle.watch_board.specs.Shares.{shares_from}
use Rattle.watch_board.proofs.shares.shares_of.Given as goal

abbrev pub invariant-loop-place : goal.invariant-loop-place
invariant-loop-place l = l.shares.items ++ shares_from l.place (map view (drop l.place l.links)) ≡ shares_from 0 (map view l.links)
