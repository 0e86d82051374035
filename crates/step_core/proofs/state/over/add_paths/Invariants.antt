use Rattle.std.proofs.Common.{◌≡◌, ◌++◌}
use Rattle.std.specs.Vec.Iter.{into_iter_items}
use Rattle.step_core.specs.Standing.{may_have_paths}
use Rattle.step_core.proofs.state.over.add_paths.Given as goal

-- the paths that are there now, followed by those that are left, are all paths
abbrev pub invariant-loop-path : goal.invariant-loop-path
invariant-loop-path l = record {
  same : l.network ≡ record l.fn.network { base = record l.fn.network.base { paths = l.network.base.paths } };
  all : l.network.base.paths ++ into_iter_items l.path-iterator ≡ l.fn.network.base.paths ++ l.fn.paths.items;
  decided : may_have_paths l.network.base (into_iter_items l.path-iterator) ≡ may_have_paths l.fn.network.base l.fn.paths.items;
}
