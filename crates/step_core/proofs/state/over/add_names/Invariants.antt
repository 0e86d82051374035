use Rattle.std.proofs.Common.{◌≡◌, ◌++◌}
use Rattle.std.specs.Vec.Iter.{into_iter_items}
use Rattle.step_core.specs.Standing.{each_joins, may_have_name}
use Rattle.step_core.proofs.state.over.add_names.Given as goal

-- the names that are there now, followed by those that are left, are all names
abbrev pub invariant-loop-name : goal.invariant-loop-name
invariant-loop-name l = record {
  same : l.network ≡ record l.fn.network { names = l.network.names };
  all : l.network.names ++ into_iter_items l.name-iterator ≡ l.fn.network.names ++ l.fn.names.items;
  decided : each_joins (may_have_name l.fn.network.base.paths) l.network.names (into_iter_items l.name-iterator) ≡ each_joins (may_have_name l.fn.network.base.paths) l.fn.network.names l.fn.names.items;
}
