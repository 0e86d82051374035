use Rattle.std.proofs.Common.{◌≡◌, ◌++◌}
use Rattle.std.specs.Vec.Iter.{into_iter_items}
use Rattle.step_core.specs.Standing.{may_have_records}
use Rattle.step_core.proofs.state.over.add_records.Given as goal

-- the records that are there now, followed by those that are left, are all records
abbrev pub invariant-loop-known : goal.invariant-loop-known
invariant-loop-known l = record {
  same : l.network ≡ record l.fn.network { base = record l.fn.network.base { records = l.network.base.records } };
  all : l.network.base.records ++ into_iter_items l.known-iterator ≡ l.fn.network.base.records ++ l.fn.records.items;
  decided : may_have_records l.network.base (into_iter_items l.known-iterator) ≡ may_have_records l.fn.network.base l.fn.records.items;
}
