use Rattle.std.proofs.Common.{◌≡◌, drop}
use Rattle.step_core.specs.States.{names_without}
use Rattle.step_core.proofs.name_table.NameTable.drop_names.Given as goal

abbrev pub invariant-loop-path : goal.invariant-loop-path
invariant-loop-path l = names_without l.self.names (drop l.path-index l.gone) ≡ names_without l.fn.self.names l.gone
