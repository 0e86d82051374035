use Rattle.std.proofs.Common.{◌≡◌, map, take}
use Rattle.std.specs.Prelude.{filter}
use Rattle.lsp_base.proofs.passes.changes_of.Given as goal

abbrev pub invariant-loop-known : goal.invariant-loop-known
invariant-loop-known g l = l.changes.items ≡ map (g.R.RecordRule.change l.rule) (filter (g.R.RecordRule.applies l.rule) (take l.known-index l.records))
