use Rattle.std.proofs.Common.{◌≡◌, take}
use Rattle.std.specs.Prelude.{filter}
use Rattle.lsp_base.proofs.passes.paths_passing.Given as goal

abbrev pub invariant-loop-path : goal.invariant-loop-path
invariant-loop-path g l = l.found.items ≡ filter (g.T.Test.passes l.test) (take l.path-index l.paths)
