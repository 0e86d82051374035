use Rattle.std.proofs.Common.{◌≡◌, ℕ, ◌+◌, ◌*◌, ◌≤◌, List, Some}
use Rattle.pce_engine.specs.MachineOf.{machine_of}
use Rattle.pce_engine.specs.Runs.{Reading}
use Rattle.pce_engine.proofs.script.take_pieces.Given as goal

abbrev pub invariant-loop : goal.invariant-loop
invariant-loop g l = record {
  reading : (input : List ℕ) → g.R.Read.remaining l.fn.reader ≡ Some input → Reading input (g.R.Read.remaining l.reader) (g.W.Write.contents l.fn.writer) (g.W.Write.contents l.writer) (machine_of l.script) l.counter;
  number : l.script.stage.number ≤ 1 + 4096 * l.counter;
}
