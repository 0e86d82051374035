use Rattle.std.proofs.Common.{◌≤◌, ◌+◌}
use Rattle.pce_engine.specs.MachineOf.{machine_of}
use Rattle.pce_engine.proofs.Unbroken.{IsUnbroken, Led}
use Rattle.pce_engine.proofs.script.feed.Given as goal

-- the bytes before the unfinished line led to where the script is, for answers that the searches may give
abbrev pub invariant-loop-place : goal.invariant-loop-place
invariant-loop-place l = record {
  within : l.start ≤ l.place;
  unbroken : IsUnbroken l.bytes l.start l.place;
  leads : Led l.bytes l.start l.fn.out.items (machine_of l.fn.script) l.out.items (machine_of l.script);
  number : l.script.stage.number ≤ l.fn.script.stage.number + l.start;
}
