-- The machine for the state of the code's script.
use Rattle.pce_engine.specs.declared.script.Script.{Script}
use Rattle.pce_engine.specs.Machine.{Machine, stage_of}

abbrev pub machine_of : Script → Machine
machine_of s = record { stage = stage_of s.stage; pending = s.pending.items }
