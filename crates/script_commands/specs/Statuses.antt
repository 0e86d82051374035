-- The exit status of a run that a fault ended: 2 for what was given, 3 for a device, 5 for memory.
use Rattle.std.specs.Prelude.{ℕ, Result, Ok, Err}
use Rattle.std.specs.declared.io.ErrorKind as system
use Rattle.std.specs.declared.io.ErrorKind.TheVariants as error
use Rattle.te_base.specs.declared.fault.TeFault.{TeFault}
use Rattle.te_base.specs.declared.fault.TeFault.TheVariants as te
use Rattle.pce_engine.specs.declared.fault.ScriptFault.{ScriptFault}
use Rattle.pce_engine.specs.declared.fault.ScriptFault.TheVariants.{BadLine, Te, ReadFault, WriteFault, OutOfMemory, HistoryFull}

-- if memory ran out, that is the fault, wherever it came
abbrev pub te_status : TeFault → ℕ
te_status te.OutOfMemory = 5
te_status fault = 2

abbrev pub status_of : ScriptFault → ℕ
status_of (BadLine n) = 2
status_of (Te fault) = te_status fault
status_of ReadFault = 3
status_of WriteFault = 3
status_of (OutOfMemory n) = 5
status_of HistoryFull = 5

-- the exit status of a script
abbrev pub ended_status : {X : Type 0} → Result X ScriptFault → ℕ
ended_status (Ok x) = 0
ended_status (Err fault) = status_of fault

-- the fault of a run that could not speak with its system
abbrev pub failed_fault : system.ErrorKind → ScriptFault
failed_fault error.OutOfMemory = OutOfMemory 0
failed_fault _ = WriteFault
