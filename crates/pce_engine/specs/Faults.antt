-- The faults of a script, with those of the database, and the text of each.
use Rattle.std.specs.Prelude.{ℕ, List, ◌++◌, codes}
use Rattle.std.specs.Fmt.{decimal}
use Rattle.te_base.specs.Faults.{fault_number}
use Rattle.te_base.specs.declared.fault.TeFault.{TeFault}
use Rattle.te_base.specs.declared.fault.TeFault.TheVariants as te
use Rattle.history_core.specs.declared.fault.Fault.TheVariants as database
use Rattle.script_lines.specs.declared.fault.CommandFault.{CommandFault}
use Rattle.script_lines.specs.declared.fault.CommandFault.TheVariants as line
use Rattle.pce_engine.specs.declared.fault.ScriptFault.{ScriptFault}
use Rattle.pce_engine.specs.declared.fault.ScriptFault.TheVariants.{BadLine, Te, ReadFault, WriteFault, OutOfMemory, HistoryFull}

-- the fault of the line with this number
abbrev pub numbered : ℕ → CommandFault → ScriptFault
numbered number line.BadLine = BadLine number
numbered number (line.Store database.OutOfMemory) = OutOfMemory number
numbered number (line.Store database.HistoryFull) = HistoryFull

-- the fault of a link text, at the line with this number; if memory ran out, that is the fault
abbrev pub te_numbered : ℕ → TeFault → ScriptFault
te_numbered number te.OutOfMemory = OutOfMemory number
te_numbered number fault = Te fault

-- the text of a fault of a link text; if memory ran out, that is the fault
abbrev pub te_text : TeFault → List ℕ
te_text te.OutOfMemory = codes "out of memory"
te_text fault = codes "te fault " ++ decimal (fault_number fault)

-- the text of a fault on standard error
abbrev pub fault_text : ScriptFault → List ℕ
fault_text (BadLine line) = codes "bad line " ++ decimal line
fault_text (Te fault) = te_text fault
fault_text ReadFault = codes "device fault"
fault_text WriteFault = codes "device fault"
fault_text (OutOfMemory line) = codes "out of memory"
fault_text HistoryFull = codes "history full"
