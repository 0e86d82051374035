-- The faults of a database: their numbers and texts.
use Rattle.std.specs.Prelude.{ℕ, List, codes}
use Rattle.history_core.specs.declared.fault.Fault.{Fault}
use Rattle.history_core.specs.declared.fault.Fault.TheVariants.{OutOfMemory, HistoryFull}

abbrev pub fault_number : Fault → ℕ
fault_number OutOfMemory = 1
fault_number HistoryFull = 2

abbrev pub fault_text : Fault → List ℕ
fault_text OutOfMemory = codes "out of memory"
fault_text HistoryFull = codes "history full"
