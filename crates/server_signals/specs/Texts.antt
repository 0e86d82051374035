-- What is printed about the fault that ended a run.
use Rattle.std.specs.Prelude.{ℕ, List, codes}
use Rattle.history_core.specs.Faults.{fault_text}
use Rattle.history_seats.specs.Faults.{audit_fault_text}
use Rattle.server_signals.specs.declared.run.RunFault.{RunFault}
use Rattle.server_signals.specs.declared.run.RunFault.TheVariants.{Device, Store, Audit}

-- the text on standard error
abbrev pub run_text : RunFault → List ℕ
run_text Device = codes "device fault"
run_text (Store fault) = fault_text fault
run_text (Audit fault) = audit_fault_text fault
