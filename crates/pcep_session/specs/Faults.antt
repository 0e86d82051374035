-- The numbers of the faults of a session, including those of writing.
use Rattle.std.specs.Prelude.{ℕ}
use Rattle.pcep_objects.specs.declared.fault.WriteFault.{WriteFault}
use Rattle.pcep_objects.specs.declared.fault.WriteFault.TheVariants as writing
use Rattle.pcep_session.specs.declared.fault.SessionFault.{SessionFault}
use Rattle.pcep_session.specs.declared.fault.SessionFault.TheVariants.{Closed, OutOfMemory, NotUp, TooLong}

abbrev pub fault_number : SessionFault → ℕ
fault_number Closed = 1
fault_number OutOfMemory = 2
fault_number NotUp = 3
fault_number TooLong = 4

abbrev pub fault_of : WriteFault → SessionFault
fault_of writing.TooLong = TooLong
fault_of writing.OutOfMemory = OutOfMemory
