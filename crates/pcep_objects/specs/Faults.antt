-- The numbers of the faults of objects, including those of bodies.
use Rattle.std.specs.Prelude.{ℕ}
use Rattle.pcep_objects.specs.declared.fault.BodyFault.{BodyFault}
use Rattle.pcep_objects.specs.declared.fault.BodyFault.TheVariants as body
use Rattle.pcep_objects.specs.declared.fault.WriteFault.{WriteFault}
use Rattle.pcep_objects.specs.declared.fault.WriteFault.TheVariants as write
use Rattle.pcep_objects.specs.declared.fault.ObjectFault.{ObjectFault}
use Rattle.pcep_objects.specs.declared.fault.ObjectFault.TheVariants.{Short, BadLength, BadTlv, BadNumber, UnknownClass, UnknownType, OutOfMemory}

abbrev pub fault_number : ObjectFault → ℕ
fault_number Short = 1
fault_number BadLength = 2
fault_number BadTlv = 3
fault_number BadNumber = 4
fault_number (UnknownClass p size) = 5
fault_number (UnknownType p size) = 6
fault_number OutOfMemory = 7

abbrev pub write_fault_number : WriteFault → ℕ
write_fault_number write.TooLong = 1
write_fault_number write.OutOfMemory = 2

abbrev pub fault_of : BodyFault → ObjectFault
fault_of body.BadLength = BadLength
fault_of body.BadTlv = BadTlv
fault_of body.BadNumber = BadNumber
fault_of body.OutOfMemory = OutOfMemory
