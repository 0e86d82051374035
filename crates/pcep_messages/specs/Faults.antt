-- The numbers of the faults of messages, and how the result of a function is compared with the definition of reading.
use Rattle.std.specs.Prelude.{◌≡◌, ℕ, Result, Ok, Err}
use Rattle.pcep_messages.specs.declared.fault.MessageFault.{MessageFault}
use Rattle.pcep_messages.specs.declared.fault.MessageFault.TheVariants.{BadHeader, BadObject, Missing, MissingIdentifiers, BadP, Refused, OutOfMemory}

abbrev pub fault_number : MessageFault → ℕ
fault_number BadHeader = 1
fault_number (BadObject fault about) = 2
fault_number (Missing class about) = 3
fault_number (MissingIdentifiers about) = 4
fault_number (BadP about) = 5
fault_number (Refused kind value about) = 6
fault_number OutOfMemory = 7

-- the returned fault is the one that reading gives, unless memory ran out
abbrev pub Fails : {Y : Type 0} → MessageFault → Result Y MessageFault → Type 0
Fails OutOfMemory read = Unit {0}
Fails fault read = read ≡ Err fault

-- the returned value, seen by view, is what reading gives, unless memory ran out
abbrev pub Gives : {X Y : Type 0} → (X → Y) → Result X MessageFault → Result Y MessageFault → Type 0
Gives view (Ok x) read = read ≡ Ok (view x)
Gives view (Err fault) read = Fails fault read
