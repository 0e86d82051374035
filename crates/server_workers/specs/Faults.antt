-- What a worker does after a turn.
use Rattle.std.specs.Prelude.{Bool, true, false, List, ◌∷◌, Option, Some, None}
use Rattle.server_rules.specs.Faults.{after_fault, in_a_row}
use Rattle.server_rules.specs.declared.faults.AfterFault.{AfterFault}
use Rattle.server_rules.specs.declared.faults.Turn.{Turn}
use Rattle.server_rules.specs.declared.faults.Turn.TheVariants.{Went, Failed}

abbrev pub turn : Bool → Turn
turn true = Failed
turn false = Went

-- nothing after a turn that went well; after a fault, what the number of faults in a row calls for, this one included
abbrev pub after_turn : Bool → List Turn → Option AfterFault
after_turn true past = Some (after_fault (in_a_row (Failed ∷ past)))
after_turn false past = None
