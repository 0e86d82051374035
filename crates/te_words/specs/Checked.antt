-- What a check of a link text says of it.
use Rattle.std.specs.Prelude.{ℕ, ◌≡◌, codes, List, [], ◌++◌, Option, Some, None, Result, Err, IsOk}
use Rattle.std.specs.Fmt.{decimal}
use Rattle.te_base.specs.Ted.{Ted}
use Rattle.te_base.specs.Faults.{fault_number}
use Rattle.te_base.specs.Keys.{kind_word}
use Rattle.te_base.specs.declared.fault.FaultPlace.{FaultPlace}
use Rattle.te_base.specs.declared.fault.FaultPlace.TheVariants.{InText, InArray, InTable}
use Rattle.te_base.specs.declared.fault.PlacedFault.{PlacedFault}

-- None: the text has no fault. A fault is the first one of the text, at its place.
abbrev pub IsFound : Option PlacedFault → Result Ted PlacedFault → Type 0
IsFound None read = IsOk read
IsFound (Some found) read = read ≡ Err found

-- the table that has a fault
abbrev pub place_text : FaultPlace → List ℕ
place_text InText = []
place_text (InArray kind) = kind_word kind
place_text (InTable kind number) = kind_word kind ++ codes " " ++ decimal number

-- how the words of a fault begin
abbrev pub head_text : PlacedFault → List ℕ
head_text found = codes "te fault " ++ decimal (fault_number found.fault) ++ codes ": " ++ place_text found.place

abbrev pub Adds : List ℕ → List ℕ → Type 0
Adds old new = (words : List ℕ) × (new ≡ old ++ words)

-- the words of a fault name it and the table that has it
abbrev pub IsNamed : Option PlacedFault → List ℕ → List ℕ → Type 0
IsNamed None old new = Unit {0}
IsNamed (Some found) old new = Adds (old ++ head_text found) new
