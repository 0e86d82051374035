-- A fault of a link text, and where it is.
use Rattle.std.specs.Prelude.{ℕ, ◌≡◌, Some, None, Result, Ok, Err}
use Rattle.te_base.specs.declared.fault.TeFault.{TeFault}
use Rattle.te_base.specs.declared.fault.FaultPlace.{FaultPlace}
use Rattle.te_base.specs.declared.fault.PlacedFault.{PlacedFault}
use Rattle.te_base.specs.declared.keys.Key.{Key}
use Rattle.te_base.specs.Faults.{Fails}

-- of a part as a whole
abbrev pub fault_in : FaultPlace → TeFault → PlacedFault
fault_in place fault = record { fault = fault; place = place; key = None; other = None }

-- of a key
abbrev pub fault_at : FaultPlace → Key → TeFault → PlacedFault
fault_at place key fault = record { fault = fault; place = place; key = Some key; other = None }

-- of a key whose value another node has
abbrev pub fault_with : FaultPlace → Key → TeFault → ℕ → PlacedFault
fault_with place key fault node = record { fault = fault; place = place; key = Some key; other = Some node }

-- without the place
abbrev pub unplaced : {A : Type 0} → Result A PlacedFault → Result A TeFault
unplaced (Ok x) = Ok x
unplaced (Err e) = Err e.fault

-- What a function answered, seen by view, is what a definition gives, unless memory ran out.
abbrev pub GivesAt : {X Y : Type 0} → (X → Y) → Result X PlacedFault → Result Y PlacedFault → Type 0
GivesAt view (Ok x) given = given ≡ Ok (view x)
GivesAt view (Err e) given = Fails e.fault e given

-- the same for a function that changes a value: if it succeeds, the definition gives the value after it
abbrev pub LeavesAt : {X Y : Type 0} → Result X PlacedFault → Result Y PlacedFault → Y → Type 0
LeavesAt (Ok x) given new = given ≡ Ok new
LeavesAt (Err e) given new = Fails e.fault e given
