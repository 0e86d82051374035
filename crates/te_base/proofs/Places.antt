-- What is said of a fault is said of it without its place.
use Rattle.std.proofs.Common.{ℕ, Option, Result, ap}
use Rattle.te_base.specs.declared.fault.TeFault.{TeFault}
use Rattle.te_base.specs.declared.fault.TeFault.TheVariants.{NotToml, MissingField, OutOfRange, UnknownNode, AddressTwice, NameTwice, SelfLoop, TooMany, OutOfMemory, OtherLinks}
use Rattle.te_base.specs.declared.fault.FaultPlace.{FaultPlace}
use Rattle.te_base.specs.declared.fault.PlacedFault.{PlacedFault}
use Rattle.te_base.specs.declared.keys.Key.{Key}
use Rattle.te_base.specs.Faults.{Fails}
use Rattle.te_base.specs.Places.{unplaced}

pub unplaced_fails : {A : Type 0} (fault : TeFault) (place : FaultPlace) (key : Option Key) (other : Option ℕ) (given : Result A PlacedFault)
    → Fails fault (record { fault = fault; place = place; key = key; other = other }) given → Fails fault fault (unplaced given)
unplaced_fails NotToml place key other given is = ap unplaced is
unplaced_fails MissingField place key other given is = ap unplaced is
unplaced_fails OutOfRange place key other given is = ap unplaced is
unplaced_fails UnknownNode place key other given is = ap unplaced is
unplaced_fails AddressTwice place key other given is = ap unplaced is
unplaced_fails NameTwice place key other given is = ap unplaced is
unplaced_fails SelfLoop place key other given is = ap unplaced is
unplaced_fails TooMany place key other given is = ap unplaced is
unplaced_fails OutOfMemory place key other given is = tt
unplaced_fails OtherLinks place key other given is = ap unplaced is
