-- The first fault of a link text, or a value.
use Rattle.std.specs.Prelude.{ℕ, ◌≡◌, Result, Ok, Err, Option, Some, None}
use Rattle.te_base.specs.declared.fault.TeFault.{TeFault}
use Rattle.te_base.specs.declared.fault.TeFault.TheVariants.{NotToml, MissingField, OutOfRange, UnknownNode, AddressTwice, NameTwice, SelfLoop, TooMany, OutOfMemory, OtherLinks}

-- the number that a user sees of a fault
abbrev pub fault_number : TeFault → ℕ
fault_number NotToml = 1
fault_number MissingField = 2
fault_number OutOfRange = 3
fault_number UnknownNode = 4
fault_number AddressTwice = 5
fault_number NameTwice = 6
fault_number SelfLoop = 7
fault_number TooMany = 8
fault_number OutOfMemory = 9
fault_number OtherLinks = 10

-- one step after the other, up to the first fault
infixl 10 ◌>>=◌
abbrev pub ◌>>=◌ : {A B E : Type 0} → Result A E → (A → Result B E) → Result B E
(Ok x) >>= f = f x
(Err e) >>= f = Err e

-- a value that must be there
abbrev pub some_or : {A E : Type 0} → E → Option A → Result A E
some_or e None = Err e
some_or e (Some x) = Ok x

-- What a function answered, seen by view, is what a definition gives. Only running out of memory is no part of a
-- definition. It may come in place of any answer.
abbrev pub Fails : {Y E : Type 0} → TeFault → E → Result Y E → Type 0
Fails OutOfMemory e given = Unit {0}
Fails fault e given = given ≡ Err e

abbrev pub Gives : {X Y : Type 0} → (X → Y) → Result X TeFault → Result Y TeFault → Type 0
Gives view (Ok x) given = given ≡ Ok (view x)
Gives view (Err e) given = Fails e e given
