-- What a call returns if memory may run out.
use Rattle.std.specs.Prelude.{◌≡◌, Bool, true, false, Result, Ok, Err}

-- the fact holds, unless memory ran out
abbrev pub Unless : Bool → Type 0 → Type 0
Unless true fact = Unit {0}
Unless false fact = fact

-- the fault is the expected one, unless memory ran out
abbrev pub Fails : {E Y : Type 0} → (E → Bool) → E → Result Y E → Type 0
Fails is_memory fault due = Unless (is_memory fault) (due ≡ Err fault)

-- the result, seen by view, is the expected one, unless memory ran out
abbrev pub Gives : {E X Y : Type 0} → (E → Bool) → (X → Y) → Result X E → Result Y E → Type 0
Gives is_memory view (Ok x) due = due ≡ Ok (view x)
Gives is_memory view (Err fault) due = Fails is_memory fault due
