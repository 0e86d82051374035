-- What a call adds to a text.
use Rattle.std.specs.Prelude.{ℕ, ◌≡◌, ◌++◌, List, Result, OnOk, string_bytes}
use Rattle.std.specs.declared.alloc.Global.{Global}
use Rattle.std.specs.declared.string.String.{String}

-- the text gains these bytes, unless memory was refused
abbrev pub Adds : {X E : Type 0} → Result X E → String Global → String Global → List ℕ → Type 0
Adds result old new words = OnOk result (string_bytes new ≡ string_bytes old ++ words)

-- one text followed by another
infixr 5 ◌+>◌
abbrev pub ◌+>◌ : List ℕ → List ℕ → List ℕ
a +> b = a ++ b
