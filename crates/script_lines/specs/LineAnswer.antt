-- What a line answers: what it prints and the state after it, or its fault.
use Rattle.std.specs.Prelude.{◌≡◌, ℕ, List, [], ◌∷◌, ◌++◌, Result, Ok, Err}
use Rattle.history_core.specs.declared.fault.Fault.TheVariants.{OutOfMemory}
use Rattle.script_lines.specs.declared.fault.CommandFault.{CommandFault}
use Rattle.script_lines.specs.declared.fault.CommandFault.TheVariants.{Store}

-- what was printed, and the state after it
pub record LineAnswer (S : Type 0) : Type 0 where
  pub text : List ℕ
  pub after : S

abbrev pub line_answer : {S : Type 0} → List ℕ → S → LineAnswer S
line_answer text after = record { text = text; after = after }

infixl 10 ◌>>=◌
abbrev pub ◌>>=◌ : {E A B : Type 0} → Result A E → (A → Result B E) → Result B E
Ok x >>= f = f x
Err fault >>= f = Err fault

-- the answer with this text before its own
abbrev pub behind : {S : Type 0} → List ℕ → Result (LineAnswer S) CommandFault → Result (LineAnswer S) CommandFault
behind text (Ok t) = Ok (line_answer (text ++ t.text) t.after)
behind text (Err fault) = Err fault

-- lines one after the other, each on the state that the one before it left; their texts follow in this order
abbrev pub each : {X S : Type 0} → (X → S → Result (LineAnswer S) CommandFault) → List X → S → Result (LineAnswer S) CommandFault
each line [] s = Ok (line_answer [] s)
each line (x ∷ xs) s = line x s >>= λ first. behind first.text (each line xs first.after)

-- the fault is the line's; if memory ran out, nothing is claimed
abbrev pub Fails : {Y : Type 0} → CommandFault → Result Y CommandFault → Type 0
Fails (Store OutOfMemory) given = Unit {0}
Fails fault given = given ≡ Err fault

-- a call returned what the line gives
abbrev pub Gives : {X Y : Type 0} → (X → Y) → Result X CommandFault → Result Y CommandFault → Type 0
Gives view (Ok x) given = given ≡ Ok (view x)
Gives view (Err fault) given = Fails fault given

-- a call returned the text that the line prints, and left the state after it
abbrev pub AnswersLine : {X S : Type 0} → (X → List ℕ) → Result X CommandFault → Result (LineAnswer S) CommandFault → S → Type 0
AnswersLine view answer given after = Gives (λ x. line_answer (view x) after) answer given

-- a call left the state after the line
abbrev pub Leaves : {X S : Type 0} → Result X CommandFault → Result S CommandFault → S → Type 0
Leaves answer given after = Gives (λ x. after) answer given
