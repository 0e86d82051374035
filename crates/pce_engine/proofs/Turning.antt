-- From turn to turn of the reader.
use Rattle.std.proofs.Common.{◌≡◌, inl, inr, ℕ, ◌+◌, ◌<◌, List, [], length, take, Option, None, Ok, Err, refl, sym, subst}
use Rattle.std.specs.Io.KnownBytes.{Consumes, IsAtEnd}
use Rattle.pce_engine.specs.declared.fault.ScriptFault.{ScriptFault}
use Rattle.pce_engine.specs.declared.script.Turn.TheVariants.{More, Finished}
use Rattle.pce_engine.specs.Machine.{Machine}
use Rattle.pce_engine.specs.Ends.{EndsBy, WritesScript}
use Rattle.pce_engine.specs.Runs.{GaveNothing, Turns, Reading}
use Rattle.pce_engine.proofs.Runs.{read_ends, read_faults, read_more, read_stops, read_fails}

pub nothing_read : (n : ℕ) (piece : List ℕ) (was now : Option (List ℕ)) → n ≡ 0 → Consumes was now (take n piece) → (n ≡ 0 → 0 < length piece → IsAtEnd now) → 0 < length piece → GaveNothing was now
nothing_read n piece was now none c end some = (subst (λ (k : ℕ). Consumes was now (take k piece)) none c, end none some)

pub turns_on : (input : List ℕ) (was now old mid new : Option (List ℕ)) (m n : Machine) (turns : ℕ) → Reading input was old mid m turns → Turns (Ok More) was now mid new m n → Reading input now old new n (turns + 1)
turns_on input was now old mid new m n turns r t = read_more input t.0 was now old mid new m n turns r t.1.0 t.1.1 t.2

pub turns_out : (input : List ℕ) (was now old mid new : Option (List ℕ)) (m n : Machine) (turns : ℕ) → Reading input was old mid m turns → Turns (Ok Finished) was now mid new m n → WritesScript old new None input
turns_out input was now old mid new m n turns r t = read_ends input [] was now old mid new m turns r refl t.0.0 t.0.1 t.1

pub turns_bad : (e : ScriptFault) (input : List ℕ) (was now old mid new : Option (List ℕ)) (m n : Machine) (turns : ℕ) → Reading input was old mid m turns → Turns (Err e) was now mid new m n → EndsBy e old new now input
turns_bad e input was now old mid new m n turns r t =
    elim t [
      | inl f ↦ subst (λ (w : Option (List ℕ)). EndsBy e old w now input) (sym f.2) (subst (λ (x : ScriptFault). EndsBy x old mid now input) (sym f.0) (read_fails input was now old mid m turns r f.1))
      | inr g ↦ elim g [
        | inl s ↦ read_stops e input s.0 was now old mid new m turns r s.1.0 s.1.2 s.2
        | inr c ↦ read_faults e input [] was now old mid new m turns r refl c.0.0 c.0.1 c.1
      ]
    ]
