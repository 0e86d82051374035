-- What a fault of a socket or its file means.
use Rattle.std.specs.Prelude.{◌≡◌, Bool, true, false, Result, Ok, Err, IfErr}
use Rattle.std.specs.IoError.{error_kind}
use Rattle.std.specs.declared.io.Error.{Error}
use Rattle.std.specs.declared.io.ErrorKind.{ErrorKind}
use Rattle.std.specs.declared.io.ErrorKind.TheVariants.{ConnectionRefused, Interrupted, NotFound, TimedOut, WouldBlock}

-- the wait is over, or was interrupted
abbrev pub is_quiet : ErrorKind → Bool
is_quiet Interrupted = true
is_quiet WouldBlock = true
is_quiet TimedOut = true
is_quiet kind = false

-- the file is missing, or nobody listens at it
abbrev pub is_gone : ErrorKind → Bool
is_gone NotFound = true
is_gone ConnectionRefused = true
is_gone kind = false

-- nobody listens at the path that was connected to
abbrev pub is_refused : {A : Type 0} → Result A Error → Bool
is_refused (Ok stream) = false
is_refused (Err e) = is_gone (error_kind e)

-- a fault of this kind
abbrev pub IsFault : {A : Type 0} → ErrorKind → Result A Error → Type 0
IsFault kind (Ok done) = ⊥
IsFault kind (Err e) = error_kind e ≡ kind

-- the call is done if its file is gone, and otherwise its result stays
abbrev pub IsUnlessGone : {A : Type 0} → Result A Error → Result A Error → Type 0
IsUnlessGone before (Ok done) = IfErr before (λ e. is_gone (error_kind e) ≡ true)
IsUnlessGone before (Err e) = (before ≡ Err e) × (is_gone (error_kind e) ≡ false)

-- a server that is gone counts as one that isn't heard; each other fault stays
abbrev pub IsUnheard : {A : Type 0} → Error → Result A Error → Type 0
IsUnheard e (Ok unheard) = is_gone (error_kind e) ≡ true
IsUnheard e (Err f) = (e ≡ f) × (is_gone (error_kind e) ≡ false)
