-- What a failed accept of a listener means.
use Rattle.std.specs.Prelude.{ℤ, pos, Bool, false, Option, Some, None, if◌then◌else◌}
use Rattle.std.specs.Ordering.{int_eq}
use Rattle.std.specs.declared.io.ErrorKind.{ErrorKind}
use Rattle.std.specs.declared.io.ErrorKind.TheVariants as error
use Rattle.server_rules.specs.declared.failures.FailedAccept.{FailedAccept}
use Rattle.server_rules.specs.declared.failures.FailedAccept.TheVariants.{Nobody, Wait, Broken}

-- judged by the kind only: a broken listener; an accept that waited in vain, was interrupted, or lost its client; any
-- other fault may pass
abbrev pub accept_by_kind : ErrorKind → FailedAccept
accept_by_kind error.InvalidInput = Broken
accept_by_kind error.Unsupported = Broken
accept_by_kind error.WouldBlock = Nobody
accept_by_kind error.TimedOut = Nobody
accept_by_kind error.Interrupted = Nobody
accept_by_kind error.ConnectionAborted = Nobody
accept_by_kind _ = Wait

-- a descriptor that isn't open (EBADF, number 9) has no kind of its own
abbrev pub is_not_open : Option ℤ → Bool
is_not_open None = false
is_not_open (Some code) = int_eq code (pos 9)

abbrev pub failed_accept : ErrorKind → Option ℤ → FailedAccept
failed_accept kind code = if is_not_open code then Broken else accept_by_kind kind
