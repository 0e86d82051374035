use Rattle.std.proofs.Common.{◌≡◌, drop}
use Rattle.journal_files.specs.Moments.{fits}
use Rattle.journal_files.proofs.moments.fits.Given as goal

abbrev pub invariant-loop-i : goal.invariant-loop-i
invariant-loop-i l = fits (drop l.i l.pattern) (drop l.i l.bytes) ≡ fits l.pattern l.bytes
