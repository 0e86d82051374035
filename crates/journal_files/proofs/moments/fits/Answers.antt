use Rattle.journal_files.proofs.Texts.{fits-lengths}
use Rattle.journal_files.proofs.moments.fits.Goals as goal

pub returns-then-pattern-bytes : goal.returns-then-pattern-bytes
returns-then-pattern-bytes c = fits-lengths _ _ c.if-pattern-bytes.true
