use Rattle.std.proofs.Common.{sym, ◌∙◌, arith}
use Rattle.journal_files.proofs.Texts.{ends_before}
use Rattle.journal_files.proofs.moments.not_before.Goals as goal

pub returns-then-i-moment : goal.returns-then-i-moment
returns-then-i-moment c =
    sym (ends_before c.args.moment.now c.args.other.now c.loop-i.i (omega arith) (omega arith)) ∙ c.loop-i.invariant.same
