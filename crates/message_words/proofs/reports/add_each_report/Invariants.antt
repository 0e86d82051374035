use Rattle.std.proofs.Common.{◌≡◌, ◌++◌, string_bytes, drop}
use Rattle.message_words.specs.Messages.{reports_words}
use Rattle.message_words.proofs.reports.add_each_report.Given as goal

-- the text so far and that of the reports that are left make the whole
abbrev pub invariant-loop-report : goal.invariant-loop-report
invariant-loop-report l =
    string_bytes l.text ++ reports_words (drop l.report-index l.reports) ≡ string_bytes l.fn.text ++ reports_words l.fn.reports
