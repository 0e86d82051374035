use Rattle.std.proofs.Common.{◌≡◌, string_bytes}
use Rattle.std.specs.Vec.Iter.{into_iter_items}
use Rattle.script_lines.specs.Submits.{reports_answer}
use Rattle.script_lines.specs.LineAnswer.{behind}
use Rattle.script_lines.proofs.submits.report_each.Given as goal

-- the reports that are left lead to what all of them lead to
abbrev pub invariant-loop-report : goal.invariant-loop-report
invariant-loop-report l =
    behind (string_bytes l.text) (reports_answer l.peer (into_iter_items l.report-iterator) l.database) ≡ behind (string_bytes l.fn.text) (reports_answer l.peer l.fn.reports.items l.fn.database)
