use Rattle.std.proofs.Common.{◌≡◌, ◌+◌, ◌++◌, ℕ, List, drop}
use Rattle.std.specs.Io.KnownBytes.{Appends}
use Rattle.line_words.specs.Written.{text_of}
use Rattle.journal_writing.specs.Texts.{lines_of}
use Rattle.journal_writing.proofs.texts.write_steps.Given as goal

-- what was handed on, and the lines of the steps that are left, make the whole
abbrev pub invariant-loop-step : goal.invariant-loop-step
invariant-loop-step g l =
    (l.place ≡ l.fn.first + l.step-index)
    × ((done : List ℕ) × Appends (g.W.Write.contents l.initial.writer) (g.W.Write.contents l.writer) done
    × (done ++ text_of (lines_of l.place (drop l.step-index l.steps)) ≡ text_of (lines_of l.fn.first l.fn.steps)))
