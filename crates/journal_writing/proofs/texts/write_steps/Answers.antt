use Rattle.std.proofs.Common.{◌≡◌, ◌+◌, ◌++◌, [], ◌∷◌, rules, arith}
use Rattle.std.specs.Io.KnownBytes.{Appends}
use Rattle.step_lines.specs.Lines.{line_of}
use Rattle.journal_writing.specs.Texts.{placed}
use Rattle.journal_writing.proofs.Handed.{one_more}
use Rattle.journal_writing.proofs.texts.write_steps.Goals as goal

pub loop-step-preserved : goal.loop-step-preserved
loop-step-preserved g c =
    let here = c.loop-step in
    let place : here.place + 1 ≡ c.args.first + (here.step-index + 1) = omega (arith, here.invariant.0) in
    let handed : Appends (g.W.Write.contents here.writer) (g.W.Write.contents c.write_step.new.writer) (line_of (placed here.place c.step-item.result) ++ 10 ∷ []) = search rules in
    (place, one_more (g.W.Write.contents c.args.writer.now) (g.W.Write.contents here.writer) (g.W.Write.contents c.write_step.new.writer) c.args.first here.place here.step-index c.args.steps.now c.step-item.result here.invariant.1.0 c.loop-step-test.true c.step-item.is here.invariant.1.1 here.invariant.1.2 handed)
