use Rattle.std.proofs.lemmas.Result.{err_from_is_err_and}
use Rattle.pce_engine.specs.Machine.{stage_of}
use Rattle.pce_engine.proofs.Closing.{closes_answer, closes_halted, written}
use Rattle.pce_engine.proofs.script.finish_line.Goals as goal

pub returns-in_err-answer_line : goal.returns-in_err-answer_line
returns-in_err-answer_line g c =
    let p = err_from_is_err_and c.from_residual.result c.from_residual.ensures.1 in
    rw (p.1, p.2) (closes_halted c.in_err-answer_line.field-0.0 (g.W.Write.contents c.args.writer.now) (stage_of c.args.stage.now) c.args.line.now _ _ c.requires.line c.in_err-answer_line.ensures.line_answer)

pub returns : goal.returns
returns g c =
    let adds = c.in_ok-answer_line.ensures.line_answer in
    closes_answer c.close.result (g.W.Write.contents c.args.writer.now) (g.W.Write.contents c.write_all.new.self) (g.W.Write.contents c.close.new.writer) (stage_of c.args.stage.now) (stage_of c.answer_line.new.stage) c.args.line.now _ _ adds.0 adds.1
    c.requires.line c.new-out.ensures.items adds.2 adds.3 adds.4 (rw c.deref.ensures.value at (written c.write_all.result _ c.write_all.ensures.bytes c.if-is_err.ensures.value)) c.close.ensures
