use Rattle.std.proofs.Common.{refl, arith}
use Rattle.std.proofs.lemmas.Grind.{common_steps}
use Rattle.pce_engine.specs.MachineOf.{machine_of}
use Rattle.pce_engine.proofs.Runs.{read_none, reads_on}
use Rattle.pce_engine.proofs.Turning.{turns_on, turns_out, turns_bad}
use Rattle.pce_engine.proofs.script.take_pieces.Goals as goal

pub loop-init : goal.loop-init
loop-init g c = record {
  reading = λ input known. read_none input (g.R.Read.remaining c.args.reader.now) (g.W.Write.contents c.args.writer.now) _ c.requires.started known;
  number = rw c.requires.number (omega arith);
}

pub returns-in-Err : goal.returns-in-Err
returns-in-Err g c = λ input known.
    turns_bad c.in-Err.fault input (g.R.Read.remaining c.loop.reader) (g.R.Read.remaining c.take_piece.new.reader) (g.W.Write.contents c.args.writer.now) (g.W.Write.contents c.loop.writer) (g.W.Write.contents c.take_piece.new.writer) (machine_of c.loop.script) (machine_of c.take_piece.new.script) c.loop.counter
    (c.loop.invariant.reading input known) c.in-Err.ensures.turns

pub returns-in-Ok-Finished : goal.returns-in-Ok-Finished
returns-in-Ok-Finished g c = λ input known.
    turns_out input (g.R.Read.remaining c.loop.reader) (g.R.Read.remaining c.take_piece.new.reader) (g.W.Write.contents c.args.writer.now) (g.W.Write.contents c.loop.writer) (g.W.Write.contents c.take_piece.new.writer) (machine_of c.loop.script) (machine_of c.take_piece.new.script) c.loop.counter
    (c.loop.invariant.reading input known) (rw c.in-Ok-Finished.field-0-is at c.in-Ok-Finished.ensures.turns)

pub loop-preserved : goal.loop-preserved
loop-preserved g c = record {
  reading = λ input known.
      turns_on input (g.R.Read.remaining c.loop.reader) (g.R.Read.remaining c.take_piece.new.reader) (g.W.Write.contents c.args.writer.now) (g.W.Write.contents c.loop.writer) (g.W.Write.contents c.take_piece.new.writer) (machine_of c.loop.script) (machine_of c.take_piece.new.script) c.loop.counter
      (c.loop.invariant.reading input known) (rw c.in-Ok-More.field-0-is at c.in-Ok-More.ensures.turns);
  number = omega (arith, c.loop.invariant.number, c.in-Ok-More.ensures.number (rw c.in-Ok-More.field-0-is refl));
}

pub returns : goal.returns
returns g c = λ input known.
    reads_on input (g.R.Read.remaining c.loop.reader) (g.W.Write.contents c.args.writer.now) (g.W.Write.contents c.loop.writer) (machine_of c.loop.script) c.loop.counter
    (c.loop.invariant.reading input known) (grind (arith, common_steps))
