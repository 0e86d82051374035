use Rattle.std.proofs.Common.{refl}
use Rattle.history_tokens.proofs.Beginnings.{prefix_same, prefix_trans}
use Rattle.server_journal.proofs.Following.{stays}
use Rattle.server_journal.proofs.Onward.{further, seen_after}
use Rattle.server_journal.proofs.keeper.write_on.Goals as goal

pub loop-init : goal.loop-init
loop-init g c = record {
  begins = prefix_same c.args.seat.now.seen c.args.seat.now.seen refl;
  goes_on = stays g.B.StepNumbers.text c.args.seat.now.seen c.args.progress.now.next (g.W.Write.contents c.args.writer.now);
}

pub loop-preserved-in-Turn : goal.loop-preserved-in-Turn
loop-preserved-in-Turn g c =
    let contents = g.W.Write.contents in
    record {
      begins = prefix_trans c.args.seat.now.seen c.loop.seat.seen c.turn.new.seat.seen c.loop.invariant.begins c.turn.ensures.begins;
      goes_on = further g.B.StepNumbers.text c.loop.seat.seen c.turn.new.seat.seen c.args.progress.now.next c.loop.progress.next c.turn.new.progress.next
          (contents c.args.writer.now) (contents c.loop.writer) (contents c.turn.new.writer) c.loop.invariant.goes_on c.turn.ensures.begins c.in_ok-turn.ensures.goes_on;
    }

pub returns-in-Some-2-clause-goes_on : goal.returns-in-Some-2-clause-goes_on
returns-in-Some-2-clause-goes_on g c =
    let contents = g.W.Write.contents in
    seen_after g.B.StepNumbers.text c.loop.seat.seen c.turn.new.seat.seen c.next_file.new.seat.seen c.args.progress.now.next c.loop.progress.next c.turn.new.progress.next c.next_file.new.progress.next
    (contents c.args.writer.now) (contents c.loop.writer) (contents c.turn.new.writer)
    c.loop.invariant.goes_on c.turn.ensures.begins c.in_ok-turn.ensures.goes_on c.next_file.ensures.begins c.next_file.ensures.next

pub loop-preserved : goal.loop-preserved
loop-preserved g c =
    let contents = g.W.Write.contents in
    record {
      begins = prefix_trans c.args.seat.now.seen c.turn.new.seat.seen c.next_file.new.seat.seen
          (prefix_trans c.args.seat.now.seen c.loop.seat.seen c.turn.new.seat.seen c.loop.invariant.begins c.turn.ensures.begins) c.next_file.ensures.begins;
      goes_on = seen_after g.B.StepNumbers.text c.loop.seat.seen c.turn.new.seat.seen c.next_file.new.seat.seen c.args.progress.now.next c.loop.progress.next c.turn.new.progress.next c.next_file.new.progress.next
          (contents c.args.writer.now) (contents c.loop.writer) (contents c.turn.new.writer)
          c.loop.invariant.goes_on c.turn.ensures.begins c.in_ok-turn.ensures.goes_on c.next_file.ensures.begins c.next_file.ensures.next;
    }
