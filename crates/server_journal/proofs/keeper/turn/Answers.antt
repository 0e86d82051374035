use Rattle.history_tokens.proofs.Beginnings.{prefix_trans}
use Rattle.server_journal.proofs.Onward.{then_more}
use Rattle.server_journal.proofs.keeper.turn.Goals as goal

pub returns-then-not-branch-clause-begins : goal.returns-then-not-branch-clause-begins
returns-then-not-branch-clause-begins g c =
    prefix_trans c.args.seat.now.seen c.roll.new.seat.seen c.follow_on.new.seat.seen c.roll.ensures.begins c.follow_on.ensures.begins

pub returns-then-not-branch-clause-goes_on : goal.returns-then-not-branch-clause-goes_on
returns-then-not-branch-clause-goes_on g c =
    let contents = g.W.Write.contents in
    then_more c.follow_on.result g.B.StepNumbers.text c.roll.new.seat.seen c.follow_on.new.seat.seen c.args.progress.now.next c.roll.new.progress.next c.follow_on.new.progress.next
    (contents c.args.writer.now) (contents c.roll.new.writer) (contents c.follow_on.new.writer) c.in_ok-roll.ensures.writes c.follow_on.ensures.begins c.follow_on.ensures.writes
