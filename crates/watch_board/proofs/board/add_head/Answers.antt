use Rattle.watch_board.specs.Boards.{head_words}
use Rattle.watch_board.proofs.Adding.{added_last, and_then}
use Rattle.watch_board.proofs.board.add_head.Goals as goal

pub returns : goal.returns
unfolding head_words
returns c = added_last c.add_whole-2.result c.push_str-2.new.self _ _ _ c.add_whole-2.ensures (λ last.
    (and_then c.args.text.now c.add_first.new.text _ _ _ c.in_ok-add_first.ensures
    (and_then c.add_first.new.text c.push_str.new.self _ _ _ c.in_ok-push_str.ensures.bytes
    (and_then c.push_str.new.self c.add_whole.new.text _ _ _ c.in_ok-add_whole.ensures
    (and_then c.add_whole.new.text c.push_str-2.new.self _ _ _ c.in_ok-push_str-2.ensures.bytes last)))))
