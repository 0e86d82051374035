use Rattle.watch_board.specs.Rows.{link_row}
use Rattle.watch_board.proofs.Adding.{added_last, and_then}
use Rattle.watch_board.proofs.rows.add_link.Goals as goal

pub returns : goal.returns
unfolding link_row
returns c = added_last c.add_share.result c.push_str-4.new.self _ _ _ c.add_share.ensures (λ last.
    (and_then c.args.text.now c.add_whole.new.text _ _ _ c.in_ok-add_whole.ensures
    (and_then c.add_whole.new.text c.push_str.new.self _ _ _ c.in_ok-push_str.ensures.bytes
    (and_then c.push_str.new.self c.add_text.new.text _ _ _ c.in_ok-add_text.ensures
    (and_then c.add_text.new.text c.push_str-2.new.self _ _ _ c.in_ok-push_str-2.ensures.bytes
    (and_then c.push_str-2.new.self c.add_text-2.new.text _ _ _ c.in_ok-add_text-2.ensures
    (and_then c.add_text-2.new.text c.push_str-3.new.self _ _ _ c.in_ok-push_str-3.ensures.bytes
    (and_then c.push_str-3.new.self c.add_text-3.new.text _ _ _ c.in_ok-add_text-3.ensures
    (and_then c.add_text-3.new.text c.push_str-4.new.self _ _ _ c.in_ok-push_str-4.ensures.bytes last)))))))))
