use Rattle.std.proofs.Common.{◌∙◌, ap}
use Rattle.watch_board.specs.Rows.{peer_row, session_word}
use Rattle.watch_board.proofs.Adding.{and_then, pushed_last, said}
use Rattle.watch_board.proofs.rows.add_peer.Goals as goal

pub returns : goal.returns
unfolding peer_row
returns c = pushed_last c.push_str-7.result c.add_text-2.new.text _ _ _ c.push_str-7.ensures.bytes (λ last.
    (and_then c.args.text.now c.add_text.new.text _ _ _ c.in_ok-add_text.ensures
    (and_then c.add_text.new.text c.push_str.new.self _ _ _ c.in_ok-push_str.ensures.bytes
    (and_then c.push_str.new.self c.push_str-2.new.self _ _ _ (said c.push_str.new.self _ _ _ (c.session_word.ensures ∙ ap session_word c.is_up.ensures) c.in_ok-push_str-2.ensures.bytes)
    (and_then c.push_str-2.new.self c.push_str-3.new.self _ _ _ c.in_ok-push_str-3.ensures.bytes
    (and_then c.push_str-3.new.self c.add_time.new.text _ _ _ c.in_ok-add_time.ensures
    (and_then c.add_time.new.text c.push_str-4.new.self _ _ _ c.in_ok-push_str-4.ensures.bytes
    (and_then c.push_str-4.new.self c.add_whole.new.text _ _ _ c.in_ok-add_whole.ensures
    (and_then c.add_whole.new.text c.push_str-5.new.self _ _ _ c.in_ok-push_str-5.ensures.bytes
    (and_then c.push_str-5.new.self c.add_whole-2.new.text _ _ _ c.in_ok-add_whole-2.ensures
    (and_then c.add_whole-2.new.text c.push_str-6.new.self _ _ _ c.in_ok-push_str-6.ensures.bytes
    (and_then c.push_str-6.new.self c.add_text-2.new.text _ _ _ c.in_ok-add_text-2.ensures last))))))))))))
