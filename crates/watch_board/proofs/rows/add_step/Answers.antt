use Rattle.std.proofs.Common.{ap}
use Rattle.watch_board.specs.Rows.{number_words, step_row}
use Rattle.watch_board.proofs.Adding.{and_then, pushed_last, said}
use Rattle.watch_board.proofs.rows.add_step.Goals as goal

pub returns : goal.returns
unfolding step_row
returns c = pushed_last c.push_str-4.result c.add_number.new.text _ _ _ c.push_str-4.ensures.bytes (λ last.
    (and_then c.args.text.now c.add_whole.new.text _ _ _ c.in_ok-add_whole.ensures
    (and_then c.add_whole.new.text c.push_str.new.self _ _ _ c.in_ok-push_str.ensures.bytes
    (and_then c.push_str.new.self c.add_text.new.text _ _ _ c.in_ok-add_text.ensures
    (and_then c.add_text.new.text c.push_str-2.new.self _ _ _ c.in_ok-push_str-2.ensures.bytes
    (and_then c.push_str-2.new.self c.add_text-2.new.text _ _ _ c.in_ok-add_text-2.ensures
    (and_then c.add_text-2.new.text c.push_str-3.new.self _ _ _ c.in_ok-push_str-3.ensures.bytes
    (and_then c.push_str-3.new.self c.add_text-3.new.text _ _ _ c.in_ok-add_text-3.ensures
    (and_then c.add_text-3.new.text c.add_number.new.text _ _ _ (said c.add_text-3.new.text _ _ _ (ap number_words c.number_in.ensures) c.in_ok-add_number.ensures) last)))))))))
