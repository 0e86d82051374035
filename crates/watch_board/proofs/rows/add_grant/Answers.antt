use Rattle.std.proofs.Common.{◌∙◌, ap, ap₂}
use Rattle.table_text.specs.Numbers.{numbers_words}
use Rattle.watch_board.specs.Rows.{grant_row, lsp_cell}
use Rattle.watch_board.proofs.Adding.{and_then, pushed_last, said}
use Rattle.watch_board.proofs.rows.add_grant.Goals as goal

pub returns : goal.returns
unfolding grant_row
returns c = pushed_last c.push_str-5.result c.add_numbers.new.text _ _ _ c.push_str-5.ensures.bytes (λ last.
    (and_then c.args.text.now c.add_text.new.text _ _ _ c.in_ok-add_text.ensures
    (and_then c.add_text.new.text c.push_str.new.self _ _ _ c.in_ok-push_str.ensures.bytes
    (and_then c.push_str.new.self c.add_whole.new.text _ _ _ c.in_ok-add_whole.ensures
    (and_then c.add_whole.new.text c.push_str-2.new.self _ _ _ c.in_ok-push_str-2.ensures.bytes
    (and_then c.push_str-2.new.self c.add_lsp.new.text _ _ _ (said c.push_str-2.new.self _ _ _ (ap₂ lsp_cell c.text_in.ensures c.whole_in.ensures) c.in_ok-add_lsp.ensures)
    (and_then c.add_lsp.new.text c.push_str-3.new.self _ _ _ c.in_ok-push_str-3.ensures.bytes
    (and_then c.push_str-3.new.self c.add_time.new.text _ _ _ c.in_ok-add_time.ensures
    (and_then c.add_time.new.text c.push_str-4.new.self _ _ _ c.in_ok-push_str-4.ensures.bytes
    (and_then c.push_str-4.new.self c.add_numbers.new.text _ _ _ (said c.push_str-4.new.self _ _ _ (ap numbers_words (c.deref.ensures.value ∙ c.in_ok-numbers.ensures)) c.in_ok-add_numbers.ensures) last))))))))))
