use Rattle.std.proofs.Common.{◌≡◌, ap, of_z, rules, to_z, w64}
use Rattle.table_text.specs.Amounts.{percent_words, rate_words}
use Rattle.watch_board.specs.Rows.{share_cells}
use Rattle.watch_board.proofs.Adding.{and_then, pushed_last, said}
use Rattle.watch_board.proofs.rows.add_share.Goals as goal

pub returns : goal.returns
unfolding share_cells
returns c =
    let share = c.args.share.now in
    let left : to_z w64 (of_z w64 share.left) ≡ share.left = search rules in
    pushed_last c.push_str-2.result c.add_rate.new.text _ _ _ c.push_str-2.ensures.bytes (λ last.
    (and_then c.args.text.now c.add_percent.new.text _ _ _ (said c.args.text.now _ _ _ (ap (percent_words share.reservable) left) c.in_ok-add_percent.ensures)
    (and_then c.add_percent.new.text c.push_str.new.self _ _ _ c.in_ok-push_str.ensures.bytes
    (and_then c.push_str.new.self c.add_rate.new.text _ _ _ (said c.push_str.new.self _ _ _ (ap rate_words left) c.in_ok-add_rate.ensures) last))))
