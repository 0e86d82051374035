use Rattle.std.proofs.Common.{ap, codes}
use Rattle.watch_board.specs.Boards.{board_words, table}
use Rattle.watch_board.proofs.Adding.{added_last, and_then, said}
use Rattle.watch_board.proofs.board.Board.add_rows.Goals as goal

pub returns : goal.returns
unfolding board_words
returns c = added_last c.add_table-4.result c.add_table-3.new.text _ _ _ c.add_table-4.ensures (λ last.
    (and_then c.args.rows.now c.push_str.new.self _ _ _ (said c.args.rows.now _ _ _ c.deref.ensures c.in_ok-push_str.ensures.bytes)
    (and_then c.push_str.new.self c.add_states.new.text _ _ _ c.in_ok-add_states.ensures
    (and_then c.add_states.new.text c.push_str-2.new.self _ _ _ c.in_ok-push_str-2.ensures.bytes
    (and_then c.push_str-2.new.self c.add_table.new.text _ _ _ (said c.push_str-2.new.self _ _ _ (ap (table (codes "LINK\tFROM\tTO\tLOCAL\tRESERVED\tUNRESERVED\n")) c.deref-2.ensures) c.in_ok-add_table.ensures)
    (and_then c.add_table.new.text c.add_table-2.new.text _ _ _ (said c.add_table.new.text _ _ _ (ap (table (codes "\nPEER\tSTATE\tSINCE\tLSPS\tDELEGATED\tLAST END\n")) c.deref-3.ensures) c.in_ok-add_table-2.ensures)
    (and_then c.add_table-2.new.text c.add_table-3.new.text _ _ _ (said c.add_table-2.new.text _ _ _ (ap (table (codes "\nPEER\tSRP\tLSP\tUNANSWERED\tLINKS\n")) c.deref-4.ensures) c.in_ok-add_table-3.ensures) (said c.add_table-3.new.text _ _ _ (ap (table (codes "\nSTEP\tEVENT\tPEER\tREPLY\n")) c.deref-5.ensures) last))))))))
