use Rattle.std.proofs.Common.{string_bytes, Ok, None, Some, sym, ap}
use Rattle.script_lines.specs.LineAnswer.{line_answer}
use Rattle.script_lines.specs.declared.orders.Order.TheVariants.{Report, Open, Up, Bytes, End, Tick, Submit, Roll}
use Rattle.pce_engine.specs.Standing.{obeyed}
use Rattle.pce_engine.proofs.Searching.{no_search, of_database, of_taken}
use Rattle.pce_engine.proofs.standing.Standing.obey.Goals as goal

pub returns-in-Report : goal.returns-in-Report
unfolding obeyed
returns-in-Report c =
    let order = Report c.in-Report.peer c.in-Report.reports in
    rw c.in-Report.is
    (no_search string_bytes c.report_line.result (Some order) (λ answer. obeyed answer order c.args.self.now) c.args.self.now (record c.args.self.now { database = c.report_line.new.database }) tt
    (of_database string_bytes c.report_line.result _ c.args.self.now c.report_line.new.database c.report_line.ensures))

pub returns-in_ok-book_text-in-Book : goal.returns-in_ok-book_text-in-Book
unfolding obeyed
returns-in_ok-book_text-in-Book c = rw c.in-Book.is (None, tt, ap (λ text. Ok (line_answer text c.args.self.now)) (sym c.in_ok-book_text-in-Book.ensures))

pub returns-in_ok-history_text-in-History : goal.returns-in_ok-history_text-in-History
unfolding obeyed
returns-in_ok-history_text-in-History c = rw c.in-History.is (None, tt, ap (λ text. Ok (line_answer text c.args.self.now)) (sym c.in_ok-history_text-in-History.ensures))

pub returns-in-Open : goal.returns-in-Open
unfolding obeyed
returns-in-Open c =
    let order = Open c.in-Open.peer in
    rw c.in-Open.is (no_search string_bytes c.open_line.result (Some order) (λ answer. obeyed answer order c.args.self.now) c.args.self.now c.open_line.new.standing tt c.open_line.ensures)

pub returns-in-Up : goal.returns-in-Up
unfolding obeyed
returns-in-Up c =
    let order = Up c.in-Up.peer in
    rw c.in-Up.is (no_search string_bytes c.up_line.result (Some order) (λ answer. obeyed answer order c.args.self.now) c.args.self.now c.up_line.new.standing tt c.up_line.ensures)

pub returns-in-Bytes : goal.returns-in-Bytes
unfolding obeyed
returns-in-Bytes c =
    let order = Bytes c.in-Bytes.peer c.in-Bytes.piece in
    rw c.in-Bytes.is (no_search string_bytes c.message_line.result (Some order) (λ answer. obeyed answer order c.args.self.now) c.args.self.now c.message_line.new.standing tt (rw c.as_slice.ensures at c.message_line.ensures))

pub returns-in-End : goal.returns-in-End
unfolding obeyed
returns-in-End c =
    let order = End c.in-End.peer in
    rw c.in-End.is (no_search string_bytes c.end_line.result (Some order) (λ answer. obeyed answer order c.args.self.now) c.args.self.now c.end_line.new.standing tt c.end_line.ensures)

pub returns-in-Tick : goal.returns-in-Tick
unfolding obeyed
returns-in-Tick c =
    let order = Tick c.in-Tick.now_ms in
    rw c.in-Tick.is (no_search string_bytes c.tick_line.result (Some order) (λ answer. obeyed answer order c.args.self.now) c.args.self.now c.tick_line.new.standing tt c.tick_line.ensures)

pub returns-in-Submit : goal.returns-in-Submit
unfolding obeyed
returns-in-Submit c =
    let order = Submit c.in-Submit.event in
    rw c.in-Submit.is (no_search string_bytes c.operator_line.result (Some order) (λ answer. obeyed answer order c.args.self.now) c.args.self.now c.operator_line.new.standing tt c.operator_line.ensures)

pub returns-in-Take : goal.returns-in-Take
returns-in-Take c = rw c.in-Take.is (of_taken string_bytes c.take_line.result c.args.self.now c.take_line.new.database c.take_line.ensures)

pub returns-in-Roll : goal.returns-in-Roll
unfolding obeyed
returns-in-Roll c =
    rw c.in-Roll.is
    (no_search string_bytes c.roll_line.result (Some Roll) (λ answer. obeyed answer Roll c.args.self.now) c.args.self.now (record c.args.self.now { database = c.roll_line.new.database }) tt
    (of_database string_bytes c.roll_line.result _ c.args.self.now c.roll_line.new.database c.roll_line.ensures))
