use Rattle.std.proofs.Common.{option_map, string_bytes}
use Rattle.server_talk.specs.Servers.{server_of}
use Rattle.server_talk.proofs.Operating.{line_said, end_taken}
use Rattle.server_talk.proofs.operator.take_line.Goals as goal

pub returns-then-asks_end-clause-taken : goal.returns-then-asks_end-clause-taken
returns-then-asks_end-clause-taken g c = λ start lines blank text kept number t.
    end_taken (server_of g.D.Store g.D.ServerStore.is_left g.D.Show.has_links g.D.Show.names g.D.Show.shows g.P.Plan.reads c.args.plan.now) c.answer_line-came.result.0 start c.args.store.now c.answer_line-came.new.store c.forget.new.self lines blank (g.O.Write.contents c.args.writer.now) text (c.asks_end.ensures.end c.if-asks_end.true)
    (λ said s. c.answer_line-came.ensures start lines said text kept s) c.forget.ensures.same t

pub returns-clause-taken : goal.returns-clause-taken
returns-clause-taken g c = λ start lines blank text kept number t.
    line_said (server_of g.D.Store g.D.ServerStore.is_left g.D.Show.has_links g.D.Show.names g.D.Show.shows g.P.Plan.reads c.args.plan.now) c.answer_line-came.result.0 c.say_at_once.result c.args.line.now.number start c.args.store.now c.answer_line-came.new.store c.forget.new.self lines blank (g.O.Write.contents c.args.writer.now) (g.O.Write.contents c.say_at_once.new.writer) text (c.asks_end.ensures.other c.if-asks_end.false) number
    (λ said s. c.answer_line-came.ensures start lines said text kept s) c.forget.ensures.same (option_map (λ said. string_bytes said) c.note_for-note.result) (c.note_for-note.ensures text kept) c.say_at_once.ensures t
