use Rattle.std.proofs.Common.{option_map, string_bytes}
use Rattle.server_talk.specs.Listening.{said_of}
use Rattle.server_talk.specs.Notes.{note_text}
use Rattle.server_talk.proofs.Flowing.{first_fails, first_goes_out}
use Rattle.server_talk.proofs.operator.say_all.Goals as goal

pub returns-then-not-say : goal.returns-then-not-say
returns-then-not-say g c =
    first_fails c.say.result (g.O.Write.contents c.args.writer.now) (g.O.Write.contents c.say.new.writer) (said_of c.args.number c.args.answer.now) (note_text (option_map (λ said. string_bytes said) c.args.note.now)) c.if-not-say.true c.say.ensures

pub returns : goal.returns
returns g c =
    first_goes_out c.say.result c.write_note.result (g.O.Write.contents c.args.writer.now) (g.O.Write.contents c.say.new.writer) (g.O.Write.contents c.write_note.new.writer) (said_of c.args.number c.args.answer.now) (note_text (option_map (λ said. string_bytes said) c.args.note.now)) c.if-not-say.false
    c.say.ensures c.write_note.ensures
