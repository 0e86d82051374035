use Rattle.std.proofs.Common.{◌++◌, option_map, string_bytes}
use Rattle.server_talk.specs.Listening.{said_of}
use Rattle.server_talk.specs.Notes.{note_text}
use Rattle.server_talk.proofs.Flowing.{appends_kept}
use Rattle.server_talk.proofs.operator.say_at_once.Goals as goal

pub returns-in-Ok : goal.returns-in-Ok
returns-in-Ok g c =
    appends_kept (g.O.Write.contents c.args.writer.now) (g.O.Write.contents c.say_all.new.writer) (g.O.Write.contents c.flush.new.self) (said_of c.args.number c.args.answer.now ++ note_text (option_map (λ said. string_bytes said) c.args.note.now)) c.if-not-say_all.ensures c.flush.ensures.bytes

pub returns-in-Err : goal.returns-in-Err
returns-in-Err g c =
    appends_kept (g.O.Write.contents c.args.writer.now) (g.O.Write.contents c.say_all.new.writer) (g.O.Write.contents c.flush.new.self) (said_of c.args.number c.args.answer.now ++ note_text (option_map (λ said. string_bytes said) c.args.note.now)) c.if-not-say_all.ensures c.flush.ensures.bytes
