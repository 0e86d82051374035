use Rattle.std.proofs.Common.{ℕ, List, ◌++◌, codes, subst}
use Rattle.server_talk.specs.Connections.{TakesAll}
use Rattle.server_talk.proofs.Flowing.{first_fails, first_goes_out}
use Rattle.server_talk.proofs.operator.write_pair.Goals as goal

pub returns-then-not-write : goal.returns-then-not-write
returns-then-not-write g c =
    first_fails c.write.result (g.O.Write.contents c.args.writer.now) (g.O.Write.contents c.write.new.writer) c.args.first.now (c.args.second.now ++ codes "\n") c.if-not-write.true
    (subst (λ (bytes : List ℕ). TakesAll c.write.result (g.O.Write.contents c.args.writer.now) (g.O.Write.contents c.write.new.writer) bytes) c.as_bytes.ensures.value c.write.ensures)

pub returns : goal.returns
returns g c =
    first_goes_out c.write.result c.write_line.result (g.O.Write.contents c.args.writer.now) (g.O.Write.contents c.write.new.writer) (g.O.Write.contents c.write_line.new.writer) c.args.first.now (c.args.second.now ++ codes "\n") c.if-not-write.false
    (subst (λ (bytes : List ℕ). TakesAll c.write.result (g.O.Write.contents c.args.writer.now) (g.O.Write.contents c.write.new.writer) bytes) c.as_bytes.ensures.value c.write.ensures)
    c.write_line.ensures
