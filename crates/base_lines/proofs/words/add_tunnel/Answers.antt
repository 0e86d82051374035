use Rattle.base_lines.proofs.words.add_tunnel.Goals as goal

pub returns-in-Unsignalled : goal.returns-in-Unsignalled
returns-in-Unsignalled c = rw (c.in-Unsignalled.is, ← c.number.ensures.number) c.add_numbered.ensures
