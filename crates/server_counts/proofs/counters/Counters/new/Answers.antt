use Rattle.server_counts.proofs.counters.Counters.new.Goals as goal

pub returns : goal.returns
returns c = rw (c.new.ensures, c.new-2.ensures, c.new-3.ensures)
