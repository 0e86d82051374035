use Rattle.shared_pce.proofs.shared.Shared.due_at.Goals as goal

pub returns : goal.returns
returns g c = (c.bytes-unfolded.result, c.beside.ensures)
