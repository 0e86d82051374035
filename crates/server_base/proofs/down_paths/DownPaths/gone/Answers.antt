use Rattle.server_base.proofs.down_paths.DownPaths.gone.Goals as goal

pub returns : goal.returns
returns c = λ q. c.swap_remove-down.ensures.updates.0 q
