use Rattle.std.proofs.Common.{◌≡◌, map, take}
use Rattle.database_looks.specs.Moves.{own_of}
use Rattle.database_looks.proofs.moves.own_of_each.Given as goal

abbrev pub invariant-loop-lsp : goal.invariant-loop-lsp
invariant-loop-lsp l = l.own.items ≡ map (own_of l.state) (take l.lsp-index l.lsps)
