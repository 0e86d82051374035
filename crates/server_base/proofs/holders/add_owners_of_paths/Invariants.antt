use Rattle.std.proofs.Common.{◌≡◌, ◌++◌, map, take}
use Rattle.server_base.proofs.holders.add_owners_of_paths.Given as goal

abbrev pub invariant-loop-path : goal.invariant-loop-path
invariant-loop-path l = l.holders.items ≡ l.fn.holders.items ++ map (λ x. x.peer) (take l.path-index l.paths)
