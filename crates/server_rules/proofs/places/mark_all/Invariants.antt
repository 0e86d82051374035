use Rattle.std.proofs.Common.{◌≡◌, ◌++◌, map, take, drop}
use Rattle.server_rules.specs.Placings.{marked}
use Rattle.server_rules.proofs.places.mark_all.Given as goal

abbrev pub invariant-loop-connection : goal.invariant-loop-connection
invariant-loop-connection l =
    l.connection-items ≡ map (marked l.slot l.is_up) (take l.connection-index l.fn.taken.items) ++ drop l.connection-index l.fn.taken.items
