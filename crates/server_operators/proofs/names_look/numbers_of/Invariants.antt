use Rattle.std.proofs.Common.{◌≡◌, map, take}
use Rattle.server_operators.proofs.names_look.numbers_of.Given as goal

abbrev pub invariant-loop-peer : goal.invariant-loop-peer
invariant-loop-peer l = l.numbers.items ≡ map (λ p. p.number) (take l.peer-index l.peers)
