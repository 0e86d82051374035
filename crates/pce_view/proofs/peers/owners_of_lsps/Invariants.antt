use Rattle.std.proofs.Common.{◌≡◌, map, take}
use Rattle.pce_view.specs.Peers.{owner_of_lsp}
use Rattle.pce_view.proofs.peers.owners_of_lsps.Given as goal

abbrev pub invariant-loop-known : goal.invariant-loop-known
invariant-loop-known l = l.seen.items ≡ map owner_of_lsp (take l.known-index l.records)
