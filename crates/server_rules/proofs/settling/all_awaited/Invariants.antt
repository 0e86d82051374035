use Rattle.std.proofs.Common.{◌≡◌, [], map, take}
use Rattle.server_rules.specs.Settled.{awaited_after}
use Rattle.server_rules.proofs.settling.all_awaited.Given as goal

abbrev pub invariant-loop-address : goal.invariant-loop-address
invariant-loop-address l = l.routers.items ≡ map (awaited_after []) (take l.address-index l.named)
