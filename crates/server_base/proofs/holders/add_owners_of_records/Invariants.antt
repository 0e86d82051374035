use Rattle.std.proofs.Common.{◌≡◌, ◌++◌, map, take}
use Rattle.server_base.proofs.holders.add_owners_of_records.Given as goal

abbrev pub invariant-loop-known : goal.invariant-loop-known
invariant-loop-known l = l.holders.items ≡ l.fn.holders.items ++ map (λ r. r.peer) (take l.known-index l.records)
