use Rattle.std.proofs.Common.{◌≡◌, take}
use Rattle.delegate_rules.specs.Refusals.{records_ended}
use Rattle.delegate_rules.proofs.refusals.records_ended.Given as goal

abbrev pub invariant-loop-grant : goal.invariant-loop-grant
invariant-loop-grant l = l.changes.items ≡ records_ended l.base.content l.peer l.srp (take l.grant-index l.grants)
