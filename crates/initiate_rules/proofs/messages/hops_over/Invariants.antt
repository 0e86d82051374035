use Rattle.std.proofs.Common.{◌≡◌, take}
use Rattle.initiate_rules.specs.Messages.{hops_over}
use Rattle.initiate_rules.proofs.messages.hops_over.Given as goal

abbrev pub invariant-loop-number : goal.invariant-loop-number
invariant-loop-number l = l.hops.items ≡ hops_over l.te.links (take l.number-index l.numbers)
