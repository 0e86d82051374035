use Rattle.std.proofs.Common.{arith}
use Rattle.server_rules.proofs.Downs.{first_of_all}
use Rattle.server_rules.proofs.expiry.Expiry.first_down.Goals as goal

pub returns : goal.returns
returns c = first_of_all c.args.self.now c.args.holders.now c.loop-at.at c.loop-at.first (omega arith) c.loop-at.invariant
