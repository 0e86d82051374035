use Rattle.server_rules.proofs.Downs.{IsFirstOf}
use Rattle.server_rules.proofs.expiry.Expiry.first_down.Given as goal

abbrev pub invariant-loop-at : goal.invariant-loop-at
invariant-loop-at l = IsFirstOf l.self l.holders l.at l.first
