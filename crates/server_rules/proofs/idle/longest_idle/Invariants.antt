use Rattle.std.specs.Prelude.{nat_lt}
use Rattle.std.specs.List.{IsFirstBest}
use Rattle.server_rules.proofs.idle.longest_idle.Given as goal

abbrev pub invariant-loop-at : goal.invariant-loop-at
invariant-loop-at l = IsFirstBest nat_lt l.since_ms l.at l.first
