use Rattle.std.proofs.Common.{◌≡◌, take}
use Rattle.std.specs.List.{filter_map}
use Rattle.server_rules.specs.Retries.{due_of}
use Rattle.server_rules.proofs.retry_table.RetryTable.all_due.Given as goal

abbrev pub invariant-loop-at : goal.invariant-loop-at
invariant-loop-at l = l.due.items ≡ filter_map (due_of l.now_ms l.retry_ms) (take l.at l.self.lsps.entries)
