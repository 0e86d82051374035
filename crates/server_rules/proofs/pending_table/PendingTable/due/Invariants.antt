use Rattle.std.proofs.Common.{◌≡◌, take}
use Rattle.std.specs.List.{filter_map}
use Rattle.server_rules.specs.Pendings.{due_of}
use Rattle.server_rules.proofs.pending_table.PendingTable.due.Given as goal

abbrev pub invariant-loop-at : goal.invariant-loop-at
invariant-loop-at l = l.due.items ≡ filter_map (due_of l.self l.now_ms l.answer_ms) (take l.at l.self.pending.entries)
