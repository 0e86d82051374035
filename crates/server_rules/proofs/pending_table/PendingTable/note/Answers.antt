use Rattle.std.proofs.Common.{sym, subst, OnOk}
use Rattle.server_rules.specs.declared.pending.PendingHappening.{PendingHappening}
use Rattle.server_rules.specs.Pendings.{Adds}
use Rattle.server_rules.proofs.pending_table.PendingTable.note.Goals as goal

pub returns-in-Made-clause-ok : goal.returns-in-Made-clause-ok
returns-in-Made-clause-ok c = subst (λ (what : PendingHappening). OnOk c.made.result (Adds c.args.self.now c.made.new.self what)) (sym c.in-Made.is) c.made.ensures.ok

pub returns-in-Up-clause-ok : goal.returns-in-Up-clause-ok
returns-in-Up-clause-ok c = subst (λ (what : PendingHappening). OnOk c.up.result (Adds c.args.self.now c.up.new.self what)) (sym c.in-Up.is) c.up.ensures.ok
