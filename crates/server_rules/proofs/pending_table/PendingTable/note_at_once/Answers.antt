use Rattle.std.proofs.Common.{refl, sym, subst}
use Rattle.server_rules.specs.declared.pending.PendingHappening.{PendingHappening}
use Rattle.server_rules.specs.Pendings.{Adds}
use Rattle.server_rules.proofs.pending_table.PendingTable.note_at_once.Goals as goal

pub returns-in-Named : goal.returns-in-Named
returns-in-Named c = subst (λ (what : PendingHappening). Adds c.args.self.now c.named.new.self what) (sym c.in-Named.is) (c.named.ensures)

pub returns-in-Covered : goal.returns-in-Covered
returns-in-Covered c = subst (λ (what : PendingHappening). Adds c.args.self.now c.cover.new.self what) (sym c.in-Covered.is) (c.cover.ensures.covered refl)

pub returns-in-Uncovered : goal.returns-in-Uncovered
returns-in-Uncovered c = subst (λ (what : PendingHappening). Adds c.args.self.now c.cover-in-Uncovered.new.self what) (sym c.in-Uncovered.is) (c.cover-in-Uncovered.ensures.uncovered refl)

pub returns-in-Gone : goal.returns-in-Gone
returns-in-Gone c = subst (λ (what : PendingHappening). Adds c.args.self.now c.gone.new.self what) (sym c.in-Gone.is) (c.gone.ensures)

pub returns-in-Down : goal.returns-in-Down
returns-in-Down c = subst (λ (what : PendingHappening). Adds c.args.self.now c.down.new.self what) (sym c.in-Down.is) (c.down.ensures)

pub returns-in-SyncEnded : goal.returns-in-SyncEnded
returns-in-SyncEnded c = subst (λ (what : PendingHappening). Adds c.args.self.now c.sync_ended.new.self what) (sym c.in-SyncEnded.is) (c.sync_ended.ensures)

pub returns-in-Expired : goal.returns-in-Expired
returns-in-Expired c = subst (λ (what : PendingHappening). Adds c.args.self.now c.expired.new.self what) (sym c.in-Expired.is) (c.expired.ensures)
