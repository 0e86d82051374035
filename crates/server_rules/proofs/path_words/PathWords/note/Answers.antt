use Rattle.std.proofs.Common.{sym, subst, OnOk}
use Rattle.server_rules.specs.declared.path_word.PathHappening.{PathHappening}
use Rattle.server_rules.specs.PathWords.{Adds}
use Rattle.server_rules.proofs.path_words.PathWords.note.Goals as goal

pub returns-in-Reported-clause-ok : goal.returns-in-Reported-clause-ok
returns-in-Reported-clause-ok c = subst (λ (what : PathHappening). OnOk c.report.result (Adds c.args.self.now c.report.new.self what)) (sym c.in-Reported.is) c.report.ensures.ok

pub returns-in-PathRemoved-clause-ok : goal.returns-in-PathRemoved-clause-ok
returns-in-PathRemoved-clause-ok c = subst (λ (what : PathHappening). Adds c.args.self.now c.remove.new.self what) (sym c.in-PathRemoved.is) c.remove.ensures
