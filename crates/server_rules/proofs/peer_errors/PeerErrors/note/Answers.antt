use Rattle.std.proofs.Common.{sym, subst, ap, OnOk}
use Rattle.server_rules.specs.declared.peer_errors.PcErrHappening.{PcErrHappening}
use Rattle.server_rules.specs.PcErrs.{Adds, forgets}
use Rattle.server_rules.proofs.peer_errors.PeerErrors.note.Goals as goal

pub returns-in-Sent-clause-ok : goal.returns-in-Sent-clause-ok
returns-in-Sent-clause-ok c = subst (λ (what : PcErrHappening). OnOk c.sent.result (Adds c.args.self.now c.sent.new.self what)) (sym c.in-Sent.is) c.sent.ensures.ok

pub returns-in-LspRemoved-clause-ok : goal.returns-in-LspRemoved-clause-ok
returns-in-LspRemoved-clause-ok c = subst (λ (what : PcErrHappening). Adds c.args.self.now c.remove.new.self what) (sym c.in-LspRemoved.is) c.remove.ensures

pub returns-in-Up-clause-ok : goal.returns-in-Up-clause-ok
returns-in-Up-clause-ok c = c.forget.ensures c.args.what (ap forgets c.in-Up.is)

pub returns-in-Expired-clause-ok : goal.returns-in-Expired-clause-ok
returns-in-Expired-clause-ok c = c.forget-in-Expired.ensures c.args.what (ap forgets c.in-Expired.is)
