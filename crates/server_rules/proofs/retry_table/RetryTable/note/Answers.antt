use Rattle.std.proofs.Common.{sym}
use Rattle.server_rules.proofs.retry_table.RetryTable.note.Goals as goal

pub returns-in-Router-clause-ok : goal.returns-in-Router-clause-ok
returns-in-Router-clause-ok c = c.forget.ensures c.args.what (sym c.in-Router.ensures)

pub returns-in-All-clause-ok : goal.returns-in-All-clause-ok
returns-in-All-clause-ok c = c.begin_anew.ensures c.args.what (sym c.in-All.ensures)
