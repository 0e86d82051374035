use Rattle.std.proofs.Common.{sym}
use Rattle.pce_view.proofs.Names.{as_null, as_text}
use Rattle.pce_view.proofs.fields.put_name.Goals as goal

pub returns-in-Ok-clause-written : goal.returns-in-Ok-clause-written
returns-in-Ok-clause-written c = rw (as_text c.args.bytes.now c.in-Ok.ensures.cases.1, sym c.in-Ok.ensures.cases.0) c.string.ensures.ok

pub returns-in-Err-clause-written : goal.returns-in-Err-clause-written
returns-in-Err-clause-written c = rw (as_null c.args.bytes.now c.in-Err.ensures.cases.0) c.null.ensures.ok
