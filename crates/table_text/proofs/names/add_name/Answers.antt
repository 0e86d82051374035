use Rattle.std.proofs.Common.{sym}
use Rattle.table_text.proofs.Named.{as_bytes, as_text}
use Rattle.table_text.proofs.names.add_name.Goals as goal

pub returns-in-Ok : goal.returns-in-Ok
returns-in-Ok c = rw (as_text c.args.name.now c.in-Ok.ensures.cases.1, sym c.in-Ok.ensures.cases.0) c.add_text.ensures

pub returns-in-Err : goal.returns-in-Err
returns-in-Err c = rw (as_bytes c.args.name.now c.in-Err.ensures.cases.0) c.add_bytes.ensures
