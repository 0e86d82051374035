use Rattle.std.proofs.Common.{sym}
use Rattle.step_core.proofs.state.Tables.is_number_used.Goals as goal

pub returns-then-are_free : goal.returns-then-are_free
returns-then-are_free c = sym ((c.requires c.if-are_free.true).free c.args.peer)
