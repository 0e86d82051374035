use Rattle.std.proofs.Common.{rules}
use Rattle.step_core.proofs.OtherTickets.{found_by_own}
use Rattle.step_core.proofs.state.Tables.commit.Goals as goal

pub conclude-requires-clause-there : goal.conclude-requires-clause-there
conclude-requires-clause-there c = found_by_own c.args.id c.args.self.now.tickets c.in_ok-ticket.ticket (search rules)
