use Rattle.std.proofs.Common.{rules}
use Rattle.step_core.proofs.AskTests.{refused_ends_reply}
use Rattle.step_core.proofs.state.Tables.ask.Goals as goal

pub returns-in-Some-why_no_ends-clause-reply : goal.returns-in-Some-why_no_ends-clause-reply
returns-in-Some-why_no_ends-clause-reply c = refused_ends_reply c.args.self.now c.args.peer c.args.purpose.now c.in-Some-constraints_for.constraints c.in-Some-why_no_ends.why (search rules) (search rules) (search rules)
