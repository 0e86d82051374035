use Rattle.std.proofs.Common.{rules, sym}
use Rattle.journal_replay.proofs.Expecting.{none_left}
use Rattle.journal_replay.proofs.expected.ExpectedBase.is_done.Goals as goal

pub returns : goal.returns
returns c = none_left c.self.inside.text.items c.args.self.now c.self.inside.taken c.len.result (sym c.self.view_is) c.self.invariant (search rules)
