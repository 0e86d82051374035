use Rattle.history_core.proofs.Rolling.{read_at}
use Rattle.history_core.proofs.database.Database.over.Goals as goal

pub returns-in_ok-begun-in-Some-clause-begins : goal.returns-in_ok-begun-in-Some-clause-begins
returns-in_ok-begun-in-Some-clause-begins c = record {
  stands = rw c.in-Some.is at c.in_ok-state.ensures.stands;
  counted = c.is_counted.ensures.0 c.if-not-is_counted.false;
}

pub begun-requires : goal.begun-requires
begun-requires c = record {
  starts = read_at c.args.te c.args.base c.in-Some.state c.args.steps c.args.grants (rw c.in-Some.is at c.in_ok-state.ensures.made) (rw c.in-Some.is at c.in_ok-state.ensures.stands) (c.is_counted.ensures.0 c.if-not-is_counted.false);
}
