use Rattle.std.proofs.Common.{◌≡◌, ◌<◌, true, List}
use Rattle.engine_core.specs.Deeds.{Deed}
use Rattle.server_talk.specs.Goings.{Goes}
use Rattle.server_talk.proofs.talk.leave.Given as goal

abbrev pub invariant-loop-try : goal.invariant-loop-try
invariant-loop-try g l = record {
  goes : (start : g.row.D.Denot) (calls : List Deed) → Goes g.D.Store start calls l.fn.store → Goes g.D.Store start calls l.store;
  peer : l.talk.peer ≡ l.fn.talk.peer;
  client : l.talk.client ≡ l.fn.talk.client;
  joined : 0 < l._try → l.fn.talk.client.joined ≡ true;
}
