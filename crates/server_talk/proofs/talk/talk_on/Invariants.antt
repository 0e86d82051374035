use Rattle.std.proofs.Common.{◌≡◌, ℕ, false, [], List, Option, None}
use Rattle.pcep_session.specs.Turns.{is_closed}
use Rattle.server_talk.specs.Connections.{SoFar}
use Rattle.server_talk.specs.Watches.{watch_of}
use Rattle.server_talk.proofs.talk.talk_on.Given as goal

abbrev pub invariant-loop : goal.invariant-loop
invariant-loop g l = record {
  open_ : is_closed l.talk.client.session.state ≡ false;
  silent : l.talk.client.session.output ≡ [];
  peer : l.talk.peer ≡ l.fn.talk.peer;
  so_far : (start : g.row.D.Denot) (unread blank : Option (List ℕ))
      → SoFar g.D.Store (watch_of g.W.Watch l.watch) l.fn.talk.peer start unread blank None l.fn.store (g.I.Read.remaining l.fn.reader) (g.O.Write.contents l.fn.writer) l.fn.talk.served_ms l.fn.talk.client
      → SoFar g.D.Store (watch_of g.W.Watch l.watch) l.fn.talk.peer start unread blank None l.store (g.I.Read.remaining l.reader) (g.O.Write.contents l.writer) l.talk.served_ms l.talk.client;
}
