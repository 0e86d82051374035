use Rattle.std.proofs.Common.{◌≡◌, ℕ, [], List}
use Rattle.std.specs.Io.KnownBytes.{Consumes}
use Rattle.server_talk.specs.Listening.{SoFar}
use Rattle.server_talk.specs.Servers.{server_of}
use Rattle.server_talk.proofs.operator.operate.Given as goal

abbrev pub invariant-loop : goal.invariant-loop
invariant-loop g l = record {
  empty : g.D.Store.calls l.fn.store ≡ [] → g.D.Store.calls l.store ≡ [];
  so_far : (heard : List ℕ) × Consumes (g.I.Read.remaining l.fn.reader) (g.I.Read.remaining l.reader) heard
      × SoFar (server_of g.D.Store g.D.ServerStore.is_left g.D.Show.has_links g.D.Show.names g.D.Show.shows g.P.Plan.reads l.plan) l.fn.store (g.O.Write.contents l.fn.writer) heard l.pending l.store (g.O.Write.contents l.writer);
}
