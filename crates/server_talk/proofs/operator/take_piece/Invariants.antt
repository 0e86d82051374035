use Rattle.std.proofs.Common.{◌≡◌, ℕ, [], ◌++◌, List, Option, take}
use Rattle.server_talk.specs.Listening.{SoFar}
use Rattle.server_talk.specs.Servers.{server_of}
use Rattle.server_talk.proofs.operator.take_piece.Given as goal

abbrev pub invariant-loop-byte : goal.invariant-loop-byte
invariant-loop-byte g l = record {
  empty : g.D.Store.calls l.fn.store ≡ [] → g.D.Store.calls l.store ≡ [];
  taken : (start : g.row.D.Denot) (blank : Option (List ℕ)) (heard : List ℕ)
      → SoFar (server_of g.D.Store g.D.ServerStore.is_left g.D.Show.has_links g.D.Show.names g.D.Show.shows g.P.Plan.reads l.plan) start blank heard l.fn.pending l.fn.store (g.O.Write.contents l.fn.writer)
      → SoFar (server_of g.D.Store g.D.ServerStore.is_left g.D.Show.has_links g.D.Show.names g.D.Show.shows g.P.Plan.reads l.plan) start blank (heard ++ take l.byte-index l.piece) l.pending l.store (g.O.Write.contents l.writer);
}
