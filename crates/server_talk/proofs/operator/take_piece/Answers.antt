use Rattle.std.proofs.Common.{◌≤◌, ℕ, ◌+◌, List, [], ◌∷◌, ◌++◌, length, get_or, take, drop, subst, arith}
use Rattle.std.proofs.lemmas.List.{take_all}
use Rattle.server_talk.specs.Listening.{SoFar, Stopped}
use Rattle.server_talk.specs.Servers.{server_of}
use Rattle.server_talk.proofs.Operating.{whole_piece, longer_front, stopped_before}
use Rattle.server_talk.proofs.operator.take_piece.Goals as goal

pub returns-in-Some-clause-taken : goal.returns-in-Some-clause-taken
returns-in-Some-clause-taken g c = λ start blank heard s.
    let i = c.loop-byte.byte-index in
    let piece = c.args.piece.now in
    let front = heard ++ take i piece in
    subst (λ (all : List ℕ). Stopped (server_of g.D.Store g.D.ServerStore.is_left g.D.Show.has_links g.D.Show.names g.D.Show.shows g.P.Plan.reads c.args.plan.now) c.in-Some.end start blank all c.take_byte.new.store (g.O.Write.contents c.take_byte.new.writer)) (whole_piece heard piece i c.loop-byte-test.true)
    (stopped_before (server_of g.D.Store g.D.ServerStore.is_left g.D.Show.has_links g.D.Show.names g.D.Show.shows g.P.Plan.reads c.args.plan.now) c.in-Some.end start c.take_byte.new.store blank (g.O.Write.contents c.take_byte.new.writer) (front ++ get_or piece i 0 ∷ []) (drop (i + 1) piece)
    (c.in-Some.ensures.taken start blank front (c.loop-byte.invariant.taken start blank heard s)))

pub loop-byte-preserved : goal.loop-byte-preserved
loop-byte-preserved g c = record {
  empty = λ none. c.take_byte.ensures.empty (c.loop-byte.invariant.empty none);
  taken = λ start blank heard s.
      let i = c.loop-byte.byte-index in
      let piece = c.args.piece.now in
      subst (λ (all : List ℕ). SoFar (server_of g.D.Store g.D.ServerStore.is_left g.D.Show.has_links g.D.Show.names g.D.Show.shows g.P.Plan.reads c.args.plan.now) start blank all c.take_byte.new.pending c.take_byte.new.store (g.O.Write.contents c.take_byte.new.writer)) (longer_front heard piece i c.loop-byte-test.true)
      (c.in-None.ensures.taken start blank (heard ++ take i piece) (c.loop-byte.invariant.taken start blank heard s));
}

pub returns-clause-taken : goal.returns-clause-taken
returns-clause-taken g c = λ start blank heard s.
    let i = c.loop-byte.byte-index in
    let piece = c.args.piece.now in
    let done : length piece ≤ i = omega (arith, c.loop-byte-test.false) in
    subst (λ (all : List ℕ). SoFar (server_of g.D.Store g.D.ServerStore.is_left g.D.Show.has_links g.D.Show.names g.D.Show.shows g.P.Plan.reads c.args.plan.now) start blank (heard ++ all) c.loop-byte.pending c.loop-byte.store (g.O.Write.contents c.loop-byte.writer)) (take_all i piece done) (c.loop-byte.invariant.taken start blank heard s)
