use Rattle.std.proofs.Common.{[], refl, arith}
use Rattle.std.proofs.lemmas.List.Elements.{All-nil}
use Rattle.std.proofs.KnownBytes.{Consumes-nil, Consumes-kept}
use Rattle.server_talk.specs.Goings.Goes.{Stays}
use Rattle.server_talk.specs.Operators.{IsOperators}
use Rattle.server_talk.specs.Servers.{server_of}
use Rattle.server_talk.proofs.Operating.{begun, calls_of}
use Rattle.server_talk.proofs.operator.operate.Goals as goal

pub returns-in_err-with_capacity-clause-by_operators : goal.returns-in_err-with_capacity-clause-by_operators
returns-in_err-with_capacity-clause-by_operators g c =
    ([], All-nil IsOperators, Stays)

pub loop-init : goal.loop-init
loop-init g c = record {
  empty = λ none. none;
  so_far = (
    [],
    Consumes-kept (g.I.Read.remaining c.args.reader.now) (g.I.Read.remaining c.args.reader.now) (g.I.Read.remaining c.set_timeout.new.self) [] (Consumes-nil (g.I.Read.remaining c.args.reader.now)) c.set_timeout.ensures.kept,
    begun (server_of g.D.Store g.D.ServerStore.is_left g.D.Show.has_links g.D.Show.names g.D.Show.shows g.P.Plan.reads c.args.plan.now) c.args.store.now (g.O.Write.contents c.args.writer.now) _ record { room = omega (arith, c.in_ok-with_capacity.ensures.capacity); kept = (c.in_ok-with_capacity.ensures.items, omega arith) } refl,
  );
}

pub returns-in-Some-turn-clause-by_operators : goal.returns-in-Some-turn-clause-by_operators
returns-in-Some-turn-clause-by_operators g c =
    calls_of (server_of g.D.Store g.D.ServerStore.is_left g.D.Show.has_links g.D.Show.names g.D.Show.shows g.P.Plan.reads c.args.plan.now) c.args.store.now c.turn.new.store (g.I.Read.remaining c.args.reader.now) (g.O.Write.contents c.args.writer.now) (g.I.Read.remaining c.turn.new.reader) (g.O.Write.contents c.turn.new.writer) c.in-Some-turn.end (g.W.Watch.may_close c.args.watch.now)
    (c.in-Some-turn.ensures.turned c.args.store.now (g.I.Read.remaining c.args.reader.now) (g.O.Write.contents c.args.writer.now) c.loop.invariant.so_far.0 c.loop.invariant.so_far.1 c.loop.invariant.so_far.2)

pub loop-preserved : goal.loop-preserved
loop-preserved g c = record {
  empty = λ none. c.turn.ensures.empty (c.loop.invariant.empty none);
  so_far = c.in-None-turn.ensures.turned c.args.store.now (g.I.Read.remaining c.args.reader.now) (g.O.Write.contents c.args.writer.now) c.loop.invariant.so_far.0 c.loop.invariant.so_far.1 c.loop.invariant.so_far.2;
}
