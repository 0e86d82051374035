use Rattle.std.proofs.Common.{List, ◌++◌, sym, ◌∙◌, ap, arith}
use Rattle.engine_core.specs.declared.client.Client.{Client}
use Rattle.engine_core.specs.Deeds.{calls_of}
use Rattle.engine_core.specs.declared.store.Call.{Call}
use Rattle.server_talk.specs.Goings.Goes.{Moves, Empties}
use Rattle.server_talk.proofs.Going.{goes_nowhere}
use Rattle.server_talk.proofs.Leaving.{left_down, was_joined}
use Rattle.server_talk.proofs.talk.leave.Goals as goal

pub loop-try-preserved : goal.loop-try-preserved
loop-try-preserved g c =
    let i = c.loop-try.invariant in
    let b = c.in-Err.ensures.hung_up in
    record {
      goes = λ start calls went. c.make_room.ensures start calls (goes_nowhere g.D.Store start c.forget.new.self c.hang_up.new.store calls c.in-Err.ensures.nothing_submitted
          (Empties calls c.loop-try.store c.forget.new.self (i.goes start calls went) c.forget.ensures.same));
      peer = i.peer;
      client = c.in-Err.ensures.unchanged ∙ i.client;
      joined = λ more. sym (ap (λ (w : Client). w.joined) i.client) ∙ was_joined c.loop-try.talk.peer c.loop-try.talk.client c.hang_up.new.client b.rest b.carried.deeds b.carried.leads;
    }

pub returns-in-Ok : goal.returns-in-Ok
returns-in-Ok g c = λ start calls went.
    let i = c.loop-try.invariant in
    let h = c.in-Ok.ensures.hung_up in (
      h.deeds,
      left_down c.args.talk.now.peer c.loop-try.talk.peer c.args.talk.now.client c.loop-try.talk.client c.hang_up.new.client h.deeds i.peer i.client h.leads,
      Moves calls h.deeds c.forget.new.self c.hang_up.new.store (Empties calls c.loop-try.store c.forget.new.self (i.goes start calls went) c.forget.ensures.same) h.made,
      g.met.D.Store.moves_add c.forget.new.self c.hang_up.new.store h.deeds h.made ∙ ap (λ (front : List Call). front ++ calls_of h.deeds) c.forget.ensures.empty,
    )

pub returns : goal.returns
returns g c = λ start calls went. (c.loop-try.invariant.joined (omega arith), c.loop-try.invariant.goes start calls went)
