use Rattle.server_talk.proofs.Going.{rolled_on}
use Rattle.server_talk.proofs.talk.make_room.Goals as goal

pub returns : goal.returns
returns g c = λ start calls went.
    rolled_on g.D.Store c.roll_if_full-rolled.result start c.args.store.now c.roll_if_full-rolled.new.self calls c.roll_if_full-rolled.ensures.rolled c.roll_if_full-rolled.ensures.unchanged went
