use Rattle.pce_server.proofs.Downs.{none_is_up}
use Rattle.pce_server.proofs.server.close.Goals as goal

pub returns-else-not-are_all_down : goal.returns-else-not-are_all_down
returns-else-not-are_all_down g c = (
  g.B.StepNumbers.seats,
  c.args.seats.items,
  record {
    past = c.in-Ok.ensures.one_history.0;
    came_to = c.in-Ok.ensures.one_history.1;
    seen = c.in-Ok.ensures.one_history.2;
    audited = c.in-Ok.ensures.audited;
    replays = c.in-Ok.ensures.replays;
    sound = c.in-Ok.ensures.sound;
    steps = c.in-Ok.ensures.sums.0;
    grants = c.in-Ok.ensures.sums.1;
    down = none_is_up c.in-Ok.audit.database.state.peers (rw (← c.state.ensures.state, ← c.peers.ensures, ← c.are_all_down.ensures) c.if-not-are_all_down.false);
  },
)
