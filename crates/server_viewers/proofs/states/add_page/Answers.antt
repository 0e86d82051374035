use Rattle.std.proofs.Common.{refl}
use Rattle.server_viewers.proofs.states.add_page.Goals as goal

pub returns-clause-states : goal.returns-clause-states
returns-clause-states g c =
    let h = c.in_ok-add_heard.ensures in
    (_, c.look.ensures.begins, record { placed = c.in_ok-placed.placed; heard = h.0; sees = c.in_ok-placed.ensures.sees; states = refl; next_is = refl }, h.1)
