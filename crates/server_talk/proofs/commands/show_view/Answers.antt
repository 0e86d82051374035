use Rattle.std.proofs.Common.{refl}
use Rattle.server_talk.specs.Servers.{server_of}
use Rattle.server_talk.proofs.Operating.{came_starved, came_view}
use Rattle.server_talk.proofs.commands.show_view.Goals as goal

pub returns-in-Ok : goal.returns-in-Ok
returns-in-Ok g c = λ number text asks.
    came_view (server_of g.D.Store g.D.ServerStore.is_left g.D.Show.has_links g.D.Show.names g.D.Show.shows g.P.Plan.reads c.args._plan.now) number text c.args.store.now c.show.new.self c.args.view c.in-Ok.text.items asks c.in-Ok.ensures.same c.in-Ok.ensures.shown

pub returns-in-Err : goal.returns-in-Err
returns-in-Err g c = λ number text asks.
    came_starved (server_of g.D.Store g.D.ServerStore.is_left g.D.Show.has_links g.D.Show.names g.D.Show.shows g.P.Plan.reads c.args._plan.now) number text c.args.store.now c.show.new.self (rw asks refl) c.show.ensures.same
