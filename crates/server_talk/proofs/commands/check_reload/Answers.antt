use Rattle.std.proofs.Common.{refl}
use Rattle.server_talk.specs.Servers.{server_of}
use Rattle.server_talk.proofs.Operating.{came_unread}
use Rattle.server_talk.proofs.commands.check_reload.Goals as goal

pub returns-in-Ok : goal.returns-in-Ok
returns-in-Ok g c = λ number text asks. c.show_outlook.ensures number text asks c.in-Ok.ensures

pub returns-in-Err : goal.returns-in-Err
returns-in-Err g c = λ number text asks.
    came_unread (server_of g.D.Store g.D.ServerStore.is_left g.D.Show.has_links g.D.Show.names g.D.Show.shows g.P.Plan.reads c.args.plan.now) number text c.args.store.now c.in-Err.fault (rw asks refl) c.in-Err.ensures
