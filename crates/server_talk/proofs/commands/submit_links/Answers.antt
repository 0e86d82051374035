use Rattle.std.proofs.Common.{refl, string_bytes}
use Rattle.server_talk.specs.Servers.{server_of}
use Rattle.server_talk.proofs.Operating.{came_reloaded, came_fault}
use Rattle.server_talk.proofs.commands.submit_links.Goals as goal

pub returns-in-Ok : goal.returns-in-Ok
returns-in-Ok g c = λ number text asks given.
    came_reloaded (server_of g.D.Store g.D.ServerStore.is_left g.D.Show.has_links g.D.Show.names g.D.Show.shows g.P.Plan.reads c.args._plan.now) number text c.args.store.now c.answer_event.new.store c.args.links (string_bytes c.in-Ok.text) asks given c.in-Ok.ensures

pub returns-in-Err : goal.returns-in-Err
returns-in-Err g c = λ number text asks given.
    came_fault (server_of g.D.Store g.D.ServerStore.is_left g.D.Show.has_links g.D.Show.names g.D.Show.shows g.P.Plan.reads c.args._plan.now) c.in-Err.fault number text c.args.store.now c.answer_event.new.store (rw asks refl) c.in-Err.ensures
