use Rattle.std.proofs.Common.{List, ◌∙◌, ap, refl, string_bytes}
use Rattle.link_reload.specs.declared.entry.LinkReload.{LinkReload}
use Rattle.server_talk.specs.Servers.{server_of}
use Rattle.server_talk.specs.ReloadChecks.{check_text}
use Rattle.server_talk.proofs.Operating.{came_check, came_starved}
use Rattle.server_talk.proofs.commands.show_outlook.Goals as goal

pub returns-in-Ok : goal.returns-in-Ok
returns-in-Ok g c = λ number text asks given.
    came_check (server_of g.D.Store g.D.ServerStore.is_left g.D.Show.has_links g.D.Show.names g.D.Show.shows g.P.Plan.reads c.args._plan.now) number text c.args.store.now c.outlook_of.new.store (string_bytes c.in-Ok.text) c.args.links c.in-Ok.ensures.text.0 c.in-Ok.ensures.text.1 asks given c.in-Ok.ensures.same c.in-Ok.ensures.text.2
    (c.in-Ok.ensures.text.3 ∙ ap (λ (links : List LinkReload). check_text c.in-Ok.ensures.text.0 c.in-Ok.ensures.text.1 links) c.as_slice.ensures)

pub returns : goal.returns
returns g c = λ number text asks given.
    came_starved (server_of g.D.Store g.D.ServerStore.is_left g.D.Show.has_links g.D.Show.names g.D.Show.shows g.P.Plan.reads c.args._plan.now) number text c.args.store.now c.outlook_of.new.store (rw asks refl) c.outlook_of.ensures.same
