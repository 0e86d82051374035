use Rattle.http_views.proofs.Turns.{leads_on}
use Rattle.http_views.proofs.clients.serve_views.Goals as goal

pub loop-preserved : goal.loop-preserved
loop-preserved g c = leads_on g.S.Service.answers c.args.service.now c.loop.service c.serve-has_moved.new.service c.loop.invariant c.serve-has_moved.ensures

pub returns-in_err-wait-clause-calls : goal.returns-in_err-wait-clause-calls
returns-in_err-wait-clause-calls g c = leads_on g.S.Service.answers c.args.service.now c.loop.service c.serve-has_moved.new.service c.loop.invariant c.serve-has_moved.ensures
