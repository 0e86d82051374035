use Rattle.http_views.specs.Turns.{Leads}
use Rattle.http_views.proofs.clients.serve_views.Given as goal

-- the calls so far lead from the first state to the present one
abbrev pub invariant-loop : goal.invariant-loop
invariant-loop g l = Leads g.S.Service.answers l.fn.service l.service
