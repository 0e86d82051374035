use Rattle.http_views.specs.Turns.{Leads}
use Rattle.http_views.proofs.clients.Clients.serve.Given as goal

-- the calls so far lead from the first state to the present one
abbrev pub invariant-loop-slot : goal.invariant-loop-slot
invariant-loop-slot g l = Leads g.S.Service.answers l.fn.service l.service
