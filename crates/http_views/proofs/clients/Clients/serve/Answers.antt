use Rattle.http_views.proofs.Turns.{leads_on}
use Rattle.http_views.proofs.clients.Clients.serve.Goals as goal
use Rattle.http_views.proofs.clients.Clients.serve.Goals.{in-Some+in-Wrote, in-Some+in-Quiet, in-Some+in-Over+in-Some-1, in-Some+in-Over+in-None-1, in_default}

pub loop-slot-preserved : goal.loop-slot-preserved
loop-slot-preserved g c =
    elim c.match-slot.branch [
      | in-Some+in-Wrote w ↦ rw w.service-is (leads_on g.S.Service.answers c.args.service.now c.loop-slot.service w.take_turn.new.service c.loop-slot.invariant w.take_turn.ensures)
      | in-Some+in-Quiet w ↦ rw w.service-is (leads_on g.S.Service.answers c.args.service.now c.loop-slot.service w.take_turn.new.service c.loop-slot.invariant w.take_turn.ensures)
      | in-Some+in-Over+in-Some-1 w ↦ rw w.service-is (leads_on g.S.Service.answers c.args.service.now c.loop-slot.service w.take_turn.new.service c.loop-slot.invariant w.take_turn.ensures)
      | in-Some+in-Over+in-None-1 w ↦ rw w.service-is (leads_on g.S.Service.answers c.args.service.now c.loop-slot.service w.take_turn.new.service c.loop-slot.invariant w.take_turn.ensures)
      | in_default w ↦ rw w.service-is c.loop-slot.invariant
    ]
