-- Whose connections are woken after a worker's turn.
use Rattle.std.specs.Prelude.{ℕ, List, [], ◌∷◌}
use Rattle.shared_pce.specs.declared.work.Worked.{Worked}
use Rattle.shared_pce.specs.declared.work.Worked.TheVariants as worked

-- the router for which the turn worked; none if the turn was idle
abbrev pub peer_of_turn : Worked → List ℕ
peer_of_turn worked.Idle = []
peer_of_turn (worked.Done job reply) = job.ticket.peer ∷ []
