-- A grant takes no bandwidth that isn't there.
use Rattle.std.specs.Prelude.{ℕ, ◌≡◌, ◌≤◌, ◌++◌, true, List, [], ◌∷◌, Some, pos, ◌≤ℤ◌}
use Rattle.lsp_base.specs.Shares.{has_link, rises, unreserved}
use Rattle.lsp_base.specs.declared.path.Path.{Path}
use Rattle.commit_core.specs.declared.ticket.Ticket.{Ticket}
use Rattle.step_core.specs.declared.event.Event.{Event}
use Rattle.step_core.specs.declared.event.Event.TheVariants.{Commit}
use Rattle.step_core.specs.Grants.{path_of}
use Rattle.step_core.specs.States.{State}
use Rattle.ticket_table.specs.Tickets.{ticket_at}

-- with the path, none of its links is below zero at a priority, setup or better, at which its tunnel reserves more than
-- before
abbrev pub IsCovered : State → State → Path → ℕ → Type 0
IsCovered old new g setup = (l p : ℕ) → has_link l g ≡ true → p ≤ setup → rises old.base.paths g l p ≡ true → pos 0 ≤ℤ unreserved new.te.links new.base.paths l p

-- the event is the commit of an offer for an existing ticket; the offer's path is the only new one, and it is covered
pub record IsSoundGrant (old : State) (event : Event) (new : State) : Type 0 where
  pub ticket : Ticket
  pub links : List ℕ
  pub event_is : event ≡ Commit ticket.id (Some links)
  pub stands : ticket_at old.tickets ticket.id ≡ Some ticket
  pub added : new.base.paths ≡ old.base.paths ++ path_of old ticket links ∷ []
  pub covered : IsCovered old new (path_of old ticket links) ticket.constraints.priorities.setup
