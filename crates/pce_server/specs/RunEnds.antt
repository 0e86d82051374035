-- What a whole run ends with.
use Rattle.std.specs.Prelude.{◌≡◌, ℕ, Bool, false, not, List, All}
use Rattle.te_base.specs.Ted.{Ted}
use Rattle.step_core.specs.States.{is_up}
use Rattle.step_core.specs.declared.event.Event.{Event}
use Rattle.step_core.specs.declared.peer.Peer.{Peer}
use Rattle.history_core.specs.Histories.{Replays, IsSound, steps_of, grants_of}
use Rattle.history_tokens.specs.declared.rule.Happening.{Happening}
use Rattle.history_seats.specs.Audits.{IsAudited}
use Rattle.history_seats.specs.Past.{database_at}
use Rattle.history_seats.specs.Receipts.{SeatContent}
use Rattle.history_seats.specs.Seeing.{HasSeenOf}
use Rattle.shared_pce.specs.declared.audit.Audit.{Audit}

-- no session of the peer is up
abbrev pub is_down : Peer → Bool
is_down p = not p.up

-- The audit of a run over this network, with these seats: the database is what all that happened made of the network,
-- each seat had seen a beginning of that, and the seats received each step once. The history replays and is sound, and
-- the sums are its steps and its grants. No peer is up in the database: each session that came up was followed by its
-- Down.
pub record IsAuditOf (text : Ted) (parts : ℕ) (seats : List SeatContent) (audit : Audit) : Type 0 where
  pub past : List (Happening Event)
  pub came_to : audit.database ≡ database_at text past
  pub seen : All (HasSeenOf past) seats
  pub audited : IsAudited parts audit.database seats
  pub replays : Replays audit.database
  pub sound : IsSound audit.database
  pub steps : audit.steps ≡ steps_of audit.database
  pub grants : audit.grants ≡ grants_of audit.database
  pub down : (peer : ℕ) → is_up audit.database.state peer ≡ false

-- the audit is that of a run with some seats
abbrev pub EndsIn : Ted → Audit → Type 0
EndsIn text audit = (parts : ℕ) × (seats : List SeatContent) × IsAuditOf text parts seats audit
