-- What a seat is after its hand was lent.
use Rattle.std.specs.Prelude.{Option}
use Rattle.std.specs.Borrow.{Lends, Fml, RattleType, MutBor}
use Rattle.std.specs.contracts.option.Option as option
use Rattle.place_tokens.specs.declared.rule.StepNumbers as room
use Rattle.step_core.specs.declared.job.Job.{Job}
use Rattle.step_core.specs.contracts.job.Job as job
use Rattle.history_seats.specs.declared.brands.Brands as brands
use Rattle.history_seats.specs.Receipts.{SeatContent}
use Rattle.history_seats.specs.contracts.seat.Seat.{the_row}

-- the seat ends with what was last put into its hand
abbrev pub LendsHand : (B : RattleType) → brands.Ghosts B.Denot → room.Ghosts B.Denot → MutBor SeatContent → MutBor (Option Job) → Fml
LendsHand B ledgers names s r = Lends (the_row B ledgers names) (option.the_row job.the_row) s r (λ w. record s.now { hand = w })
