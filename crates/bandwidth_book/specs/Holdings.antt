-- What an entry stands for.
use Rattle.std.specs.Prelude.{ℕ, List}
use Rattle.bandwidth_book.specs.Reservation.{Reservation}

-- what is held, and how many more reservations room is promised for
pub record Holdings : Type 0 where
  pub held : List Reservation
  pub promised : ℕ
