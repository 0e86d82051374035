-- Where each seat is, by its slot.
use Rattle.std.specs.Prelude.{ℕ, Bool, true, false, List, take, set, position, slice_get, Option, Some, None}
use Rattle.server_rules.specs.declared.seats.SeatState.{SeatState}
use Rattle.server_rules.specs.declared.seats.SeatState.TheVariants.{Free, Promised}

-- the seat may be promised to any thread
abbrev pub is_free : SeatState → Bool
is_free Free = true
is_free _ = false

-- the first free seat of those below `end`
abbrev pub first_free : ℕ → List SeatState → Option ℕ
first_free end seats = position is_free (take end seats)

-- the seat of this slot is promised
abbrev pub promised : Option ℕ → List SeatState → List SeatState
promised None seats = seats
promised (Some at) seats = set seats at Promised

-- the thread that was promised the seat didn't come; a seat that a thread has stays with it
abbrev pub given_up : Option SeatState → ℕ → List SeatState → List SeatState
given_up (Some Promised) at seats = set seats at Free
given_up _ at seats = seats

abbrev pub released : ℕ → List SeatState → List SeatState
released at seats = given_up (slice_get seats at) at seats
