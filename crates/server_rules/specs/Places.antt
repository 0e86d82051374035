-- Who has a place. The connections that have one are listed, the oldest first.
use Rattle.std.specs.Prelude.{◌≡◌, ◌==◌, ℕ, ◌+◌, ◌<◌, ◌≤◌, Bool, true, false, ◌&&◌, not, List, length, count_by, Some, slice_get, IsTrue, nat_lt, ◌⊎◌, if◌then◌else◌}
use Rattle.std.specs.List.{list_any, IsFirstBest}
use Rattle.server_rules.specs.declared.entrance.Taken.{Taken}
use Rattle.server_rules.specs.declared.entrance.Entrance.{Entrance}
use Rattle.server_rules.specs.declared.entrance.Entrance.TheVariants.{Free, InsteadOf, Refused}

-- how many connections of the address aren't up yet
abbrev pub waiting_of : List Taken → ℕ → ℕ
waiting_of taken address = count_by (λ c. not c.is_up && c.address == address) taken

-- how many connections the address has
abbrev pub of_address : List Taken → ℕ → ℕ
of_address taken address = count_by (λ c. c.address == address) taken

-- a session of the address is up
abbrev pub up_of : List Taken → ℕ → Bool
up_of taken address = list_any (λ c. c.is_up && c.address == address) taken

-- a session that is up weighs nothing; any other connection weighs more, the more connections of its address aren't up
abbrev pub weight_of : List Taken → Taken → ℕ
weight_of taken c = if c.is_up then 0 else 1 + waiting_of taken c.address

abbrev pub outweighs : List Taken → Taken → Taken → Bool
outweighs taken a b = nat_lt (weight_of taken b) (weight_of taken a)

-- the connection that ends to make room for another isn't up, and is the first of those that weigh most: the oldest of
-- the address that has most of them
abbrev pub IsEnded : List Taken → ℕ → Type 0
IsEnded taken at = IsFirstBest (outweighs taken) taken (length taken) at × ((c : Taken) → slice_get taken at ≡ Some c → c.is_up ≡ false)

abbrev pub AllUp : List Taken → Type 0
AllUp taken = (k : ℕ) (c : Taken) → slice_get taken k ≡ Some c → c.is_up ≡ true

-- an address whose session is up may have one more connection at most, which gets an answer
abbrev pub IsOneTooMany : List Taken → ℕ → Type 0
IsOneTooMany taken address = IsTrue (up_of taken address) × (2 ≤ of_address taken address)

-- a new connection takes a free place if there is one, else the place of a connection that ends for it; it is closed if
-- its address has one too many, or all are up
abbrev pub IsEntrance : List Taken → ℕ → ℕ → Entrance → Type 0
IsEntrance taken address places Free = (¬ IsOneTooMany taken address) × (length taken < places)
IsEntrance taken address places (InsteadOf at) = (¬ IsOneTooMany taken address) × (places ≤ length taken) × IsEnded taken at
IsEntrance taken address places Refused = IsOneTooMany taken address ⊎ ((places ≤ length taken) × AllUp taken)
