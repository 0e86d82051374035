-- Which client makes room for a newcomer. A list has for each client the moment since when it is idle; for a client
-- that is being served that moment is later than now.
use Rattle.std.specs.Prelude.{◌≡◌, ℕ, ◌-◌, Bool, true, false, ◌&&◌, ◌||◌, List, length, Option, Some, None, slice_get, nat_lt, nat_le}
use Rattle.std.specs.List.{IsFirstBest}

-- a second has passed since then
abbrev pub has_waited : ℕ → ℕ → Bool
has_waited since_ms now_ms = nat_le 1000 (now_ms - since_ms)

-- the client isn't being served, and it has been idle for a second, or the newcomer has waited for one
abbrev pub may_go : ℕ → ℕ → ℕ → Bool
may_go since_ms came_ms now_ms = nat_le since_ms now_ms && (has_waited since_ms now_ms || has_waited came_ms now_ms)

-- none is idle since an earlier moment, and none before it in the list since the same moment
abbrev pub IsLongestIdle : List ℕ → ℕ → Type 0
IsLongestIdle since_ms at = IsFirstBest nat_lt since_ms (length since_ms) at

-- the client that has been idle longest ends as soon as it may; nobody ends while nobody may
abbrev pub IsWhoGoes : List ℕ → ℕ → ℕ → Option ℕ → Type 0
IsWhoGoes since_ms came_ms now_ms (Some at) = IsLongestIdle since_ms at × ((ms : ℕ) → slice_get since_ms at ≡ Some ms → may_go ms came_ms now_ms ≡ true)
IsWhoGoes since_ms came_ms now_ms None = (at ms : ℕ) → slice_get since_ms at ≡ Some ms → may_go ms came_ms now_ms ≡ false
