-- How often each thing happened.
use Rattle.std.specs.Prelude.{ℕ, ◌+◌, ◌-◌, ◌^◌, min, Bool, true, false, List, [], ◌∷◌, take, set, get_or, replicate}
use Rattle.std.specs.List.{sum}
use Rattle.server_counts.specs.declared.kinds.Counted.{Counted}
use Rattle.server_counts.specs.declared.kinds.Counted.TheVariants.{Step}
use Rattle.server_counts.specs.declared.counters.Counters.{Counters}
use Rattle.server_counts.specs.declared.counters.Timed.{Timed}
use Rattle.server_counts.specs.declared.counters.Timed.TheVariants.{Search, Wait, Look}
use Rattle.server_counts.specs.declared.histogram.Histogram.{Histogram}
use Rattle.server_counts.specs.Places.{place}
use Rattle.server_counts.specs.Times.{no_times, observed}

abbrev pub count_of : Counters → Counted → ℕ
count_of c what = get_or c.numbers (place what) 0

abbrev pub nothing_counted : Counters
nothing_counted = record { numbers = replicate 2306 0; searches = no_times; waits = no_times; looks = no_times }

-- this number rises by one and stays at the greatest of 64 bits; all others stay as they were
abbrev pub added : Counted → Counters → Counters
added what c = record c { numbers = set c.numbers (place what) (min (count_of c what + 1) (2 ^ 64 - 1)) }

abbrev pub times_of : Timed → Counters → Histogram
times_of Search c = c.searches
times_of Wait c = c.waits
times_of Look c = c.looks

-- one more time of this kind is counted; all else stays as it was
abbrev pub timed : Timed → ℕ → Counters → Counters
timed Search us c = record c { searches = observed us c.searches }
timed Wait us c = record c { waits = observed us c.waits }
timed Look us c = record c { looks = observed us c.looks }

-- how many steps were counted, of all events and replies
abbrev pub steps_of : Counters → ℕ
steps_of c = sum (take 195 c.numbers)

abbrev pub is_step : Counted → Bool
is_step (Step e r) = true
is_step _ = false

-- these things happened, the last of them first
abbrev pub all_added : List Counted → Counters
all_added [] = nothing_counted
all_added (what ∷ before) = added what (all_added before)
