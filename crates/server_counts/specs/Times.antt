-- Times, by how long they were.
use Rattle.std.specs.Prelude.{ℕ, ◌+◌, ◌-◌, ◌^◌, min, nat_le, List, [], ◌∷◌, set, get_or, replicate, if◌then◌else◌}
use Rattle.server_counts.specs.declared.histogram.Histogram.{Histogram}

-- the bounds of the buckets in microseconds, from 10 us to 10 s
abbrev pub bounds : List ℕ
bounds =
    10 ∷ 20 ∷ 50 ∷ 100 ∷ 200 ∷ 500 ∷ 1000 ∷ 2000 ∷ 5000 ∷ 10000 ∷ 20000 ∷ 50000 ∷ 100000 ∷ 200000 ∷ 500000 ∷ 1000000 ∷ 2000000 ∷ 5000000 ∷ 10000000 ∷ []

-- the place of the first bound that isn't below a time; past the last if there is none
abbrev pub first_not_below : List ℕ → ℕ → ℕ
first_not_below [] us = 0
first_not_below (b ∷ bs) us = if nat_le us b then 0 else first_not_below bs us + 1

abbrev pub bucket_of : ℕ → ℕ
bucket_of us = first_not_below bounds us

abbrev pub no_times : Histogram
no_times = record { buckets = replicate 20 0; sum_us = 0 }

-- one more time in its bucket, and added to the sum; both numbers stop at the greatest of 64 bits
abbrev pub observed : ℕ → Histogram → Histogram
observed us h = record {
  buckets = set h.buckets (bucket_of us) (min (get_or h.buckets (bucket_of us) 0 + 1) (2 ^ 64 - 1));
  sum_us = min (h.sum_us + us) (2 ^ 64 - 1);
}
