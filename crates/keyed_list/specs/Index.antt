-- The bucket of each place of a list, and ends: from one up to a place, no place has the bucket.
use Rattle.std.specs.Prelude.{ℕ, ◌≡◌, ◌≢◌, ◌<◌, ◌≤◌, ◌+◌, List, length, slice_index}

-- what a contract sees of an index: the bucket of each place, and its capacity
pub record Index : Type 0 where
  pub buckets : List ℕ
  pub room : ℕ

-- no place from one up to another has the bucket
pub record IsFree (buckets : List ℕ) (bucket start end : ℕ) : Type 0 where
  pub free : (p : ℕ) → start ≤ p → p < end → slice_index buckets p ≢ bucket

-- what a stored end says: from it up to the place, no place has the bucket; 65,535 means unknown
abbrev pub IsEnd : List ℕ → ℕ → ℕ → ℕ → Type 0
IsEnd buckets bucket end place = end < 65535 → IsFree buckets bucket end place

-- an end for each bucket below the length, and one for each place of its own bucket below that place
pub record IsIndex (buckets newest earlier : List ℕ) : Type 0 where
  pub lengths : length earlier ≡ length buckets
  pub below_length : (b : ℕ) → b < length newest → IsEnd buckets b (slice_index newest b) (length buckets)
  pub below_place : (p : ℕ) → p < length buckets → IsEnd buckets (slice_index buckets p) (slice_index earlier p) p

-- the next place above another that has the bucket, or the length
pub record IsNext (buckets : List ℕ) (bucket place next : ℕ) : Type 0 where
  pub after : place < next
  pub within : next ≤ length buckets
  pub free : IsFree buckets bucket (place + 1) next
  pub here : next < length buckets → slice_index buckets next ≡ bucket

-- the ends stored for the bucket above a place are unknown or no lower than the given end
pub record LeadsTo (buckets newest earlier : List ℕ) (bucket place end : ℕ) : Type 0 where
  pub from_newest : bucket < length newest → slice_index newest bucket < 65535 → end ≤ slice_index newest bucket
  pub from_above : (p : ℕ) → place < p → p < length buckets → slice_index buckets p ≡ bucket → slice_index earlier p < 65535 → end ≤ slice_index earlier p
