-- A list with its capacity, and the places at which a test of its items fails.
use Rattle.std.specs.Prelude.{ℕ, ◌≡◌, ◌<◌, ◌≤◌, ◌⊎◌, Bool, true, false, List, slice_index_or}

-- what a contract sees of a list: the items in order, and the capacity
pub record Listed (A : Type 0) : Type 0 where
  pub items : List A
  pub room : ℕ

-- all that pass the test are in the bucket
abbrev pub AllIn : {A : Type 0} → (A → ℕ) → (A → Bool) → ℕ → Type 0
AllIn {A} bucket_of test bucket = (x : A) → test x ≡ true → bucket_of x ≡ bucket

-- all that pass the test are in one of two buckets
abbrev pub AllInTwo : {A : Type 0} → (A → ℕ) → (A → Bool) → ℕ → ℕ → Type 0
AllInTwo {A} bucket_of test b c = (x : A) → test x ≡ true → (bucket_of x ≡ b) ⊎ (bucket_of x ≡ c)

-- the items from one place up to another fail the test
pub record FailsFrom {A : Type 0} (test : A → Bool) (items : List A) (start end : ℕ) : Type 0 where
  pub fails : (p : ℕ) (d : A) → start ≤ p → p < end → test (slice_index_or items p d) ≡ false
