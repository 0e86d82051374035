use Rattle.std.proofs.Common.{◌≡◌, ◌/◌, ◌%◌, ◌&&◌, ℕ, zero, suc, true, [], slice_index_or, refl}
use Rattle.std.specs.Prelude.{replicate}
use Rattle.te_snapshot.proofs.marks.Marks.all.Goals as goal

all_true : (n i : ℕ) → slice_index_or (replicate n true) i true ≡ true
all_true zero i = refl
all_true (suc n) zero = refl
all_true (suc n) (suc i) = all_true n i

each_true : (n page i : ℕ) → slice_index_or (slice_index_or (replicate n (replicate 64 true)) page []) i true ≡ true
each_true zero page i = refl
each_true (suc n) zero i = all_true 64 i
each_true (suc n) (suc page) i = each_true n page i

pub returns : goal.returns
returns c = λ l. λ j. all_true 64 (l / 64) j && each_true 64 (l / 64) (l % 64) j
