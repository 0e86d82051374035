-- Folding receipts changes no count, and leaves the job in hand.
use Rattle.std.proofs.Common.{◌≡◌, ℕ, Bool, true, false, refl, arith}
use Rattle.std.specs.Prelude.{if◌then◌else◌}
use Rattle.history_seats.specs.Receipts.{SeatContent, CountsSame, folded, after_fold, are_past}

hand_by : (s : SeatContent) (b : Bool) → (if b then folded s else s).hand ≡ s.hand
hand_by s true = refl
hand_by s false = refl

-- the job in hand stays
pub tidy_hand : (rolled : ℕ) (s : SeatContent) → (after_fold rolled s).hand ≡ s.hand
tidy_hand rolled s = hand_by s (are_past s.floor rolled s.receipts)

counts_by : (s : SeatContent) (b : Bool) → CountsSame s (if b then folded s else s)
counts_by s true = record { steps = omega arith; grants = omega arith; hand = refl }
counts_by s false = record { steps = refl; grants = refl; hand = refl }

pub after_fold_counts : (rolled : ℕ) (s : SeatContent) → CountsSame s (after_fold rolled s)
after_fold_counts rolled s = counts_by s (are_past s.floor rolled s.receipts)
