-- What an audit compares: the receipts of all seats with the history.
use Rattle.std.specs.Prelude.{ℕ, ◌≡◌, ◌≢◌, ◌+◌, ◌-◌, ◌<◌, ◌≤◌, ◌⊎◌, ◌==◌, nat_lt, List, [], ◌∷◌, length, All, Any, Some, slice_get}
use Rattle.std.specs.List.{count_by, sum_by}
use Rattle.history_core.specs.Histories.{Content, steps_of, grants_of}
use Rattle.place_tokens.specs.Drawing.{RiseFrom, once_below}
use Rattle.place_tokens.specs.Drawing as drawing
use Rattle.history_seats.specs.declared.fault.AuditFault.{AuditFault}
use Rattle.history_seats.specs.declared.fault.AuditFault.TheVariants.{SeatMissing, StepsDiffer, GrantsDiffer, ReceiptDiffers, PlaceTwice, PlacesFall, OutOfMemory}
use Rattle.history_seats.specs.declared.receipt.Receipt.{Receipt}
use Rattle.history_seats.specs.Receipts.{SeatContent, steps_at, grants_at}

-- ---- one receipt

-- its place is rolled, or the kept step at its place has its event and its brief
abbrev pub Agrees : Content → Receipt → Type 0
Agrees d r = (r.place < d.rolled) ⊎ (slice_get d.history (r.place - d.rolled) ≡ Some (record { event = r.event; brief = r.brief }))

-- it is of this place, and doesn't agree
abbrev pub Differs : Content → ℕ → Receipt → Type 0
Differs d place r = (r.place ≡ place) × ¬ (Agrees d r)

-- from the floor on the places rise
abbrev pub RisesFrom : ℕ → List Receipt → Type 0
RisesFrom floor [] = Unit {0}
RisesFrom floor (r ∷ rs) = (floor ≤ r.place) × RisesFrom (r.place + 1) rs

-- how often a place is in the receipts
abbrev pub times : ℕ → List Receipt → ℕ
times place receipts = count_by (λ r. r.place == place) receipts

-- how many of the receipts are of rolled places
abbrev pub late : ℕ → List Receipt → ℕ
late rolled receipts = count_by (λ r. nat_lt r.place rolled) receipts

-- ---- one seat

-- the places that it folded are rolled, and its receipts agree
abbrev pub SeatAgrees : Content → SeatContent → Type 0
SeatAgrees d s = (s.floor ≤ d.rolled) × All (Agrees d) s.receipts

-- a receipt of this place doesn't agree, or it was folded and isn't rolled
abbrev pub SeatDiffers : Content → ℕ → SeatContent → Type 0
SeatDiffers d place s = ((s.floor ≡ place + 1) × (d.rolled < s.floor)) ⊎ Any (Differs d place) s.receipts

-- ---- all seats

-- how many steps the seats received, and how many of them were grants
abbrev pub steps_received : List SeatContent → ℕ
steps_received seats = sum_by steps_at seats

abbrev pub grants_received : List SeatContent → ℕ
grants_received seats = sum_by grants_at seats

-- how many receipts they have of rolled places, the folded ones among them
abbrev pub late_received : ℕ → List SeatContent → ℕ
late_received rolled seats = sum_by (λ s. s.folded + late rolled s.receipts) seats

-- how often a place is in the receipts of all of them
abbrev pub times_in : ℕ → List SeatContent → ℕ
times_in place seats = sum_by (λ s. times place s.receipts) seats

abbrev pub AllAgree : Content → List SeatContent → Type 0
AllAgree d seats = All (SeatAgrees d) seats

-- no kept place occurs twice
abbrev pub AllOnce : Content → List SeatContent → Type 0
AllOnce d seats = (place : ℕ) → d.rolled ≤ place → times_in place seats ≤ 1

abbrev pub AllRise : List SeatContent → Type 0
AllRise seats = All (λ s. RisesFrom s.floor s.receipts) seats

-- each step was received by exactly one of them, once, and none received another place
abbrev pub AllDistinct : ℕ → List SeatContent → Type 0
AllDistinct steps seats = (place : ℕ) → sum_by (λ s. drawing.times place s.places) seats ≡ once_below place steps

-- ---- the audit

-- All n seats are here, and together they received as many steps and grants as there were. Each step that was ever
-- taken, rolled or kept, was received by exactly one of them, once, and the places of each rise. Each receipt of a kept
-- step agrees with it, none occurs twice, and there are as many receipts of rolled places as steps were rolled.
pub record IsAudited (n : ℕ) (d : Content) (seats : List SeatContent) : Type 0 where
  pub all : length seats ≡ n
  pub steps : steps_received seats ≡ steps_of d
  pub grants : grants_received seats ≡ grants_of d
  pub agree : AllAgree d seats
  pub once : AllOnce d seats
  pub late : late_received d.rolled seats ≡ d.rolled
  pub rise : AllRise seats
  pub distinct : AllDistinct (steps_of d) seats
  pub rising : All (λ s. RiseFrom 0 s.places) seats

-- The first test that fails. If all seats are here, the sums never differ, no place occurs twice, and the places of
-- each seat rise.
abbrev pub Fails : ℕ → Content → List SeatContent → AuditFault → Type 0
Fails n d seats SeatMissing = length seats ≢ n
Fails n d seats StepsDiffer = ⊥
Fails n d seats GrantsDiffer = ⊥
Fails n d seats (ReceiptDiffers place) = (length seats ≡ n) × Any (SeatDiffers d place) seats
Fails n d seats PlaceTwice = ⊥
Fails n d seats PlacesFall = ⊥
Fails n d seats OutOfMemory = ⊥
