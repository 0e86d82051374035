-- Places that are drawn in order, by tokens that each know their own.
use Rattle.std.specs.Prelude.{◌≡◌, ℕ, ◌+◌, ◌-◌, ◌==◌, ◌<◌, ◌≤◌, nat_lt, List, [], ◌∷◌, ◌++◌, if◌then◌else◌, count_by, sum_by}
use mathlib.Core.Option.{some}
use lib.ListN.{get_elem?}
use Rattle.atomic_table.specs.Seated.{TableId}
use Rattle.atomic_table.specs.Table.{Me}
use Rattle.place_tokens.specs.declared.rule.View.{View}

-- ---- places

-- how often a place is among these
abbrev pub times : ℕ → List ℕ → ℕ
times p xs = count_by (λ x. x == p) xs

-- 1 if the place is below n, else 0
abbrev pub once_below : ℕ → ℕ → ℕ
once_below p n = if nat_lt p n then 1 else 0

-- the places rise, from the floor on
abbrev pub RiseFrom : ℕ → List ℕ → Type 0
RiseFrom floor [] = Unit {0}
RiseFrom floor (x ∷ xs) = (floor ≤ x) × RiseFrom (x + 1) xs

-- ---- a source before it is opened

abbrev pub no_table : TableId
no_table = record { words = 0; slots = 0; views_name = 0; atom = 0; block = 0; offset = 0; slot_names = [] }

-- which source it is, and how many seats it has
pub record Opening : Type 0 where
  pub table : TableId
  pub seats : ℕ

-- ---- what a token knows

abbrev pub view : ℕ → ℕ → ℕ → List ℕ → List (List ℕ) → View
view keeps parts next own lent = record { keeps = keeps; parts = parts; next = next; own = own; lent = lent }

-- what is left of a token after another took it in
abbrev pub nothing : View
nothing = view 0 0 0 [] []

-- a token with one part and no place
abbrev pub part_only : View
part_only = view 0 1 0 [] []

-- how often it knows a place
abbrev pub times_of : ℕ → View → ℕ
times_of p v = times p v.own + sum_by (times p) v.lent

abbrev pub total : (View → ℕ) → List View → ℕ
total f [] = 0
total f (v ∷ vs) = f v + total f vs

-- with no part it knows no place; if it doesn't keep, it has no next place
abbrev pub IsPlain : View → Type 0
IsPlain v = (v.parts ≡ 0 → (p : ℕ) → times_of p v ≡ 0) × (v.keeps ≡ 0 → v.next ≡ 0)

-- there are this many parts, one token keeps, and each place below the next one is known once, and no other
pub record IsDrawnOnce (all : ℕ) (views : List View) : Type 0 where
  pub whole : total (λ v. v.parts) views ≡ all
  pub one : total (λ v. v.keeps) views ≡ 1
  pub plain : (by : ℕ) (v : View) → get_elem? views by ≡ some v → IsPlain v
  pub each : (p : ℕ) → total (times_of p) views ≡ once_below p (total (λ v. v.next) views)

-- it knows each place below the next one, once
abbrev pub KnowsAll : View → Type 0
KnowsAll v = (p : ℕ) → times_of p v ≡ once_below p v.next

-- all places that it knows are below the next one
abbrev pub KnowsBelow : View → Type 0
KnowsBelow v = (p : ℕ) → 0 < times_of p v → p < v.next

-- ---- the tokens between two moves

-- the keeper's state, which was lent these lists
abbrev pub keeping : ℕ → ℕ → List (List ℕ) → Me (Unit {0}) View
keeping parts next lent = (view 1 parts next [] lent, [])

-- a seat's state, which drew these places
abbrev pub holding : List ℕ → Me (Unit {0}) View
holding places = (view 0 1 0 places [], [])

-- a seat's state while the keeper is lent what it knows
abbrev pub emptied : Me (Unit {0}) View
emptied = (nothing, [])

-- ---- moves

abbrev pub with_next : View → View
with_next v = view v.keeps v.parts (v.next + 1) (v.own ++ v.next ∷ []) v.lent

abbrev pub without_own : View → View
without_own v = view v.keeps (v.parts - 1) v.next [] v.lent

abbrev pub own_only : View → View
own_only v = view 0 1 0 v.own []

abbrev pub without_part : View → View
without_part v = view v.keeps (v.parts - 1) v.next v.own v.lent

abbrev pub older_of : List (List ℕ) → List (List ℕ)
older_of [] = []
older_of (x ∷ xs) = xs

abbrev pub newest_of : List (List ℕ) → List ℕ
newest_of [] = []
newest_of (x ∷ xs) = x

abbrev pub without_newest : View → View
without_newest v = view v.keeps (v.parts - 1) v.next v.own (older_of v.lent)

abbrev pub newest_only : View → View
newest_only v = view 0 1 0 (newest_of v.lent) []

abbrev pub together : View → View → View
together v w = view (v.keeps + w.keeps) (v.parts + w.parts) (v.next + w.next) (v.own ++ w.own) (v.lent ++ w.lent)

abbrev pub stacked : View → View → View
stacked v w = view (v.keeps + w.keeps) (v.parts + w.parts) (v.next + w.next) v.own (w.own ∷ (w.lent ++ v.lent))
