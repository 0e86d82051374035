-- What paths of a tunnel hold on a link.
use Rattle.std.specs.Prelude.{⊤, ◌≡◌, ◌<◌, ℕ, zero, suc, ◌+◌, ◌-◌, ◌&&◌, ◌||◌, ◌==◌, nat_le, nat_lt, max, Bool, true, false, List, [], ◌∷◌, ◌++◌, drop, take, if◌then◌else◌, slice_index}
use Rattle.std.specs.List.{AllByRecursion}
use Rattle.lsp_base.specs.declared.path.Path.{Path}
use Rattle.bandwidth_book.specs.declared.reservation.BookOp.{BookOp}
use Rattle.bandwidth_book.specs.declared.reservation.BookOp.TheVariants.{Promise, Add, Drop, Withdraw}

-- a holding priority, and a bandwidth in bytes per second
pub record Reservation : Type 0 where
  pub hold : ℕ
  pub bandwidth : ℕ

abbrev pub held_of : Path → Reservation
held_of x = record { hold = x.hold; bandwidth = x.bandwidth }

abbrev pub same_held : Reservation → Reservation → Bool
same_held a b = a.hold == b.hold && a.bandwidth == b.bandwidth

-- the greatest bandwidth that is held at the priority or a better one, or 0
abbrev pub most : List Reservation → ℕ → ℕ
most [] priority = 0
most (h ∷ hs) priority = max (if nat_le h.hold priority then h.bandwidth else 0) (most hs priority)

-- how many are of this holding priority and bandwidth
abbrev pub times : Reservation → List Reservation → ℕ
times h [] = 0
times h (x ∷ xs) = (if same_held h x then 1 else 0) + times h xs

-- ordered by holding priority, then by bandwidth
abbrev pub is_before : Reservation → Reservation → Bool
is_before a b = nat_lt a.hold b.hold || (a.hold == b.hold && nat_lt a.bandwidth b.bandwidth)

-- the place where it belongs in the order
abbrev pub place_in : Reservation → List Reservation → ℕ
place_in h [] = 0
place_in h (x ∷ xs) = if is_before x h then suc (place_in h xs) else 0

-- the place of the first reservation that comes after it in the order
abbrev pub end_in : Reservation → List Reservation → ℕ
end_in h [] = 0
end_in h (x ∷ xs) = if is_before h x then 0 else suc (end_in h xs)

-- with one more, at its place in the order
abbrev pub with_one : Reservation → List Reservation → List Reservation
with_one h [] = h ∷ []
with_one h (x ∷ xs) = if is_before x h then x ∷ with_one h xs else h ∷ x ∷ xs

-- with one more for each of them, in turn
abbrev pub with_all : List Reservation → List Reservation → List Reservation
with_all hs [] = hs
with_all hs (x ∷ xs) = with_all (with_one x hs) xs

-- without the first that is the same
abbrev pub without_one : Reservation → List Reservation → List Reservation
without_one h [] = []
without_one h (x ∷ xs) = if same_held h x then xs else x ∷ without_one h xs

-- without the first that is the same as each of them, in turn
abbrev pub without_all : List Reservation → List Reservation → List Reservation
without_all hs [] = hs
without_all hs (x ∷ xs) = without_all (without_one x hs) xs

-- what is held after one op: a promise, and one that is taken back, leave it
abbrev pub moved_one : BookOp → Reservation → List Reservation → List Reservation
moved_one Promise h hs = hs
moved_one Add h hs = with_one h hs
moved_one Drop h hs = without_one h hs
moved_one Withdraw h hs = hs

-- after one for each of them, in turn
abbrev pub moved_all : BookOp → List Reservation → List Reservation → List Reservation
moved_all op hs [] = hs
moved_all op hs (x ∷ xs) = moved_all op (moved_one op x hs) xs

-- how many reservations room must have been promised for before
abbrev pub room_for : BookOp → ℕ → ℕ
room_for Promise n = 0
room_for Add n = n
room_for Drop n = 0
room_for Withdraw n = 0

-- how many reservations room is promised for after n of them, if it was promised for p
abbrev pub promised_after : BookOp → ℕ → ℕ → ℕ
promised_after Promise n p = p + n
promised_after Add n p = p - n
promised_after Drop n p = p
promised_after Withdraw zero p = p
promised_after Withdraw (suc n) p = 0

-- whether it changes what is held
abbrev pub changes_held : BookOp → Bool
changes_held Promise = false
changes_held Add = true
changes_held Drop = true
changes_held Withdraw = false

-- whether it takes memory
abbrev pub takes_memory : BookOp → Bool
takes_memory Promise = true
takes_memory Add = false
takes_memory Drop = false
takes_memory Withdraw = false

-- the numbers are the greatest bandwidths at the eight priorities
abbrev pub AreMaxima : List ℕ → List Reservation → Type 0
AreMaxima maxima hs = (p : ℕ) → p < 8 → slice_index maxima p ≡ most hs p

-- none is before an earlier one in the order
abbrev pub AreInOrder : List Reservation → Type 0
AreInOrder [] = ⊤
AreInOrder (x ∷ xs) = AllByRecursion (λ y. is_before y x ≡ false) xs × AreInOrder xs

-- the greatest bandwidth that is held at a better priority, or 0
abbrev pub most_below : List Reservation → ℕ → ℕ
most_below [] p = 0
most_below (h ∷ hs) p = max (if nat_lt h.hold p then h.bandwidth else 0) (most_below hs p)

-- a reservation that comes after all that are held at the priority or a better one
abbrev pub after_all : ℕ → Reservation
after_all p = record { hold = p + 1; bandwidth = 0 }

-- the bandwidth that one counts at its own priority, else 0
abbrev pub last_counts : Reservation → ℕ → ℕ
last_counts h p = if h.hold == p then h.bandwidth else 0

-- the list without a gap of n: what is before it and what is after it
abbrev pub around : ℕ → ℕ → List Reservation → List Reservation
around gap n hs = take gap hs ++ drop (gap + n) hs
