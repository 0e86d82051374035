-- The entries of a tunnel, by link.
use Rattle.std.specs.Prelude.{⊤, ◌≡◌, ◌<◌, ◌≤◌, ◌==◌, ℕ, suc, Bool, true, not, ◌&&◌, List, [], ◌∷◌, ◌++◌, reverse, Option, Some, None, is_some, length, map, nat_lt, slice_get, if◌then◌else◌}
use Rattle.std.specs.List.{AllByRecursion}
use Rattle.bandwidth_book.specs.Reservation.{Reservation}
use Rattle.bandwidth_book.specs.Reservation.{moved_all, promised_after}
use Rattle.bandwidth_book.specs.declared.reservation.BookOp.{BookOp}
use Rattle.bandwidth_book.specs.declared.link_entries.LinkEntry.{LinkEntry}
use Rattle.bandwidth_book.specs.Holdings.{Holdings}

-- what an entry that may be missing holds
abbrev pub held_in : Option Holdings → List Reservation
held_in None = []
held_in (Some e) = e.held

-- how many more reservations it has promised room for
abbrev pub promised_in : Option Holdings → ℕ
promised_in None = 0
promised_in (Some e) = e.promised

-- an entry that is there holds something, or has promised room
abbrev pub IsBusy : Option Holdings → Type 0
IsBusy o = is_some o ≡ true → held_in o ≡ [] → 0 < promised_in o

-- how an entry that may be missing changes by a op for each of these reservations; if memory ran out, some may have
-- been left out
pub record IsMoved (op : BookOp) (hs : List Reservation) (old new : Option Holdings) : Type 0 where
  pub kept : held_in new ≡ moved_all op (held_in old) hs
  pub busy : IsBusy old → IsBusy new
  pub below : promised_in new ≤ promised_after op (length hs) (promised_in old)

-- the same, but the new one may be left with nothing
pub record IsShifted (op : BookOp) (hs : List Reservation) (old new : Option Holdings) : Type 0 where
  pub kept : held_in new ≡ moved_all op (held_in old) hs
  pub below : promised_in new ≤ promised_after op (length hs) (promised_in old)

-- an entry that may be missing, and another that holds as much and has promised as much room
pub record IsSame (old new : Option Holdings) : Type 0 where
  pub kept : held_in new ≡ held_in old
  pub promised : promised_in new ≡ promised_in old

-- two lists of entries, the second reversed, as one
abbrev pub joined_with : List LinkEntry → List LinkEntry → List LinkEntry
joined_with front back = front ++ reverse back

-- whether an entry holds something, or has promised room
abbrev pub is_busy : Holdings → Bool
is_busy e = not (length e.held == 0 && e.promised == 0)

-- an entry that may be missing, if it is busy
abbrev pub if_busy : Option Holdings → Option Holdings
if_busy None = None
if_busy (Some e) = if is_busy e then Some e else None

-- the entry of a link
abbrev pub entry_on : ℕ → List LinkEntry → Option Holdings
entry_on l [] = None
entry_on l (x ∷ xs) = if x.link == l then Some x.entry else entry_on l xs

-- whether the link has an entry, which may hold nothing
abbrev pub has_entry : ℕ → List LinkEntry → Bool
has_entry l xs = is_some (entry_on l xs)

-- what the link's entry holds
abbrev pub kept : ℕ → List LinkEntry → List Reservation
kept l xs = held_in (entry_on l xs)

-- how many more reservations the link's entry has promised room for
abbrev pub promised_to : ℕ → List LinkEntry → ℕ
promised_to l xs = promised_in (entry_on l xs)

-- each link is below the later ones
abbrev pub AreRising : List LinkEntry → Type 0
AreRising [] = ⊤
AreRising (x ∷ xs) = AllByRecursion (λ y. x.link < y.link) xs × AreRising xs

-- where the entry of a link belongs in the order
abbrev pub place_on : ℕ → List LinkEntry → ℕ
place_on l [] = 0
place_on l (x ∷ xs) = if nat_lt x.link l then suc (place_on l xs) else 0

-- the entry at a place is the link's
abbrev pub IsAt : ℕ → List LinkEntry → ℕ → Type 0
IsAt l xs i = (x : LinkEntry) × (slice_get xs i ≡ Some x) × (x.link ≡ l)

-- the links that have entries
abbrev pub links_with : List LinkEntry → List ℕ
links_with xs = map (λ (x : LinkEntry). x.link) xs
