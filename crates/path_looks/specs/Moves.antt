-- Where LSPs would go if a link went away: a dry run, one LSP after the other, on a table from which each takes what it newly
-- reserves.
use Rattle.std.specs.Prelude.{ℕ, ℤ, pos, ◌≡◌, ◌≤◌, ◌==◌, ◌-◌, ◌-ℤ◌, Bool, true, false, not, nat_le, List, [], ◌∷◌, ◌++◌, length, map, filter, if◌then◌else◌, slice_index_or, Option, Some, None, IfSome, IfNone}
use Rattle.std.specs.Int.{w64, saturate_signed}
use Rattle.std.specs.List.{list_any, range_with_len}
use Rattle.lsp_base.specs.Shares.{priorities}
use Rattle.te_snapshot.specs.Network.{Network, state_of}
use Rattle.te_snapshot.specs.Pages.{row}
use Rattle.te_snapshot.specs.Room.{left, own_share}
use Rattle.te_snapshot.specs.declared.own.OwnShare.{OwnShare}
use Rattle.path_finder.specs.Answers.{IsAnswer, IsRefused}
use Rattle.path_finder.specs.declared.found.Found.{Found}
use Rattle.path_looks.specs.declared.moves.Move.{Move}
use Rattle.path_looks.specs.declared.moves.Mover.{Mover}

-- a row on which nothing is left, not even for the least bandwidth
abbrev pub no_room : List ℤ
no_room = map (λ p. pos 0) (priorities 0 7)

abbrev pub open_row : ℕ → List (List ℤ) → ℕ → List ℤ
open_row closed table l = if l == closed then no_room else row table l

-- the table with nothing left on the link
unfoldable pub without_link : ℕ → List (List ℤ) → List (List ℤ)
without_link closed table = map (open_row closed table) (range_with_len 0 (length table))

-- nothing is left on the link at any priority
pub record IsClosed (closed : ℕ) (table : List (List ℤ)) : Type 0 where
  pub none : (p : ℕ) → left table closed p ≡ pos 0

-- what a tunnel holds on other links
abbrev pub held_elsewhere : ℕ → List OwnShare → List OwnShare
held_elsewhere closed own = filter (λ held. not (held.link == closed)) own

-- ---- what a path takes

-- what is left of a link at a priority after a path takes it: from its holding priority on the path takes what its
-- tunnel doesn't hold there yet
abbrev pub left_beside : Mover → ℕ → List ℤ → ℕ → ℤ
left_beside m l left p =
    if nat_le (m.wanted).priorities.hold p then saturate_signed w64 (slice_index_or left p (pos 0) -ℤ pos ((m.wanted).bandwidth - own_share m.own l p))
    else slice_index_or left p (pos 0)

abbrev pub row_beside : Mover → ℕ → List ℤ → List ℤ
row_beside m l left = map (left_beside m l left) (priorities 0 7)

abbrev pub taken_row : Mover → List ℕ → List (List ℤ) → ℕ → List ℤ
taken_row m links table l = if list_any (λ k. k == l) links then row_beside m l (row table l) else row table l

-- what is left of each link after the path takes its links
unfoldable pub taken : Mover → List ℕ → List (List ℤ) → List (List ℤ)
taken m links table = map (taken_row m links table) (range_with_len 0 (length table))

-- ---- the run

abbrev pub uses : ℕ → Found → Bool
uses closed f = list_any (λ l. l == closed) f.links

-- on this table the path is admissible for the LSP, and of least cost, and it doesn't use the link
pub record IsPlaced (n : Network) (closed : ℕ) (table : List (List ℤ)) (m : Mover) (f : Found) : Type 0 where
  pub answer : IsAnswer (state_of n table) m.wanted (held_elsewhere closed m.own) f
  pub avoids : uses closed f ≡ false

-- On this table the search found no path, or the path of least cost that it found uses the link. For an LSP with
-- bandwidth, no path is admissible, or a least one breaks another bound.
pub record IsUnplaced (n : Network) (closed : ℕ) (table : List (List ℤ)) (m : Mover) : Type 0 where
  pub found : Option Found
  pub answer : IfSome found (IsAnswer (state_of n table) m.wanted (held_elsewhere closed m.own))
  pub refused : IfNone found (IsRefused (state_of n table) m.wanted (held_elsewhere closed m.own))
  pub over : IfSome found (λ f. uses closed f ≡ true)
  pub refused_outright : 1 ≤ (m.wanted).bandwidth → IsRefused (state_of n table) m.wanted (held_elsewhere closed m.own)

abbrev pub moved : Mover → Option Found → Move
moved m path = record { peer = m.peer; plsp = m.plsp; wanted = m.wanted; path = path }

-- Starting with a table, these LSPs were tried one after the other and got these places; the last table is what they
-- leave.
pub data Tried (n : Network) (closed : ℕ) (start : List (List ℤ)) : List Mover → List Move → List (List ℤ) → Type 0 where
  Begins : Tried n closed start [] [] start
  Goes : (ms : List Mover) (moves : List Move) (table : List (List ℤ)) (m : Mover) (f : Found) → Tried n closed start ms moves table
      → IsPlaced n closed table m f → Tried n closed start (ms ++ m ∷ []) (moves ++ moved m (Some f) ∷ []) (taken m f.links table)
  Stays : (ms : List Mover) (moves : List Move) (table : List (List ℤ)) (m : Mover) → Tried n closed start ms moves table
      → IsUnplaced n closed table m → Tried n closed start (ms ++ m ∷ []) (moves ++ moved m None ∷ []) table
