-- Tickets, which are paths that are asked for, in the order in which they were asked for, so that their numbers rise.
use Rattle.std.specs.Prelude.{ℕ, ◌≡◌, ◌+◌, ◌≤◌, Bool, true, false, ◌==◌, ◌&&◌, not, nat_lt, nat_le, List, [], ◌∷◌, find, Option, if◌then◌else◌}
use Rattle.std.specs.List.{AllByRecursion, list_any, list_all}
use Rattle.std.specs.Map.{values_of}
use Rattle.lsp_base.specs.Same.{same_links}
use Rattle.commit_core.specs.declared.ticket.Purpose.{Purpose}
use Rattle.commit_core.specs.declared.ticket.Purpose.TheVariants as purposes
use Rattle.commit_core.specs.declared.ticket.Ticket.{Ticket}

abbrev pub is_ticket : ℕ → Ticket → Bool
is_ticket id t = t.id == id

abbrev pub ticket_at : List Ticket → ℕ → Option Ticket
ticket_at tickets id = find (is_ticket id) tickets

-- the ticket waits: no search for it is under way
abbrev pub is_waiting : Ticket → Bool
is_waiting t = not t.taken

-- the waiting ticket of the least number
abbrev pub first_waiting : List Ticket → Option Ticket
first_waiting tickets = find is_waiting tickets

-- ---- what is asked for

abbrev pub is_update_of : ℕ → Purpose → Bool
is_update_of plsp (purposes.Update n) = n == plsp
is_update_of plsp (purposes.Initiate name constraints) = false
is_update_of plsp (purposes.Answer request named constraints) = false

abbrev pub is_update_for : ℕ → ℕ → Ticket → Bool
is_update_for peer plsp t = t.peer == peer && is_update_of plsp t.purpose

-- an update of the LSP is asked for
abbrev pub is_update_asked : List Ticket → ℕ → ℕ → Bool
is_update_asked tickets peer plsp = list_any (is_update_for peer plsp) tickets

abbrev pub is_initiation_of : List ℕ → Purpose → Bool
is_initiation_of name (purposes.Update n) = false
is_initiation_of name (purposes.Initiate known constraints) = same_links known name
is_initiation_of name (purposes.Answer request named constraints) = false

abbrev pub is_initiation_for : ℕ → List ℕ → Ticket → Bool
is_initiation_for peer name t = t.peer == peer && is_initiation_of name t.purpose

-- an LSP of this name is asked for
abbrev pub is_name_asked : List Ticket → ℕ → List ℕ → Bool
is_name_asked tickets peer name = list_any (is_initiation_for peer name) tickets

-- ---- the list, as tickets are taken, wait again and end

-- the list with the first element that passes a test changed
abbrev pub edit_first : {X : Type 0} → (X → Bool) → (X → X) → List X → List X
edit_first test edit [] = []
edit_first test edit (x ∷ xs) = if test x then edit x ∷ xs else x ∷ edit_first test edit xs

-- the list without the first that passes a test
abbrev pub drop_first : {X : Type 0} → (X → Bool) → List X → List X
drop_first test [] = []
drop_first test (x ∷ xs) = if test x then xs else x ∷ drop_first test xs

-- the ticket when a search for it begins; this is how often paths came or went, or links were reloaded
abbrev pub searched_for : ℕ → Ticket → Ticket
searched_for changes t = record t { taken = true; tries = t.tries + 1; seen = changes }

abbrev pub take_first : List Ticket → ℕ → List Ticket
take_first tickets changes = edit_first is_waiting (searched_for changes) tickets

-- the ticket when it is to be searched for again
abbrev pub waiting_again : Ticket → Ticket
waiting_again t = record t { taken = false }

abbrev pub put_back : List Ticket → ℕ → List Ticket
put_back tickets id = edit_first (is_ticket id) waiting_again tickets

abbrev pub without_ticket : List Ticket → ℕ → List Ticket
without_ticket tickets id = drop_first (is_ticket id) tickets

-- ---- what holds of all tickets

-- the numbers rise, from this one on
abbrev pub AreRisingFrom : ℕ → List Ticket → Type 0
AreRisingFrom least [] = Unit {0}
AreRisingFrom least (t ∷ ts) = (least ≤ t.id) × AreRisingFrom (t.id + 1) ts

-- each number is greater than those before it, and none is 0
abbrev pub AreRising : List Ticket → Type 0
AreRising tickets = AreRisingFrom 1 tickets

-- a ticket is searched for at most four times; while it waits, it was searched for fewer times
abbrev pub has_tries_left : Ticket → Bool
has_tries_left t = if t.taken then nat_le t.tries 4 else nat_lt t.tries 4

abbrev pub all_have_tries : List Ticket → Bool
all_have_tries tickets = list_all has_tries_left tickets

pub record AreInOrder (last : ℕ) (tickets : List Ticket) : Type 0 where
  -- the numbers rise, and none is above the last that was given or skipped
  pub rising : AreRising tickets
  pub given : list_all (λ t. nat_le t.id last) tickets ≡ true
  -- none is searched for too often
  pub tries : all_have_tries tickets ≡ true

-- the tickets in order, and the last number that was given or skipped
pub record TicketTable : Type 0 where
  pub tickets : List Ticket
  pub last : ℕ

-- ---- the table: a map of the tickets by their numbers

-- each ticket is under its own number
abbrev pub AreNumbered : List (ℕ × Ticket) → Type 0
AreNumbered entries = AllByRecursion (λ e. e.0 ≡ e.1.id) entries

-- what a table keeps: its tickets are under their numbers, and in order
pub record IsKept (last : ℕ) (entries : List (ℕ × Ticket)) : Type 0 where
  pub numbered : AreNumbered entries
  pub order : AreInOrder last (values_of entries)
