-- Which line may stand where, and what counts of the lines so far.
use Rattle.std.specs.Prelude.{ℕ, ◌+◌, ◌^◌, ◌==◌, ◌&&◌, nat_lt, Bool, true, false, List, [], Option, Some, None, if◌then◌else◌}
use Rattle.std.specs.Str.{bytes_eq}
use Rattle.journal_files.specs.Heads.{head_in, is_mark, is_end, place_in}
use Rattle.journal_files.specs.Moments.{is_moment, not_before}
use Rattle.journal_files.specs.declared.order.Kind.{Kind}
use Rattle.journal_files.specs.declared.order.Kind.TheVariants as kinds
use Rattle.journal_files.specs.declared.order.Order.{Order}
use Rattle.journal_files.specs.declared.order.Part.{Part}
use Rattle.journal_files.specs.declared.order.Part.TheVariants as parts

-- no line was read yet
abbrev pub begun : Order
begun = record { part = parts.Head; run = None; next = 0; moment = [] }

abbrev pub has_steps : Part → Bool
has_steps parts.Head = false
has_steps parts.Text = false
has_steps parts.Base = false
has_steps parts.Steps = true

-- a further file begins
abbrev pub at_head : Order → Order
at_head o = record o { part = parts.Head }

-- a file of this run, with steps from this place on, may stand here: it is the first, or goes on where the one before it ended
abbrev pub goes_on : Option (List ℕ) → ℕ → List ℕ → ℕ → Bool
goes_on None next run first = true
goes_on (Some known) next run first = bytes_eq known run && first == next

-- what comes after the link text of a file with steps from this place on: a base, but for the steps of the run's start
abbrev pub after_text : ℕ → Part
after_text first = if first == 0 then parts.Steps else parts.Base

abbrev pub at_place : ℕ → Option ℕ → Bool
at_place next None = false
at_place next (Some place) = place == next && nat_lt place (2 ^ 62)

-- ---- what a line is

abbrev pub head_kind : Order → Option (List ℕ × ℕ) → Kind
head_kind o None = kinds.Bad
head_kind o (Some head) = if goes_on o.run o.next head.0 head.1 then kinds.Head else kinds.Bad

abbrev pub step_kind : Order → List ℕ → Kind
step_kind o line =
    if is_moment line then (if not_before line o.moment then kinds.Moment else kinds.Bad)
    else if at_place o.next (place_in line) then kinds.Step
    else kinds.Bad

abbrev pub kind_in : Part → Order → List ℕ → Kind
kind_in parts.Head o line = head_kind o (head_in line)
kind_in parts.Text o line = if is_mark line then kinds.Mark else kinds.Text
kind_in parts.Base o line = if is_end line then kinds.End else kinds.Base
kind_in parts.Steps o line = step_kind o line

unfoldable pub kind_of : Order → List ℕ → Kind
kind_of o line = kind_in o.part o line

-- ---- what counts then

abbrev pub named : Order → Option (List ℕ × ℕ) → Order
named o None = o
named o (Some head) = record { part = parts.Text; run = Some head.0; next = head.1; moment = o.moment }

abbrev pub after_kind : Kind → Order → List ℕ → Order
after_kind kinds.Head o line = named o (head_in line)
after_kind kinds.Text o line = o
after_kind kinds.Mark o line = record o { part = after_text o.next }
after_kind kinds.Base o line = o
after_kind kinds.End o line = record o { part = parts.Steps }
after_kind kinds.Moment o line = record o { moment = line }
after_kind kinds.Step o line = record o { next = o.next + 1 }
after_kind kinds.Bad o line = o

unfoldable pub after : Order → List ℕ → Order
after o line = after_kind (kind_of o line) o line
