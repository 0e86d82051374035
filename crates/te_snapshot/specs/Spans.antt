-- Lists cut out of one list.
use Rattle.std.specs.Prelude.{ℕ, ◌≤◌, List, [], Option, Some, None, slice_get, slice_range}
use Rattle.te_snapshot.specs.declared.spans.Span.{Span}
use Rattle.te_snapshot.specs.declared.outgoing.Outgoing.{Outgoing}

-- it lies in the list, from its start up to its end
pub record IsWithin (length : ℕ) (s : Span) : Type 0 where
  pub start : s.start ≤ s.end
  pub end : s.end ≤ length

abbrev pub cut : List Outgoing → Span → List Outgoing
cut arcs s = slice_range arcs s.start s.end

abbrev pub or_nothing : Option (List Outgoing) → List Outgoing
or_nothing None = []
or_nothing (Some arcs) = arcs

-- the list of a node, or none
abbrev pub list_of : List (List Outgoing) → ℕ → List Outgoing
list_of lists node = or_nothing (slice_get lists node)
