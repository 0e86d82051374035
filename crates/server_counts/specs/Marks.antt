-- How many steps there were at which moments, and between which moments a step was taken.
use Rattle.std.specs.Prelude.{ℕ, ◌+◌, ◌-◌, ◌*◌, ◌/◌, ◌==◌, nat_lt, nat_le, List, [], ◌∷◌, ◌++◌, length, map, find, fold, set, slice_get, slice_index_or, Option, Some, None, if◌then◌else◌}
use Rattle.std.specs.List.{range_with_len}
use Rattle.server_counts.specs.declared.marks.Mark.{Mark}

abbrev pub last_of : List Mark → Option Mark
last_of marks = slice_get marks (length marks - 1)

abbrev pub no_mark : Mark
no_mark = record { steps = 0; from_ms = 0; to_ms = 0 }

abbrev pub mark_at : List Mark → ℕ → Mark
mark_at marks half = slice_index_or marks (2 * half) no_mark

-- the marks at even places
abbrev pub every_other : List Mark → List Mark
every_other marks = map (mark_at marks) (range_with_len 0 (length marks / 2))

-- one more mark; if there are 4,096, every other one is dropped first
abbrev pub with_new : Mark → List Mark → List Mark
with_new m marks = (if nat_lt (length marks) 4096 then marks else every_other marks) ++ m ∷ []

abbrev pub since : ℕ → ℕ → Mark
since steps now_ms = record { steps = steps; from_ms = now_ms; to_ms = now_ms }

abbrev pub noted_behind : ℕ → ℕ → List Mark → Option Mark → List Mark
noted_behind steps now_ms marks None = with_new (since steps now_ms) marks
noted_behind steps now_ms marks (Some last) =
    if last.steps == steps then set marks (length marks - 1) (record last { to_ms = now_ms }) else with_new (since steps now_ms) marks

-- notes that there were this many steps at this moment: the last mark lasts until now if the number is the same, else
-- there is one more mark
abbrev pub noted : ℕ → ℕ → List Mark → List Mark
noted steps now_ms marks = noted_behind steps now_ms marks (last_of marks)

-- the first mark that counts the step at this place; steps are numbered from 0
abbrev pub behind : ℕ → List Mark → Option Mark
behind step marks = find (λ m. nat_lt step m.steps) marks

abbrev pub later : ℕ → Option Mark → Mark → Option Mark
later step last m = if nat_le m.steps step then Some m else last

-- the last mark that doesn't count it
abbrev pub before : ℕ → List Mark → Option Mark
before step marks = fold (later step) None marks
