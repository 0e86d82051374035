-- Equal numbers in a row, as runs.
use Rattle.std.specs.Prelude.{ℤ, List, flat_map, replicate}
use Rattle.pce_view.specs.declared.runs.Run.{Run}

-- the numbers of these runs, one after the other
abbrev pub numbers_of : List Run → List ℤ
numbers_of runs = flat_map (λ r. replicate r.count r.number) runs
