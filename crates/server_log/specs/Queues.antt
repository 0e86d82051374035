-- The lines that wait to be written.
use Rattle.std.specs.Prelude.{ℕ, ◌≡◌, ◌<◌, ◌+◌, ◌-◌, ◌^◌, ◌++◌, ◌⊎◌, min, [], ◌∷◌}
use Rattle.server_log.specs.declared.log_lines.LogLine.{LogLine}
use Rattle.server_log.specs.declared.log_lines.LogLine.TheVariants.{Lost}
use Rattle.server_log.specs.declared.log_queue.Queue.{Queue}

-- the line waits after the others
abbrev pub Gains : LogLine → Queue → Queue → Type 0
Gains line old new = new.lines.items ≡ old.lines.items ++ (line ∷ [])

-- a line found no room and is counted; the count stops at the greatest number of 64 bits
abbrev pub Loses : Queue → Queue → Type 0
Loses old new = (new.lines.items ≡ old.lines.items) × (new.lost ≡ min (old.lost + 1) (2 ^ 64 - 1))

abbrev pub Pushes : LogLine → Queue → Queue → Type 0
Pushes line old new = (Gains line old new × (new.lost ≡ old.lost)) ⊎ Loses old new

-- how many were lost is told once, or not yet; if none were lost, nothing is told
abbrev pub TellsLost : ℕ → Queue → Queue → Type 0
TellsLost lost old new =
    ((0 < lost) × Gains (Lost lost) old new × (new.lost ≡ 0)) ⊎ ((new.lines.items ≡ old.lines.items) × (new.lost ≡ lost))
