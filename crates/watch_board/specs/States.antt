-- How many LSPs are in each state.
use Rattle.std.specs.Prelude.{ℕ, ◌+◌, ◌-◌, ◌^◌, min, nat_eq, List, [], codes, if◌then◌else◌}
use Rattle.std.specs.Fmt.{decimal}
use Rattle.std.specs.Str.{bytes_eq}
use Rattle.table_text.specs.Adding.{◌+>◌}
use Rattle.watch_board.specs.declared.states.StateCounts.{StateCounts}

abbrev pub more : ℕ → ℕ
more n = min (n + 1) (2 ^ 64 - 1)

-- one LSP more in the state of this word; any other word, as that of an LSP of which only what is booked is known, counts as unknown
abbrev pub counted : List ℕ → StateCounts → StateCounts
counted word c =
    if bytes_eq word (codes "active") then record c { active = more c.active }
    else if bytes_eq word (codes "up") then record c { up = more c.up }
    else if bytes_eq word (codes "going up") then record c { going_up = more c.going_up }
    else if bytes_eq word (codes "going down") then record c { going_down = more c.going_down }
    else if bytes_eq word (codes "down") then record c { down = more c.down }
    else if bytes_eq word (codes "unplaced") then record c { unplaced = more c.unplaced }
    else record c { unknown = more c.unknown }

-- a number of LSPs with its word, if it isn't 0
abbrev pub count_words : ℕ → List ℕ → List ℕ
count_words n word = if nat_eq n 0 then [] else codes "  " +> decimal n +> codes " " +> word

unfoldable pub state_words : StateCounts → List ℕ
state_words c =
    count_words c.active (codes "active") +> count_words c.up (codes "up") +> count_words c.going_up (codes "going up")
    +> count_words c.going_down (codes "going down") +> count_words c.down (codes "down") +> count_words c.unplaced (codes "unplaced")
    +> count_words c.unknown (codes "unknown")
