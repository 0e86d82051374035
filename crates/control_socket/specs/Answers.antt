-- What may be sent as a line, and what its answer says.
use Rattle.std.specs.Prelude.{ℕ, ◌==◌, Bool, not, ◌&&◌, ◌||◌, List, [], codes, if◌then◌else◌}
use Rattle.std.specs.Str.{bytes_eq}
use Rattle.std.specs.List.{list_any, starts_with, ends_with}
use Rattle.control_socket.specs.declared.ask.Outcome.{Outcome}
use Rattle.control_socket.specs.declared.ask.Outcome.TheVariants.{Answered, Refused, Bad, Unread, Short, BrokenOff}

-- it is one line: it has no line break
abbrev pub is_line : List ℕ → Bool
is_line line = not (list_any (λ byte. byte == 10) line)

abbrev pub begins_with : List ℕ → List ℕ → Bool
begins_with answer words = starts_with (λ x y. x == y) answer words

-- the last line of the answer has its line break
abbrev pub is_whole : List ℕ → Bool
is_whole answer = ends_with (λ x y. x == y) answer (codes "\n")

-- the line asks for the end of the run, and gets no answer
abbrev pub is_silent : List ℕ → List ℕ → Bool
is_silent line answer = bytes_eq line (codes "end") && bytes_eq answer []

unfoldable pub outcome_of : List ℕ → List ℕ → Outcome
outcome_of line answer =
    if is_silent line answer then Answered
    else if not (is_whole answer) then BrokenOff
    else if begins_with answer (codes "bad line ") then Bad
    else if begins_with answer (codes "te fault ") then Bad
    else if begins_with answer (codes "refused ") then Refused
    else if begins_with answer (codes "device fault\n") then Unread
    else if begins_with answer (codes "out of memory\n") then Short
    else if begins_with answer (codes "history full\n") then Short
    else Answered
