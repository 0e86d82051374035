-- What a line asks a running server for.
use Rattle.std.specs.Prelude.{ℕ, ◌&&◌, nat_le, Bool, true, false, List, length, codes, unwrap_or, Option, Some, None, option_map, if◌then◌else◌}
use Rattle.std.specs.Str.{bytes_eq, is_utf8}
use Rattle.asks.specs.Words.{cut_at_space}
use Rattle.step_core.specs.declared.event.Event.{Event}
use Rattle.step_core.specs.declared.event.Event.TheVariants as event
use Rattle.script_lines.specs.Commands.{operator_event_in}
use Rattle.script_lines.specs.Views.{view_line_in}
use Rattle.script_lines.specs.declared.views.ViewLine.{ViewLine}
use Rattle.server_talk.specs.declared.requests.Request.{Request}
use Rattle.server_talk.specs.declared.requests.Request.TheVariants.{Book, Check, End, Reload, Submit, View}

-- the events of an operator; tickets are taken by the server's workers, and peers are forgotten by its clock
abbrev pub is_operators : Event → Bool
is_operators (event.Ask peer purpose) = true
is_operators (event.Return peer plsp) = true
is_operators (event.Delete peer plsp) = true
is_operators (event.Refused peer srp) = true
is_operators (event.Reload links) = true
is_operators other = false

-- what a line asks to see, or else the event that it asks for
abbrev pub view_or_event : Option ViewLine → Option Event → Option Request
view_or_event (Some view) event = Some (View view)
view_or_event None event = option_map Submit event

-- the request of a line; None for a bad line
unfoldable pub request_in : List ℕ → Option Request
request_in line =
    if bytes_eq line (codes "book") then Some Book
    else if bytes_eq line (codes "end") then Some End
    else if bytes_eq line (codes "reload") then Some Reload
    else if bytes_eq line (codes "reload check") then Some Check
    else view_or_event (view_line_in line) (operator_event_in line)

-- the request is for an event, so a full history can't take it
abbrev pub asks_step : Option Request → Bool
asks_step (Some Reload) = true
asks_step (Some (Submit of)) = true
asks_step asked = false

-- the request is for what the link text gives
abbrev pub asks_reading : Option Request → Bool
asks_reading (Some Check) = true
asks_reading (Some Reload) = true
asks_reading asked = false

-- the greatest number of bytes of a line
abbrev pub line_limit : ℕ
line_limit = 4096

abbrev pub behind_words : Option (List ℕ × List ℕ) → Option (List ℕ)
behind_words None = None
behind_words (Some cut) = if bytes_eq cut.0 (codes "words") then Some cut.1 else None

-- what comes after the word `words`: the line whose answer is to be explained
unfoldable pub explained_in : List ℕ → Option (List ℕ)
explained_in line = behind_words (cut_at_space line)

-- the line without that word
unfoldable pub bare : List ℕ → List ℕ
bare line = unwrap_or (explained_in line) line

-- a line that is longer, or isn't text, is bad
unfoldable pub request_of : List ℕ → Option Request
request_of line = if nat_le (length line) line_limit && is_utf8 line then request_in (bare line) else None
