-- The line of a step, and the step that a line is.
use Rattle.std.specs.Prelude.{ℕ, ◌^◌, ◌&&◌, Bool, true, List, length, nat_le, codes, Option, Some, None, if◌then◌else◌}
use Rattle.std.specs.Fmt.{decimal}
use Rattle.std.specs.Str.{bytes_eq}
use Rattle.commit_core.specs.declared.ticket.Purpose.{Purpose}
use Rattle.commit_core.specs.declared.ticket.Purpose.TheVariants as purpose
use Rattle.step_core.specs.declared.event.Event.{Event}
use Rattle.step_core.specs.declared.event.Event.TheVariants as event
use Rattle.item_messages.specs.Reports.{report_fits}
use Rattle.item_messages.specs.Requests.{request_fits}
use Rattle.asks.specs.Words.{cut_at_space, long_number_in}
use Rattle.line_words.specs.Words.{cut_at_equals}
use Rattle.step_lines.specs.Requests.{request_for, is_asked}
use Rattle.step_lines.specs.Wanted.{may_be_wanted}
use Rattle.step_lines.specs.Replies.{reply_text}
use Rattle.step_lines.specs.Events.{event_words}
use Rattle.step_lines.specs.ReplyReading.{reply_in}
use Rattle.line_words.specs.First.{◌>>=◌}
use Rattle.step_lines.specs.EventReading.{event_in}
use Rattle.step_lines.specs.declared.placed.PlacedStep.{PlacedStep}
use Rattle.line_words.specs.Joined.{◌+>◌}

-- ---- the line of a step

-- a step has a line if its message can be written, or if an operator can ask for the path of the LSP that is to be initiated
abbrev pub purpose_has_line : Purpose → Bool
purpose_has_line (purpose.Update plsp) = true
purpose_has_line (purpose.Initiate name c) = may_be_wanted c
purpose_has_line (purpose.Answer request plsp c) = is_asked c && request_fits (request_for request plsp c)

abbrev pub has_line : Event → Bool
has_line (event.Report peer report) = report_fits report
has_line (event.Ask peer purpose) = purpose_has_line purpose
has_line e = true

-- `STEP EVENT.. = REPLY`
unfoldable pub line_of : PlacedStep → List ℕ
line_of step = decimal step.place +> codes " " +> event_words step.event +> codes "= " +> reply_text step.brief

-- ---- the step of a line

-- the most bytes that a line has
abbrev pub line_limit : ℕ
line_limit = 2 ^ 18

-- a step that the line may stand for
unfoldable pub likely_step : List ℕ → Option PlacedStep
likely_step line = do
  halves ← cut_at_equals line
  words ← cut_at_space halves.0
  place ← long_number_in words.0
  event ← event_in words.1
  reply ← cut_at_space halves.1
  brief ← reply_in reply.1
  Some (record { place = place; event = event; brief = brief })

-- it does if it is written so
abbrev pub if_written : List ℕ → Option PlacedStep → Option PlacedStep
if_written line None = None
if_written line (Some step) = if has_line step.event && bytes_eq (line_of step) line then Some step else None

-- None for a bad line
unfoldable pub step_in : List ℕ → Option PlacedStep
step_in line = if nat_le (length line) line_limit then if_written line (likely_step line) else None
