-- What a line asks for after the link text has ended.
use Rattle.std.specs.Prelude.{ℕ, List, Option, Some, None, Result, Ok, codes, if◌then◌else◌}
use Rattle.std.specs.Str.{bytes_eq, is_utf8}
use Rattle.pcep_messages.specs.Messages.{message_in}
use Rattle.pcep_messages.specs.declared.fault.MessageFault.{MessageFault}
use Rattle.pcep_messages.specs.declared.message.Message.{Message}
use Rattle.pcep_messages.specs.declared.message.Message.TheVariants as messages
use Rattle.pcep_messages.specs.declared.message.StateReport.{StateReport}
use Rattle.asks.specs.Words.{cut_at_space, long_number_in, peer_in}
use Rattle.script_lines.specs.Words.{octets}
use Rattle.asks.specs.Lines.{◌>>=◌}
use Rattle.script_lines.specs.Commands.{event_with}
use Rattle.script_lines.specs.declared.orders.Order.{Order}
use Rattle.script_lines.specs.declared.orders.Order.TheVariants.{Report, Book, History, Open, Up, Bytes, End, Tick, Submit, Take, Roll}

-- the reports of a message that is one of state reports (RFC 8231 section 6.1)
abbrev pub reports_of : Result Message MessageFault → Option (List StateReport)
reports_of (Ok (messages.Report reports)) = Some reports
reports_of _ = None

unfoldable pub reports_in : List ℕ → Option (List StateReport)
reports_in bytes = reports_of (message_in bytes)

-- `report PEER HEX`: HEX is one whole message of state reports
unfoldable pub report_order : List ℕ → Option Order
report_order line = do
  words ← cut_at_space line
  peer ← peer_in words.0
  bytes ← octets words.1
  reports ← reports_in bytes
  Some (Report peer reports)

-- `msg PEER HEX`: HEX is some bytes, or none
unfoldable pub message_order : List ℕ → Option Order
message_order line = do
  words ← cut_at_space line
  peer ← peer_in words.0
  bytes ← octets words.1
  Some (Bytes peer bytes)

-- `tick MS`
unfoldable pub tick_order : List ℕ → Option Order
tick_order line = do
  now_ms ← long_number_in line
  Some (Tick now_ms)

-- `open PEER`, `up PEER` and `end PEER`
unfoldable pub peer_order : (ℕ → Order) → List ℕ → Option Order
peer_order order line = do
  peer ← peer_in line
  Some (order peer)

-- an operator's line
unfoldable pub event_order : List ℕ → List ℕ → Option Order
event_order word rest = do
  event ← event_with word rest
  Some (Submit event)

unfoldable pub session_order : List ℕ → List ℕ → Option Order
session_order word rest =
    if bytes_eq word (codes "open") then peer_order (λ peer. Open peer) rest
    else if bytes_eq word (codes "up") then peer_order (λ peer. Up peer) rest
    else if bytes_eq word (codes "end") then peer_order (λ peer. End peer) rest
    else event_order word rest

unfoldable pub order_with : List ℕ → List ℕ → Option Order
order_with word rest =
    if bytes_eq word (codes "report") then report_order rest
    else if bytes_eq word (codes "msg") then message_order rest
    else if bytes_eq word (codes "tick") then tick_order rest
    else session_order word rest

unfoldable pub long_order : List ℕ → Option Order
long_order line = do
  words ← cut_at_space line
  order_with words.0 words.1

unfoldable pub order_in : List ℕ → Option Order
order_in line =
    if bytes_eq line (codes "book") then Some Book
    else if bytes_eq line (codes "history") then Some History
    else if bytes_eq line (codes "take") then Some Take
    else if bytes_eq line (codes "roll") then Some Roll
    else long_order line

-- the order of a line; None for a bad line
unfoldable pub order_of : List ℕ → Option Order
order_of line = if is_utf8 line then order_in line else None
