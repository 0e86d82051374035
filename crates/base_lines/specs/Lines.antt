-- The lines of a base, and the base that lines are.
use Rattle.std.specs.Prelude.{ℕ, List, [], ◌∷◌, ◌&&◌, Bool, map, Option, Some, None}
use Rattle.std.specs.List.{list_all}
use Rattle.pcep_messages.specs.Spelling.{is_written, fits}
use Rattle.pcep_messages.specs.declared.message.Message.{Message}
use Rattle.step_core.specs.declared.peer.Peer.{Peer}
use Rattle.line_words.specs.Written.{text_of}
use Rattle.base_lines.specs.Items.{Reading, items_of, nothing_read, failed, taken, base_of}
use Rattle.base_lines.specs.Words.{line_of}
use Rattle.base_lines.specs.WordsIn.{item_in}
use Rattle.base_lines.specs.declared.item.Item.{Item}
use Rattle.base_lines.specs.declared.placed.PlacedBase.{PlacedBase}
use Rattle.base_lines.specs.declared.stage.BaseLine.{BaseLine}
use Rattle.base_lines.specs.declared.stage.BaseLine.TheVariants as said
use Rattle.base_lines.specs.declared.stage.Stage.{Stage}
use Rattle.base_lines.specs.declared.stage.Stage.TheVariants.{Ended, Failed}

-- one line for each item
abbrev pub base_lines : PlacedBase → List (List ℕ)
base_lines b = map line_of (items_of b)

-- the text of items, each with its line break
abbrev pub text_of_items : List Item → List ℕ
text_of_items items = text_of (map line_of items)

-- a base has lines if each message that waits can be written
abbrev pub message_has_line : Message → Bool
message_has_line message = is_written message && fits message

abbrev pub peer_has_lines : Peer → Bool
peer_has_lines p = list_all message_has_line p.outgoing

abbrev pub has_lines : PlacedBase → Bool
has_lines b = list_all peer_has_lines (b.base).peers

-- what is read after one more line; a bad line ends it
abbrev pub take_if : Reading → Option Item → Reading
take_if r None = failed r
take_if r (Some item) = taken r item

abbrev pub line_read : Reading → List ℕ → Reading
line_read r line = take_if r (item_in line)

abbrev pub lines_read : Reading → List (List ℕ) → Reading
lines_read r [] = r
lines_read r (line ∷ lines) = lines_read (line_read r line) lines

-- the base that lines are
abbrev pub base_in : List (List ℕ) → Option PlacedBase
base_in lines = base_of (lines_read nothing_read lines)

-- what is said of the last line
abbrev pub said_at : Stage → BaseLine
said_at Ended = said.End
said_at Failed = said.Bad
said_at stage = said.Item
