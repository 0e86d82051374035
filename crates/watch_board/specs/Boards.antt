-- What the tables of a board have, and the text of a block.
use Rattle.std.specs.Prelude.{ℕ, ◌≡◌, not, Bool, true, false, List, [], ◌∷◌, ◌++◌, codes, cond, filter, fold, reverse, string_bytes, take, IsPermutation}
use Rattle.std.specs.List.{flat_map}
use Rattle.std.specs.List.Sorted.{IsNonDecreasingBy}
use Rattle.serde_json.specs.Data.{Data, Items, no_items, item}
use Rattle.table_text.specs.Adding.{◌+>◌}
use Rattle.table_text.specs.Durations.{duration_words}
use Rattle.watch_board.specs.Members.{items_in, text_in, whole_in}
use Rattle.watch_board.specs.Rows.{end, grant_row, is_up, link_rows, peer_row, step_row, text_cell, whole_cell}
use Rattle.watch_board.specs.Shares.{room, shares_from}
use Rattle.watch_board.specs.States.{counted, state_words}
use Rattle.watch_board.specs.Steps.{is_decided}
use Rattle.watch_board.specs.declared.board.Board.{Board}
use Rattle.watch_board.specs.declared.shares.LinkShare.{LinkShare}
use Rattle.watch_board.specs.declared.states.StateCounts.{StateCounts}

abbrev pub list_of : Items → List Data
list_of no_items = []
list_of (item d ds) = d ∷ list_of ds

-- the rows of the five fullest links
pub record AreFullest (links : List Data) (rows : List ℕ) : Type 0 where
  pub sorted : List LinkShare
  pub same : IsPermutation (shares_from 0 links) sorted
  pub order : IsNonDecreasingBy room sorted
  pub rows_are : rows ≡ link_rows links (take 5 sorted)

-- routers whose session is up, or is down, in their order
abbrev pub is_in : Bool → Data → Bool
is_in up d = cond up (is_up d) (not (is_up d))

unfoldable pub peer_rows : Bool → ℕ → List Data → List ℕ
peer_rows up most peers = flat_map peer_row (take most (filter (is_in up) peers))

abbrev pub row_of_grant : Data → List ℕ
row_of_grant d = grant_row (list_of (items_in (codes "links") d)) d

unfoldable pub grant_rows : ℕ → List Data → List ℕ
grant_rows most grants = flat_map row_of_grant (take most grants)

-- the latest decisions, the latest first
unfoldable pub decision_rows : ℕ → List Data → List ℕ
decision_rows most steps = flat_map step_row (take most (filter is_decided (reverse steps)))

-- the states of the LSPs of a page, beside those that were counted before
abbrev pub counted_lsp : StateCounts → Data → StateCounts
counted_lsp c d = counted (text_in (codes "state") d) c

abbrev pub counted_lsps : StateCounts → List Data → StateCounts
counted_lsps c lsps = fold counted_lsp c lsps

-- the lines in front of the tables, but for the states of LSPs
unfoldable pub first_words : Data → List ℕ
first_words d =
    codes "pced " +> text_cell (codes "version") d +> codes "  up " +> duration_words (whole_in (codes "uptime_ms") d)
    +> codes "  steps " +> whole_cell (codes "steps") d +> codes "  grants " +> whole_cell (codes "grants") d
    +> codes "  waiting " +> whole_cell (codes "waiting_grants") d +> codes "  tickets " +> whole_cell (codes "tickets") d +> end

unfoldable pub head_words : Data → List ℕ
head_words d = first_words d +> codes "sessions up " +> whole_cell (codes "sessions_up") d +> codes "  LSPs " +> whole_cell (codes "lsps") d

-- a table with its head; a form feed stands in front, so that its columns are its own
abbrev pub table : List ℕ → List ℕ → List ℕ
table head rows = codes "\u{c}" +> head +> rows

-- the lines in front of the tables, and the tables
unfoldable pub board_words : Board → List ℕ
board_words b =
    string_bytes b.head +> state_words b.states +> end
    +> table (codes "LINK\tFROM\tTO\tLOCAL\tRESERVED\tUNRESERVED\n") (string_bytes b.links)
    +> table (codes "\nPEER\tSTATE\tSINCE\tLSPS\tDELEGATED\tLAST END\n") (string_bytes b.peers)
    +> table (codes "\nPEER\tSRP\tLSP\tUNANSWERED\tLINKS\n") (string_bytes b.grants)
    +> table (codes "\nSTEP\tEVENT\tPEER\tREPLY\n") (string_bytes b.decisions)

-- What is written for a block: on a terminal it replaces what is on the screen, whose lines aren't broken meanwhile
-- (DECAWM), and elsewhere an empty line follows.
abbrev pub framed : Bool → List ℕ → List ℕ
framed true text = codes "\u{1b}[?7l\u{1b}[H\u{1b}[J" ++ text ++ codes "\u{1b}[?7h"
framed false text = text ++ codes "\n"
