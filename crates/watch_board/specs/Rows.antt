-- The row of each table: its cells, with a tab between two, and a line's end.
use Rattle.std.specs.Prelude.{ℕ, nat_eq, Bool, true, false, List, [], codes, map, slice_get, Option, Some, None, unwrap_or, option_and_then, if◌then◌else◌}
use Rattle.std.specs.Fmt.{decimal}
use Rattle.std.specs.List.{flat_map}
use Rattle.std.specs.Str.{bytes_eq}
use Rattle.serde_json.specs.Data.{Data}
use Rattle.serde_json.specs.Find.{as_number, as_u64}
use Rattle.table_text.specs.Adding.{◌+>◌}
use Rattle.table_text.specs.Amounts.{percent_words, rate_words}
use Rattle.table_text.specs.Durations.{duration_words}
use Rattle.table_text.specs.Names.{shown_name}
use Rattle.table_text.specs.Numbers.{numbers_words}
use Rattle.watch_board.specs.Members.{flag_in, number_in, text_in, whole_in}
use Rattle.watch_board.specs.declared.shares.LinkShare.{LinkShare}

abbrev pub tab : List ℕ
tab = codes "\t"

abbrev pub end : List ℕ
end = codes "\n"

-- a text as a terminal can show it, or a dash
abbrev pub cell : List ℕ → List ℕ
cell text = if bytes_eq text [] then codes "-" else shown_name text

abbrev pub text_cell : List ℕ → Data → List ℕ
text_cell name d = cell (text_in name d)

abbrev pub whole_cell : List ℕ → Data → List ℕ
whole_cell name d = decimal (whole_in name d)

-- milliseconds, or a dash if they aren't known
abbrev pub known_duration : Option ℕ → List ℕ
known_duration None = codes "-"
known_duration (Some ms) = duration_words ms

abbrev pub duration_cell : List ℕ → Data → List ℕ
duration_cell name d = known_duration (number_in name d)

-- ---- links

-- how much of a link is reserved, and what is left of it, after its names
unfoldable pub share_cells : LinkShare → List ℕ
share_cells s = percent_words s.reservable s.left +> tab +> rate_words s.left +> end

unfoldable pub link_row : Data → LinkShare → List ℕ
link_row d s =
    whole_cell (codes "link") d +> tab +> text_cell (codes "from") d +> tab +> text_cell (codes "to") d +> tab
    +> text_cell (codes "local_address") d +> tab +> share_cells s

abbrev pub known_row : Option Data → LinkShare → List ℕ
known_row None s = []
known_row (Some d) s = link_row d s

abbrev pub row_at : List Data → LinkShare → List ℕ
row_at links s = known_row (slice_get links s.place) s

unfoldable pub link_rows : List Data → List LinkShare → List ℕ
link_rows links shares = flat_map (row_at links) shares

-- ---- routers

abbrev pub session_word : Bool → List ℕ
session_word true = codes "up"
session_word false = codes "down"

abbrev pub is_up : Data → Bool
is_up d = flag_in (codes "is_up") d

unfoldable pub peer_row : Data → List ℕ
peer_row d =
    text_cell (codes "peer") d +> tab +> session_word (is_up d) +> tab +> duration_cell (codes "since_ms_ago") d +> tab +> whole_cell (codes "lsps") d +> tab
    +> whole_cell (codes "delegated_lsps") d +> tab +> text_cell (codes "last_end_reason") d +> end

-- ---- grants

-- an LSP by its name, if no report has bound the grant to it yet, else by its PLSP-ID
abbrev pub lsp_cell : List ℕ → ℕ → List ℕ
lsp_cell name plsp = if nat_eq plsp 0 then cell name else decimal plsp

abbrev pub number_of : Data → ℕ
number_of d = unwrap_or (option_and_then as_u64 (as_number d)) 0

unfoldable pub grant_row : List Data → Data → List ℕ
grant_row links d =
    text_cell (codes "peer") d +> tab +> whole_cell (codes "srp_id") d +> tab +> lsp_cell (text_in (codes "name") d) (whole_in (codes "plsp_id") d) +> tab
    +> duration_cell (codes "unanswered_ms") d +> tab +> numbers_words (map number_of links) +> end

-- ---- decisions

abbrev pub number_words : Option ℕ → List ℕ
number_words None = []
number_words (Some n) = codes " " +> decimal n

unfoldable pub step_row : Data → List ℕ
step_row d =
    whole_cell (codes "step") d +> tab +> text_cell (codes "event") d +> tab +> text_cell (codes "peer") d +> tab
    +> text_cell (codes "outcome") d +> number_words (number_in (codes "number") d) +> end
