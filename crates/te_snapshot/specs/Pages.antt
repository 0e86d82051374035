-- A table of rows in pages of 64, and the rows that are out of date.
use Rattle.std.specs.Prelude.{ℕ, ℤ, pos, ◌/◌, ◌%◌, ◌-ℤ◌, ◌*◌, ◌≤◌, ◌&&◌, length, Bool, true, List, [], Option, Some, None, map, slice_get, slice_index, slice_index_or}
use Rattle.std.specs.Arc.{arc_value}
use Rattle.std.specs.List.{range_with_len}
use Rattle.std.specs.declared.sync.Arc.{Arc}
use Rattle.std.specs.declared.alloc.Global.{Global}
use Rattle.lsp_base.specs.Shares.{priorities, reservable}
use Rattle.te_base.specs.declared.network.Link.{Link}
use Rattle.te_snapshot.specs.declared.marks.Marks.{Marks}
use Rattle.te_snapshot.specs.declared.table.Table.TheInside.{Inside}

-- the row at a place of a page; empty if the page is missing
abbrev pub row_in : Option (Arc (List (List ℤ)) Global) → ℕ → List ℤ
row_in None place = []
row_in (Some page) place = slice_index_or (arc_value page) place []

-- the row of a link; 64 consecutive links have their rows in one page
abbrev pub row_at : List (Arc (List (List ℤ)) Global) → ℕ → List ℤ
row_at pages l = row_in (slice_get pages (l / 64)) (l % 64)

-- the rows of this number of links, from 0 on
abbrev pub rows_of : ℕ → List (Arc (List (List ℤ)) Global) → List (List ℤ)
rows_of count pages = map (row_at pages) (range_with_len 0 count)

-- each link has a page, and there are at most 64 pages
pub record IsPaged (t : Inside) : Type 0 where
  pub whole : t.links ≤ 64 * length t.pages.items
  pub few : length t.pages.items ≤ 64

-- the row of a link
abbrev pub row : List (List ℤ) → ℕ → List ℤ
row table l = slice_index_or table l []

-- the page at this place has a row that is out of date
abbrev pub is_page_marked : Marks → ℕ → Bool
is_page_marked marks page = slice_index_or marks.pages page true

-- the row at a place of a page is out of date
abbrev pub is_row_marked : Marks → ℕ → ℕ → Bool
is_row_marked marks page place = is_page_marked marks page && slice_index_or (slice_index_or marks.rows page []) place true

-- the row of the link is out of date
abbrev pub is_marked : Marks → ℕ → Bool
is_marked marks l = is_row_marked marks (l / 64) (l % 64)

-- what eight sums leave of an amount
abbrev pub left_of : ℕ → List ℕ → List ℤ
left_of amount sums = map (λ p. pos amount -ℤ pos (slice_index sums p)) (priorities 0 7)

-- what the sums of a link leave of it, at each of the eight priorities
abbrev pub left_beside : List Link → List (List ℕ) → ℕ → List ℤ
left_beside links sums l = left_of (reservable links l) (slice_index_or sums l [])
