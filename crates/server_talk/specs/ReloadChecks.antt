-- What an operator is shown of the changes that a reload would make.
use Rattle.std.specs.Prelude.{ℕ, ◌+◌, ◌==◌, ◌&&◌, not, ℤ, pos, ◌-ℤ◌, int_le, Bool, false, List, [], ◌∷◌, ◌++◌, codes, Option, Some, None, slice_get, if◌then◌else◌}
use Rattle.std.specs.List.{list_any}
use Rattle.std.specs.Fmt.{decimal}
use Rattle.te_base.specs.Values.{Values}
use Rattle.link_reload.specs.declared.entry.LinkReload.{LinkReload}

-- ---- the links that would change

abbrev pub is_same : Values → Values → Bool
is_same old new = (old.igp == new.igp && old.te == new.te) && (old.colour == new.colour && old.reservable == new.reservable)

-- a value that would change: its word, what it is and what it would be
unfoldable pub value_text : List ℕ → ℕ → ℕ → List ℕ
value_text word old new = if old == new then [] else codes " " ++ (word ++ (codes " " ++ (decimal old ++ (codes " " ++ decimal new))))

abbrev pub values_text : Values → Values → List ℕ
values_text old new =
    value_text (codes "igp") old.igp new.igp
    ++ (value_text (codes "te") old.te new.te
    ++ (value_text (codes "colour") old.colour new.colour
    ++ value_text (codes "reservable") old.reservable new.reservable))

-- the line of a link that would change
abbrev pub change_text : ℕ → Values → Values → List ℕ
change_text link old new = if is_same old new then [] else codes "link " ++ (decimal link ++ (values_text old new ++ codes "\n"))

-- the line of an entry, if its link exists
abbrev pub entry_text : Option Values → LinkReload → List ℕ
entry_text None entry = []
entry_text (Some old) entry = change_text entry.link old entry.values

-- the lines of all entries, given the values that links have now
abbrev pub changes_text : List Values → List LinkReload → List ℕ
changes_text values [] = []
changes_text values (entry ∷ entries) = entry_text (slice_get values entry.link) entry ++ changes_text values entries

-- ---- the links that would be below zero

-- less is left than what may be reserved would fall by
abbrev pub falls_below : Values → Values → ℤ → Bool
falls_below old new left = not (int_le (pos old.reservable -ℤ pos new.reservable) left)

-- a link would be below zero at some priority
abbrev pub is_below : Option Values → Option (List ℤ) → LinkReload → Bool
is_below (Some old) (Some amounts) entry = list_any (falls_below old entry.values) amounts
is_below old amounts entry = false

abbrev pub below_count : List Values → List (List ℤ) → List LinkReload → ℕ
below_count values left [] = 0
below_count values left (entry ∷ entries) = (if is_below (slice_get values entry.link) (slice_get left entry.link) entry then 1 else 0) + below_count values left entries

-- ---- both

-- the lines of links, and how many links would be below zero
abbrev pub outlook_text : List ℕ → ℕ → List ℕ
outlook_text [] below = codes "nothing changes\n"
outlook_text (c ∷ changes) below = (c ∷ changes) ++ (codes "below zero " ++ (decimal below ++ codes "\n"))

-- What a reload would change if links have these values, this is left of each at each priority, and a link text gives
-- these entries.
abbrev pub check_text : List Values → List (List ℤ) → List LinkReload → List ℕ
check_text values left entries = outlook_text (changes_text values entries) (below_count values left entries)
