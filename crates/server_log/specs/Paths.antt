-- The links of paths, as log lines show them.
use Rattle.std.specs.Prelude.{ℕ, ◌++◌, min, nat_lt, Bool, true, false, List, [], ◌∷◌, length, take, drop, replicate, codes, flat_map}
use Rattle.std.specs.Fmt.{decimal}
use Rattle.server_log.specs.Joining.{◌+>◌}
use Rattle.server_log.specs.declared.shown_links.ShownLinks.{ShownLinks}

-- the first `count` links, in an array of 32, and whether there are more
abbrev pub first_of : ℕ → List ℕ → ShownLinks
first_of count links =
    record { numbers = take count links ++ drop count (replicate 32 0); count = count; is_cut = nat_lt count (length links) }

abbrev pub front_of : List ℕ → ShownLinks
front_of links = first_of (min (length links) 32) links

abbrev pub link_after : ℕ → List ℕ
link_after link = codes "," +> decimal link

abbrev pub more_links : List ℕ → List ℕ
more_links links = flat_map link_after links

abbrev pub links_mark : Bool → List ℕ
links_mark false = []
links_mark true = codes ",.."

-- a path without links is a dash
abbrev pub path_text : Bool → List ℕ → List ℕ
path_text is_cut [] = codes "-"
path_text is_cut (link ∷ links) = decimal link +> more_links links +> links_mark is_cut

abbrev pub links_text : ShownLinks → List ℕ
links_text s = path_text s.is_cut (take s.count s.numbers)
