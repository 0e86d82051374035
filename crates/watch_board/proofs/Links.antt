-- The row of a link, by the link's place.
use Rattle.std.proofs.Common.{◌≡◌, ◌∙◌, ◌<◌, ◌≤◌, List, [], map, length, get_or, Option, option_map, refl, ap}
use Rattle.std.proofs.lemmas.Option.{slice_get-map, slice_get_past, slice_get_read}
use Rattle.serde_json.specs.Data.{Data}
use Rattle.serde_json.specs.View.{view}
use Rattle.serde_json.specs.declared.value.Value.{Value}
use Rattle.watch_board.specs.Rows.{known_row, link_row, row_at}
use Rattle.watch_board.specs.declared.shares.LinkShare.{LinkShare}

pub row_found : (links : List Value) (s : LinkShare) (link : Value) → s.place < length links → link ≡ get_or links s.place link → row_at (map view links) s ≡ link_row (view link) s
row_found links s link below is =
    ap (λ (o : Option Data). known_row o s) (slice_get-map view links s.place ∙ ap (option_map view) (slice_get_read links (length links) s.place link refl below is))

pub no_row : (links : List Value) (s : LinkShare) → length links ≤ s.place → row_at (map view links) s ≡ []
no_row links s past = ap (λ (o : Option Data). known_row o s) (slice_get-map view links s.place ∙ ap (option_map view) (slice_get_past links s.place past))
