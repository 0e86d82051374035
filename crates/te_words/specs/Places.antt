-- The document that says where nodes are on a map.
use Rattle.std.specs.Prelude.{ℕ, codes, List, [], ◌∷◌, Option, Some, None}
use Rattle.std.specs.Fmt.{signed_decimal}
use Rattle.json.specs.Json as json
use Rattle.json.specs.Json.{Json}
use Rattle.te_base.specs.declared.network.Node.{Node}
use Rattle.te_base.specs.declared.network.NodePlace.{NodePlace}

abbrev pub place_json : List ℕ → NodePlace → Json
place_json name place = json.object
    (json.member (codes "name") (json.string name)
    (json.member (codes "x") (json.number (signed_decimal place.x))
    (json.member (codes "y") (json.number (signed_decimal place.y))
    json.no_members)))

-- one more item in front, if the node has a place
abbrev pub with_place : List ℕ → Option NodePlace → json.Items → json.Items
with_place name None others = others
with_place name (Some place) others = json.item (place_json name place) others

abbrev pub places_json : List Node → json.Items
places_json [] = json.no_items
places_json (node ∷ nodes) = with_place node.name node.place (places_json nodes)

abbrev pub places_document : List Node → Json
places_document nodes = json.object (json.member (codes "places") (json.array (places_json nodes)) json.no_members)
