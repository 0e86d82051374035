-- What is written nests few levels, and is read again.
use Rattle.std.proofs.Common.{◌≡◌, ◌∙◌, ℕ, ◌≤◌, List, [], ◌∷◌, Option, None, Some, option_and_then, ap, sym, arith, append-nil}
use Rattle.json.specs.Json.{Json, document, value, if_last, max_depth}
use Rattle.json.specs.Lex.{tokens}
use Rattle.json.specs.Tree.{json_tokens, depth, items_depth}
use Rattle.json.proofs.Printed.Trees.{value-json_tokens}
use Rattle.json.specs.Json as json
use Rattle.te_base.specs.declared.network.Node.{Node}
use Rattle.te_base.specs.declared.network.NodePlace.{NodePlace}
use Rattle.te_words.specs.Places.{places_document, places_json, with_place}

pub document-of_tokens : (text : List ℕ) (j : Json) → tokens text ≡ json_tokens j → depth j ≤ max_depth → document text ≡ Some j
document-of_tokens text j is shallow =
    ap (option_and_then (λ p. if_last p.0 p.1))
    (ap (value max_depth) (is ∙ sym (append-nil (json_tokens j))) ∙ value-json_tokens j max_depth [] shallow)

with_shallow : (name : List ℕ) (place : Option NodePlace) (others : json.Items) → items_depth others ≤ 1 → items_depth (with_place name place others) ≤ 1
with_shallow name None others shallow = shallow
with_shallow name (Some place) others shallow = omega (arith, shallow)

places_shallow : (nodes : List Node) → items_depth (places_json nodes) ≤ 1
places_shallow [] = omega arith
places_shallow (node ∷ nodes) = with_shallow node.name node.place (places_json nodes) (places_shallow nodes)

pub document_shallow : (nodes : List Node) → depth (places_document nodes) ≤ max_depth
document_shallow nodes = omega (arith, places_shallow nodes)
