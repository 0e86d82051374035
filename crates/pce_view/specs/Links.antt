-- `links`: the nodes, the links and what is left of each.
use Rattle.std.specs.Prelude.{ℕ, ◌+◌, ℤ, List, [], ◌∷◌, codes, Some, ◌≡◌}
use Rattle.json.specs.Json.{Json, string, array, object, Items, no_items, item, no_members, member, document}
use Rattle.te_base.specs.declared.network.Link.{Link}
use Rattle.te_base.specs.declared.network.Node.{Node}
use Rattle.pce_view.specs.Fields.{address, amounts, name_at}
use Rattle.pce_view.specs.Json.{whole}
use Rattle.pce_seen.specs.declared.seen.Book.{Book}

unfoldable pub node_json : ℕ → Node → Json
node_json number node = object
    (member (codes "node") (whole number)
    (member (codes "name") (string node.name)
    (member (codes "router_id") (address node.id)
    no_members)))

-- each node, from this number on
abbrev pub nodes_json : ℕ → List Node → Items
nodes_json number [] = no_items
nodes_json number (node ∷ nodes) = item (node_json number node) (nodes_json (number + 1) nodes)

-- a link by its number, its ends, and what is left of it at the eight priorities
unfoldable pub link_json : List Node → ℕ → Link → List ℤ → Json
link_json nodes number link left = object
    (member (codes "link") (whole number)
    (member (codes "from") (string (name_at nodes link.from))
    (member (codes "to") (string (name_at nodes link.to))
    (member (codes "local_address") (address link.local)
    (member (codes "remote_address") (address link.remote)
    (member (codes "igp_metric") (whole link.igp)
    (member (codes "te_metric") (whole link.te)
    (member (codes "colour") (whole link.colour)
    (member (codes "reservable_bytes_per_second") (whole link.reservable)
    (member (codes "unreserved_bytes_per_second") (array (amounts left))
    no_members))))))))))

-- each link with what is left of it, from this number on
abbrev pub links_json : List Node → ℕ → List Link → List (List ℤ) → Items
links_json nodes number [] lefts = no_items
links_json nodes number (link ∷ links) [] = no_items
links_json nodes number (link ∷ links) (left ∷ lefts) = item (link_json nodes number link left) (links_json nodes (number + 1) links lefts)

abbrev pub book_json : List Node → List Link → List (List ℤ) → Json
book_json nodes links left = object
    (member (codes "nodes") (array (nodes_json 0 nodes))
    (member (codes "links") (array (links_json nodes 0 links left))
    no_members))

-- a reader of JSON reads the text as what was seen
abbrev pub ReadsLinks : Book → List ℕ → Type 0
ReadsLinks book text = document text ≡ Some (book_json book.nodes.items book.links.items book.left.items)
