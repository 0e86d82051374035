-- What the names of nodes in an operator's line stand for.
use Rattle.std.specs.Prelude.{ℕ, ◌==◌, Bool, false, List, count_by, find, position, slice_get, Option, Some, None, option_map, option_and_then, if◌then◌else◌}
use Rattle.std.specs.Str.{bytes_eq}
use Rattle.asks.specs.Places.{wrong_from_in, wrong_peer_in, wrong_to_in}
use Rattle.te_base.specs.Owners.{owner_of}
use Rattle.te_base.specs.Ted.{Ted}
use Rattle.te_base.specs.declared.network.Node.{Node}
use Rattle.line_names.specs.declared.plain.Named.{Named}

-- the number of the node with a name
abbrev pub node_named : List Node → List ℕ → Option ℕ
node_named nodes name = position (λ node. bytes_eq node.name name) nodes

abbrev pub id_of : List Node → ℕ → Option ℕ
id_of nodes number = option_map (λ node. node.id) (slice_get nodes number)

-- the end of a path that a name stands for: the id of its node
unfoldable pub end_named : List Node → List ℕ → Option ℕ
end_named nodes name = option_and_then (λ number. id_of nodes number) (node_named nodes name)

abbrev pub is_owner : Option ℕ → ℕ → Bool
is_owner None node = false
is_owner (Some owner) node = owner == node

-- the node owns the peer's address
abbrev pub is_at : Ted → ℕ → ℕ → Bool
is_at te node peer = is_owner (owner_of te.owners peer) node

-- The peer among these whose address the node owns, or the node's id if none is there. None if there are several.
abbrev pub peer_among : Ted → List ℕ → ℕ → ℕ → Option ℕ
peer_among te peers node id =
    if count_by (is_at te node) peers == 0 then Some id
    else if count_by (is_at te node) peers == 1 then find (is_at te node) peers
    else None

abbrev pub peer_of_node : Ted → List ℕ → ℕ → Option ℕ
peer_of_node te peers node = option_and_then (λ id. peer_among te peers node id) (id_of te.nodes node)

-- the peer that a name stands for
unfoldable pub peer_named : Ted → List ℕ → List ℕ → Option ℕ
peer_named te peers name = option_and_then (λ node. peer_of_node te peers node) (node_named te.nodes name)

-- what the names in a line stand for, if these peers are known
abbrev pub named_in : Ted → List ℕ → List ℕ → Named
named_in te peers line = record {
  peer = option_and_then (λ name. peer_named te peers name) (wrong_peer_in line);
  from = option_and_then (λ name. end_named te.nodes name) (wrong_from_in line);
  to = option_and_then (λ name. end_named te.nodes name) (wrong_to_in line);
}
