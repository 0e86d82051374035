-- What a link text says: its TOML tree as nodes, links and owners of addresses, or the first fault, with the table and the
-- key that have it.
use Rattle.std.specs.Prelude.{ℕ, ◌==◌, ◌&&◌, nat_le, List, [], ◌∷◌, ◌++◌, length, Option, Some, None, Result, Ok, Err, if◌then◌else◌, position}
use Rattle.std.specs.Str.{bytes_eq}
use Rattle.toml.specs.Data.{Members}
use Rattle.toml.specs.Parse.{parse_document}
use Rattle.te_base.specs.declared.fault.FaultPlace.{FaultPlace}
use Rattle.te_base.specs.declared.fault.FaultPlace.TheVariants.{InText, InTable}
use Rattle.te_base.specs.declared.fault.PlacedFault.{PlacedFault}
use Rattle.te_base.specs.declared.fault.TeFault.{TeFault}
use Rattle.te_base.specs.declared.fault.TeFault.TheVariants.{NotToml, UnknownNode, NameTwice, SelfLoop, TooMany}
use Rattle.te_base.specs.declared.keys.Key.TheVariants.{Name, Id, From, To, Local, Remote}
use Rattle.te_base.specs.declared.keys.TableKind.TheVariants.{Nodes, Links}
use Rattle.te_base.specs.declared.network.Node.{Node}
use Rattle.te_base.specs.declared.network.Link.{Link}
use Rattle.te_base.specs.Faults.{◌>>=◌, some_or}
use Rattle.te_base.specs.Places.{fault_at, fault_in, fault_with, unplaced}
use Rattle.te_base.specs.Ted.{Ted, empty_ted}
use Rattle.te_base.specs.Owners.{owned}
use Rattle.te_base.specs.Fields.{LinkText, node_text, link_text, tables_at}
use Rattle.te_base.specs.Ranges.{node_value, link_addresses, link_values}
use Rattle.te_base.specs.Values.{Values}

-- the number of the node with this name
abbrev pub node_named : List Node → List ℕ → Option ℕ
node_named nodes name = position (λ n. bytes_eq n.name name) nodes

-- the table that is read next
abbrev pub next_node : Ted → FaultPlace
next_node base = InTable Nodes (length base.nodes)

abbrev pub next_link : Ted → FaultPlace
next_link base = InTable Links (length base.links)

-- no node has the name yet
abbrev pub unnamed : FaultPlace → Option ℕ → Result (Unit {0}) PlacedFault
unnamed at None = Ok tt
unnamed at (Some other) = Err (fault_with at Name NameTwice other)

-- A node's table: fields, ranges, its name, then its address.
unfoldable pub with_node : Ted → Members → Result Ted PlacedFault
with_node base t = do
  fields ← node_text (next_node base) t
  node ← node_value (next_node base) fields
  new ← unnamed (next_node base) (node_named base.nodes node.name)
  owners ← owned (next_node base) Id base.owners node.id (length base.nodes)
  Ok (record { nodes = base.nodes ++ node ∷ []; links = base.links; owners = owners })

-- the two nodes that a link joins
unfoldable pub ends_of : Ted → LinkText → Result (ℕ × ℕ) PlacedFault
ends_of base t = do
  from ← some_or (fault_at (next_link base) From UnknownNode) (node_named base.nodes t.from)
  to ← some_or (fault_at (next_link base) To UnknownNode) (node_named base.nodes t.to)
  if from == to then Err (fault_in (next_link base) SelfLoop) else Ok (from, to)

abbrev pub link_of : (ends addresses : ℕ × ℕ) → Values → Link
link_of ends addresses v = record { from = ends.0; to = ends.1; local = addresses.0; remote = addresses.1; igp = v.igp; te = v.te; colour = v.colour; reservable = v.reservable }

-- A link's table: fields, ranges, its ends, then its addresses.
unfoldable pub with_link : Ted → Members → Result Ted PlacedFault
with_link base t = do
  fields ← link_text (next_link base) t
  addresses ← link_addresses (next_link base) fields
  values ← link_values (next_link base) fields
  ends ← ends_of base fields
  near ← owned (next_link base) Local base.owners addresses.0 ends.0
  owners ← owned (next_link base) Remote near addresses.1 ends.1
  Ok (record { nodes = base.nodes; links = base.links ++ link_of ends addresses values ∷ []; owners = owners })

abbrev pub with_nodes : List Members → Ted → Result Ted PlacedFault
with_nodes [] base = Ok base
with_nodes (t ∷ more) base = with_node base t >>= with_nodes more

abbrev pub with_links : List Members → Ted → Result Ted PlacedFault
with_links [] base = Ok base
with_links (t ∷ more) base = with_link base t >>= with_links more

-- all nodes, and then all links
abbrev pub with_tables : List Members → List Members → Ted → Result Ted PlacedFault
with_tables nodes links base = with_nodes nodes base >>= with_links links

-- 1,024 nodes and 4,096 links at most
abbrev pub few_enough : ℕ → ℕ → Result (Unit {0}) PlacedFault
few_enough nodes links = if nat_le nodes 1024 && nat_le links 4096 then Ok tt else Err (fault_in InText TooMany)

unfoldable pub base_of_tree : Members → Result Ted PlacedFault
base_of_tree t = do
  nodes ← tables_at Nodes t
  links ← tables_at Links t
  few ← few_enough (length nodes) (length links)
  with_tables nodes links empty_ted

-- what the text says, or its first fault with its place
abbrev pub placed_base : List ℕ → Result Ted PlacedFault
placed_base text = some_or (fault_in InText NotToml) (parse_document text) >>= base_of_tree

-- the same without the place
abbrev pub base_of : List ℕ → Result Ted TeFault
base_of text = unplaced (placed_base text)
