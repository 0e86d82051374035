-- Worked rows: a network of four routers, read from its text, and routes through it.
use Rattle.std.proofs.Common.{◌≡◌, ℕ, codes, false, true, List, [], ◌∷◌, None, Some, Ok, Err, pos, negsuc, refl}
use Rattle.toml.proofs.OnLiterals.{toml_on_literals}
use Rattle.pcep_word.specs.Address.{address_of, octet_of, cut}
use Rattle.lsp_words.specs.declared.object.Hop.{Hop}
use Rattle.lsp_words.specs.declared.object.Hop.TheVariants.{Host, Other}
use Rattle.te_base.specs.declared.fault.TeFault.TheVariants.{MissingField, AddressTwice, NameTwice, OtherLinks}
use Rattle.te_base.specs.declared.fault.FaultPlace.TheVariants.{InTable}
use Rattle.te_base.specs.declared.keys.Key.TheVariants.{Id, Reservable}
use Rattle.te_base.specs.declared.keys.TableKind.TheVariants.{Nodes, Links}
use Rattle.te_base.specs.Places.{fault_at, fault_with}
use Rattle.te_base.specs.declared.network.Node.{Node}
use Rattle.te_base.specs.declared.network.Link.{Link}
use Rattle.te_base.specs.declared.network.Owner.{Owner}
use Rattle.te_base.specs.Ted.{Ted}
use Rattle.te_base.specs.Owners.{owns}
use Rattle.te_base.specs.Fields.{node_text, link_text}
use Rattle.te_base.specs.Ranges.{node_value, link_addresses, link_values}
use Rattle.te_base.specs.Values.{checked_values, with_link_values}
use Rattle.te_base.specs.Reload.{reloaded}
use Rattle.te_base.specs.LinkText.{with_node, ends_of, with_link, base_of_tree, placed_base, base_of}
use Rattle.te_base.specs.Walk.{walk}

abbrev node : List ℕ → ℕ → Node
node name id = record { name = name; id = id; place = None }

abbrev link : (from to near far metric : ℕ) → Link
link from to near far metric = record { from = from; to = to; local = near; remote = far; igp = metric; te = metric; colour = 0; reservable = 1000000 }

abbrev owner : (address node : ℕ) → Owner
owner address node = record { address = address; node = node }

-- A and B, B and D, A and C, C and D
abbrev diamond : Ted
diamond = record {
  nodes = node (codes "A") 0x0a000001 ∷ node (codes "B") 0x0a000002 ∷ node (codes "C") 0x0a000003 ∷ node (codes "D") 0x0a000004 ∷ [];
  links = link 0 1 0x0a010001 0x0a010002 10 ∷ link 1 3 0x0a020001 0x0a020002 10 ∷ link 0 2 0x0a030001 0x0a030002 20 ∷ link 2 3 0x0a040001 0x0a040002 20 ∷ [];
  owners = owner 0x0a000001 0 ∷ owner 0x0a000002 1 ∷ owner 0x0a000003 2 ∷ owner 0x0a000004 3
      ∷ owner 0x0a010001 0 ∷ owner 0x0a010002 1 ∷ owner 0x0a020001 1 ∷ owner 0x0a020002 3
      ∷ owner 0x0a030001 0 ∷ owner 0x0a030002 2 ∷ owner 0x0a040001 2 ∷ owner 0x0a040002 3 ∷ [];
}

abbrev host : ℕ → Hop
host address = Host address false

-- over B: by the address that leaves A, by those that reach B and D
leaves_a : walk diamond 0x0a000001 (host 0x0a010001 ∷ host 0x0a000002 ∷ []) 0x0a000004 ≡ 0 ∷ 1 ∷ []
leaves_a = refl

reaches_d : walk diamond 0x0a000001 (host 0x0a010002 ∷ host 0x0a020002 ∷ []) 0x0a000004 ≡ 0 ∷ 1 ∷ []
reaches_d = refl

-- over C, and a hop of another kind
over_c : walk diamond 0x0a000001 (Host 0x0a000003 true ∷ Other 3 (0 ∷ 1 ∷ []) ∷ []) 0x0a000004 ≡ 2 ∷ 3 ∷ []
over_c = refl

-- no link leads from A to D
jump : walk diamond 0x0a000001 (host 0x0a040002 ∷ []) 0x0a000004 ≡ []
jump = refl

-- no node owns the start
unknown : walk diamond 0x0a090909 [] 0x0a000004 ≡ []
unknown = refl

far_end : owns diamond.nodes diamond.links 1 0x0a010002 ≡ true
far_end = refl

near_end : owns diamond.nodes diamond.links 1 0x0a010001 ≡ false
near_end = refl

-- the diamond's text
read : base_of (codes "node = [{name=\"A\",id=\"10.0.0.1\"},{name=\"B\",id=\"10.0.0.2\"},{name=\"C\",id=\"10.0.0.3\"},{name=\"D\",id=\"10.0.0.4\"}]\nlink = [{from=\"A\",to=\"B\",local=\"10.1.0.1\",remote=\"10.1.0.2\",igp=10,te=10,colour=0,reservable=1000000},{from=\"B\",to=\"D\",local=\"10.2.0.1\",remote=\"10.2.0.2\",igp=10,te=10,colour=0,reservable=1000000},{from=\"A\",to=\"C\",local=\"10.3.0.1\",remote=\"10.3.0.2\",igp=20,te=20,colour=0,reservable=1000000},{from=\"C\",to=\"D\",local=\"10.4.0.1\",remote=\"10.4.0.2\",igp=20,te=20,colour=0,reservable=1000000}]") ≡ Ok diamond
unfolding toml_on_literals address_of octet_of cut node_text link_text node_value link_addresses link_values checked_values with_node ends_of with_link base_of_tree
read = refl

-- an address of another node: the table and its key, and the node that owns it
taken : placed_base (codes "node = [{name=\"A\",id=\"10.0.0.1\"},{name=\"B\",id=\"10.0.0.1\"}]") ≡ Err (fault_with (InTable Nodes 1) Id AddressTwice 0)
unfolding toml_on_literals address_of octet_of cut node_text node_value with_node base_of_tree
taken = refl

-- a link that lacks its last key
lacks : placed_base (codes "link = [{from=\"A\",to=\"B\",local=\"10.1.0.1\",remote=\"10.1.0.2\",igp=10,te=10,colour=0}]") ≡ Err (fault_at (InTable Links 0) Reservable MissingField)
unfolding toml_on_literals link_text with_link base_of_tree
lacks = refl

-- a node with its place
drawn : base_of (codes "node = [{name=\"A\",id=\"10.0.0.1\",x=3,y=-4}]") ≡ Ok (record { nodes = record { name = codes "A"; id = 0x0a000001; place = Some (record { x = pos 3; y = negsuc 3 }) } ∷ []; links = []; owners = owner 0x0a000001 0 ∷ [] })
unfolding toml_on_literals address_of octet_of cut node_text node_value with_node base_of_tree
drawn = refl

-- two routers and a link from one to the other
abbrev pair : ℕ → Ted
pair reservable = record {
  nodes = node (codes "A") 0x0a000001 ∷ node (codes "B") 0x0a000002 ∷ [];
  links = record { from = 0; to = 1; local = 0x0a010001; remote = 0x0a010002; igp = 10; te = 10; colour = 0; reservable = reservable } ∷ [];
  owners = owner 0x0a000001 0 ∷ owner 0x0a000002 1 ∷ owner 0x0a010001 0 ∷ owner 0x0a010002 1 ∷ [];
}

-- its text, with another bandwidth
less : reloaded (pair 1000000) (codes "node = [{name=\"A\",id=\"10.0.0.1\"},{name=\"B\",id=\"10.0.0.2\"}]\nlink = [{from=\"A\",to=\"B\",local=\"10.1.0.1\",remote=\"10.1.0.2\",igp=10,te=10,colour=0,reservable=400000}]") ≡ Ok (record { igp = 10; te = 10; colour = 0; reservable = 400000 } ∷ [])
unfolding toml_on_literals address_of octet_of cut node_text link_text node_value link_addresses link_values checked_values with_node ends_of with_link base_of_tree
less = refl

-- without the link, and with another name of a node
fewer : reloaded (pair 1000000) (codes "node = [{name=\"A\",id=\"10.0.0.1\"},{name=\"B\",id=\"10.0.0.2\"}]") ≡ Err OtherLinks
unfolding toml_on_literals address_of octet_of cut node_text node_value with_node base_of_tree
fewer = refl

renamed : reloaded (pair 1000000) (codes "node = [{name=\"A\",id=\"10.0.0.1\"},{name=\"C\",id=\"10.0.0.2\"}]\nlink = [{from=\"A\",to=\"C\",local=\"10.1.0.1\",remote=\"10.1.0.2\",igp=10,te=10,colour=0,reservable=1000000}]") ≡ Err OtherLinks
unfolding toml_on_literals address_of octet_of cut node_text link_text node_value link_addresses link_values checked_values with_node ends_of with_link base_of_tree
renamed = refl

-- a fault of the text comes first
faulty : reloaded (pair 1000000) (codes "node = [{name=\"A\",id=\"10.0.0.1\"},{name=\"A\",id=\"10.0.0.2\"}]") ≡ Err NameTwice
unfolding toml_on_literals address_of octet_of cut node_text node_value with_node base_of_tree
faulty = refl

-- link 0 alone gets the values
set : with_link_values (pair 1000000) 0 (record { igp = 10; te = 10; colour = 0; reservable = 400000 }) ≡ pair 400000
set = refl
