-- A network, and how much its links can still carry.
use Rattle.std.specs.Prelude.{ℕ, ℤ, ◌≡◌, ◌<◌, ◌≤◌, List, length, map, All}
use Rattle.te_base.specs.declared.network.Link.{Link}
use Rattle.te_base.specs.declared.network.Owner.{Owner}
use Rattle.te_base.specs.Ted.{Ted, IsLinkAmong}
use Rattle.te_base.specs.Values.{ends_in}

-- nodes and links by their numbers, from 0, and who owns which address
pub record Network : Type 0 where
  pub nodes : ℕ
  pub links : List Link
  pub owners : List Owner

abbrev pub network_of : Ted → Network
network_of base = record { nodes = length base.nodes; links = base.links; owners = base.owners }

-- the network with these links
abbrev pub with_links : Network → List Link → Network
with_links n links = record { nodes = n.nodes; links = links; owners = n.owners }

-- links of the network, perhaps with other values, each in its range
pub record AreLinksOf (n : Network) (links : List Link) : Type 0 where
  pub ends : map ends_in links ≡ map ends_in n.links
  pub among : All (IsLinkAmong n.nodes) links

pub record IsSoundNetwork (n : Network) : Type 0 where
  pub few_nodes : n.nodes ≤ 1024
  pub few_links : length n.links ≤ 4096
  pub links : All (IsLinkAmong n.nodes) n.links
  pub owners : All (λ o. o.node < n.nodes) n.owners

-- a network with what is unreserved on each link, by priority
pub record NetworkState : Type 0 where
  pub network : Network
  pub unreserved : List (List ℤ)

abbrev pub state_of : Network → List (List ℤ) → NetworkState
state_of network unreserved = record { network = network; unreserved = unreserved }
