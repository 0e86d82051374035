-- What a topology holds, wherever it is in memory.
use Rattle.std.specs.Prelude.{ℕ, ◌≡◌, length}
use Rattle.std.specs.Arc.{arc_value}
use Rattle.te_snapshot.specs.declared.topology.Topology.TheInside.{Inside}
use Rattle.te_snapshot.specs.Network.{Network, IsSoundNetwork}
use Rattle.te_snapshot.specs.Leaving.{leaving, entering}
use Rattle.te_snapshot.specs.Spans.{list_of}

abbrev pub network_in : Inside → Network
network_in t = record { nodes = t.nodes; links = t.links.items; owners = arc_value t.owners }

-- the network is sound, and the links that leave each node and those that enter it are listed
pub record IsInOrder (t : Inside) : Type 0 where
  pub sound : IsSoundNetwork (network_in t)
  pub count : length t.leaving ≡ t.nodes
  pub leaving : (v : ℕ) → list_of t.leaving v ≡ leaving t.links.items v
  pub entering_count : length t.entering ≡ t.nodes
  pub entering : (v : ℕ) → list_of t.entering v ≡ entering t.links.items v
