-- The nodes of a path's ends.
use Rattle.std.proofs.Common.{ℕ, ◌<◌, All, List, Option, Some, None, IfSome}
use Rattle.te_base.specs.declared.network.Owner.{Owner}
use Rattle.te_base.proofs.Soundness.{owner_within}
use Rattle.te_snapshot.specs.Admissible.{node_of}

-- the node of an end is one of the nodes
pub node_within : (nodes : ℕ) (owners : List Owner) (end : Option ℕ) → All (λ o. o.node < nodes) owners → IfSome (node_of owners end) (λ n. n < nodes)
node_within nodes owners None h = tt
node_within nodes owners (Some address) h = owner_within nodes owners address h
