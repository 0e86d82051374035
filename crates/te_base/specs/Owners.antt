-- Who owns an address.
use Rattle.std.specs.Prelude.{ℕ, ◌≡◌, ◌==◌, ◌&&◌, ◌||◌, Bool, false, List, [], ◌∷◌, ◌++◌, Option, Some, None, Result, Ok, Err, if◌then◌else◌, option_map, find}
use Rattle.std.specs.List.{list_any, enumerate_from}
use Rattle.te_base.specs.declared.fault.FaultPlace.{FaultPlace}
use Rattle.te_base.specs.declared.fault.PlacedFault.{PlacedFault}
use Rattle.te_base.specs.declared.fault.TeFault.TheVariants.{AddressTwice}
use Rattle.te_base.specs.declared.keys.Key.{Key}
use Rattle.te_base.specs.declared.network.Node.{Node}
use Rattle.te_base.specs.declared.network.Link.{Link}
use Rattle.te_base.specs.declared.network.Owner.{Owner}
use Rattle.te_base.specs.Places.{fault_with}

-- the node that owns an address
abbrev pub owner_of : List Owner → ℕ → Option ℕ
owner_of owners address = option_map (λ o. o.node) (find (λ o. o.address == address) owners)

abbrev pub with_owner : FaultPlace → Key → List Owner → ℕ → ℕ → Option ℕ → Result (List Owner) PlacedFault
with_owner at key owners address node None = Ok (owners ++ record { address = address; node = node } ∷ [])
with_owner at key owners address node (Some other) = if other == node then Ok owners else Err (fault_with at key AddressTwice other)

-- The owners, with the address at this key. It may be there already if the same node owns it.
abbrev pub owned : FaultPlace → Key → List Owner → ℕ → ℕ → Result (List Owner) PlacedFault
owned at key owners address node = with_owner at key owners address node (owner_of owners address)

-- A node owns its own address, the local addresses of the links that leave it and the remote addresses
-- of the links that reach it, and no other.
abbrev pub is_id_of : List Node → ℕ → ℕ → Bool
is_id_of nodes node address = list_any (λ (p : ℕ × Node). p.0 == node && p.1.id == address) (enumerate_from 0 nodes)

abbrev pub is_local_of : List Link → ℕ → ℕ → Bool
is_local_of links node address = list_any (λ (l : Link). l.from == node && l.local == address) links

abbrev pub is_remote_of : List Link → ℕ → ℕ → Bool
is_remote_of links node address = list_any (λ (l : Link). l.to == node && l.remote == address) links

abbrev pub owns : List Node → List Link → ℕ → ℕ → Bool
owns nodes links node address = is_id_of nodes node address || is_local_of links node address || is_remote_of links node address

-- whether it is this node
abbrev pub is_node : Option ℕ → ℕ → Bool
is_node None node = false
is_node (Some other) node = other == node

-- the owners of addresses are those that own them
abbrev pub AreOwners : List Node → List Link → List Owner → Type 0
AreOwners nodes links owners = (address node : ℕ) → is_node (owner_of owners address) node ≡ owns nodes links node address
