-- The values that a link text's fields may have.
use Rattle.std.specs.Prelude.{ℕ, ℤ, pos, negsuc, List, length, Result, Ok, Err, if◌then◌else◌}
use Rattle.pcep_word.specs.Address.{address_of}
use Rattle.te_base.specs.declared.fault.FaultPlace.{FaultPlace}
use Rattle.te_base.specs.declared.fault.PlacedFault.{PlacedFault}
use Rattle.te_base.specs.declared.fault.TeFault.TheVariants.{OutOfRange}
use Rattle.te_base.specs.declared.keys.Key.{Key}
use Rattle.te_base.specs.declared.keys.Key.TheVariants.{Name, Id, From, To, Local, Remote, Igp, Te, Colour, Reservable}
use Rattle.te_base.specs.declared.network.Node.{Node}
use Rattle.te_base.specs.Faults.{◌>>=◌, some_or}
use Rattle.te_base.specs.Fields.{NodeText, LinkText}
use Rattle.te_base.specs.Keys.{is_within}
use Rattle.te_base.specs.Places.{fault_at}
use Rattle.te_base.specs.Values.{Values}

-- a name of as many bytes as it may have
abbrev pub name_of : FaultPlace → Key → List ℕ → Result (List ℕ) PlacedFault
name_of at key text = if is_within key (length text) then Ok text else Err (fault_at at key OutOfRange)

-- a dotted address other than 0.0.0.0, which no node has
abbrev pub address_in : FaultPlace → Key → List ℕ → Result ℕ PlacedFault
address_in at key text = some_or (fault_at at key OutOfRange) (address_of text) >>= λ address. if is_within key address then Ok address else Err (fault_at at key OutOfRange)

abbrev pub number_in : FaultPlace → Key → ℤ → Result ℕ PlacedFault
number_in at key (pos n) = if is_within key n then Ok n else Err (fault_at at key OutOfRange)
number_in at key (negsuc n) = Err (fault_at at key OutOfRange)

unfoldable pub node_value : FaultPlace → NodeText → Result Node PlacedFault
node_value at t = do
  name ← name_of at Name t.name
  id ← address_in at Id t.id
  Ok (record { name = name; id = id; place = t.place })

-- the addresses of a link; the names of its ends must be names, whether or not a node has them
unfoldable pub link_addresses : FaultPlace → LinkText → Result (ℕ × ℕ) PlacedFault
link_addresses at t = do
  from ← name_of at From t.from
  to ← name_of at To t.to
  near ← address_in at Local t.local
  far ← address_in at Remote t.remote
  Ok (near, far)

unfoldable pub link_values : FaultPlace → LinkText → Result Values PlacedFault
link_values at t = do
  igp ← number_in at Igp t.igp
  te ← number_in at Te t.te
  colour ← number_in at Colour t.colour
  reservable ← number_in at Reservable t.reservable
  Ok (record { igp = igp; te = te; colour = colour; reservable = reservable })
