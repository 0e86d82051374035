-- The values that a link text, read again, gives the links of a network.
use Rattle.std.specs.Prelude.{ℕ, ◌==◌, ◌&&◌, Bool, List, Result, Ok, Err, if◌then◌else◌}
use Rattle.std.specs.Cmp.Lexicographic.{pointwise}
use Rattle.std.specs.Str.{bytes_eq}
use Rattle.te_base.specs.declared.fault.TeFault.{TeFault}
use Rattle.te_base.specs.declared.fault.TeFault.TheVariants.{OtherLinks}
use Rattle.te_base.specs.declared.network.Node.{Node}
use Rattle.te_base.specs.declared.network.Link.{Link}
use Rattle.te_base.specs.Faults.{◌>>=◌}
use Rattle.te_base.specs.Ted.{Ted}
use Rattle.te_base.specs.Values.{Values, values_in}
use Rattle.te_base.specs.LinkText.{base_of}

-- one name and one id; the place may be another
abbrev pub same_node : Node → Node → Bool
same_node n m = bytes_eq n.name m.name && n.id == m.id

-- the same nodes joined, with the same addresses there
abbrev pub same_ends : Link → Link → Bool
same_ends l k = (l.from == k.from && l.to == k.to) && (l.local == k.local && l.remote == k.remote)

-- as many nodes and links, and the same at each number
abbrev pub same_network : Ted → Ted → Bool
same_network a b = pointwise same_node a.nodes b.nodes && pointwise same_ends a.links b.links

-- the values, if the text has the nodes and the ends of the links of the network
abbrev pub values_for : Ted → Ted → Result (List Values) TeFault
values_for base other = if same_network base other then Ok (values_in other) else Err OtherLinks

-- the values that the text gives, or its first fault, or at last that it says another network
abbrev pub reloaded : Ted → List ℕ → Result (List Values) TeFault
reloaded base text = base_of text >>= values_for base
