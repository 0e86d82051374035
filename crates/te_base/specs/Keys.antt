-- The keys of a link text's tables, and what may stand at each.
use Rattle.std.specs.Prelude.{ℕ, codes, ◌&&◌, Bool, nat_le, List}
use Rattle.te_base.specs.declared.keys.TableKind.{TableKind}
use Rattle.te_base.specs.declared.keys.TableKind.TheVariants.{Nodes, Links}
use Rattle.te_base.specs.declared.keys.Key.{Key}
use Rattle.te_base.specs.declared.keys.Key.TheVariants.{Name, Id, From, To, Local, Remote, Igp, Te, Colour, Reservable}

-- the key of the array of these tables
abbrev pub kind_word : TableKind → List ℕ
kind_word Nodes = codes "node"
kind_word Links = codes "link"

abbrev pub key_word : Key → List ℕ
key_word Name = codes "name"
key_word Id = codes "id"
key_word From = codes "from"
key_word To = codes "to"
key_word Local = codes "local"
key_word Remote = codes "remote"
key_word Igp = codes "igp"
key_word Te = codes "te"
key_word Colour = codes "colour"
key_word Reservable = codes "reservable"

-- The least and the most that may stand at a key: bytes of a name, an address as a number (no node has 0.0.0.0), or a
-- number.
abbrev pub range : Key → ℕ × ℕ
range Name = (1, 64)
range Id = (1, 4294967295)
range From = (1, 64)
range To = (1, 64)
range Local = (1, 4294967295)
range Remote = (1, 4294967295)
range Igp = (1, 16777215)
range Te = (1, 16777215)
range Colour = (0, 4294967295)
range Reservable = (0, 281474976710655)

abbrev pub is_within : Key → ℕ → Bool
is_within key n = nat_le (range key).0 n && nat_le n (range key).1
