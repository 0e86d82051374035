-- The nodes, owners and links as entries of tables.
use Rattle.std.specs.Prelude.{ℕ, ◌≡◌, ◌%◌, List, Option, string_bytes}
use Rattle.std.specs.List.{AllByRecursion}
use Rattle.std.specs.declared.alloc.Global.{Global}
use Rattle.std.specs.declared.string.String.{String}
use Rattle.te_base.specs.declared.network.Node.{Node}
use Rattle.te_base.specs.declared.network.NodePlace.{NodePlace}
use Rattle.te_base.specs.declared.network.Link.{Link}
use Rattle.te_base.specs.declared.network.Owner.{Owner}

-- the node that an entry of a table by name stands for
abbrev pub node_under : String Global × (ℕ × Option NodePlace) → Node
node_under e = record { name = string_bytes e.0; id = e.1.0; place = e.1.1 }

-- each owner is under its own address
abbrev pub AreKeyed : List (ℕ × Owner) → Type 0
AreKeyed entries = AllByRecursion (λ e. e.0 ≡ e.1.address) entries

-- the bucket of the links that leave a node: any function of it would do
abbrev pub node_bucket : ℕ → ℕ
node_bucket node = node % 16384

abbrev pub link_bucket : Link → ℕ
link_bucket l = node_bucket l.from
