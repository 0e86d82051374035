-- The links that leave a node, and those that enter it.
use Rattle.std.specs.Prelude.{ℕ, ◌==◌, ◌<◌, ◌+◌, ◌^◌, List, [], ◌∷◌, Option, Some, None, map, slice_get, if◌then◌else◌}
use Rattle.std.specs.declared.vec.Vec.{Vec}
use Rattle.std.specs.declared.alloc.Global.{Global}
use Rattle.te_base.specs.declared.network.Link.{Link}
use Rattle.te_snapshot.specs.declared.outgoing.Outgoing.{Outgoing}

-- a link as seen from the node that it leaves
abbrev pub arc_of : ℕ → Link → Outgoing
arc_of number l = record { number = number; to = l.to; igp = l.igp; te = l.te; colour = l.colour }

abbrev pub leaving_from : ℕ → List Link → ℕ → List Outgoing
leaving_from number [] node = []
leaving_from number (l ∷ ls) node =
    if l.from == node then arc_of number l ∷ leaving_from (number + 1) ls node else leaving_from (number + 1) ls node

-- the links that leave the node, in the order of their numbers
abbrev pub leaving : List Link → ℕ → List Outgoing
leaving links node = leaving_from 0 links node

-- a link turned round
abbrev pub turned : Link → Link
turned l = record { from = l.to; to = l.from; local = l.remote; remote = l.local; igp = l.igp; te = l.te; colour = l.colour; reservable = l.reservable }

-- the links that enter the node, in the order of their numbers, each turned round: it reaches the node that the link
-- leaves
abbrev pub entering : List Link → ℕ → List Outgoing
entering links node = leaving (map turned links) node

abbrev pub revalued : Option Link → Outgoing → Outgoing
revalued None a = a
revalued (Some l) a = record { number = a.number; to = a.to; igp = l.igp; te = l.te; colour = l.colour }

-- a link as seen from a node at its end, with the values that it has among these links
abbrev pub arc_now : List Link → Outgoing → Outgoing
arc_now links a = revalued (slice_get links a.number) a

-- it leads to one of this number of nodes, and its metrics are in their range
pub record IsArcAmong (nodes : ℕ) (arc : Outgoing) : Type 0 where
  pub to : arc.to < nodes
  pub igp_positive : 0 < arc.igp
  pub igp_small : arc.igp < 2 ^ 24
  pub te_positive : 0 < arc.te
  pub te_small : arc.te < 2 ^ 24

abbrev pub items_in : Option (Vec Outgoing Global) → List Outgoing
items_in None = []
items_in (Some v) = v.items

-- the list at a place, or none
abbrev pub listed : List (Vec Outgoing Global) → ℕ → List Outgoing
listed lists node = items_in (slice_get lists node)
