-- Where the route of a reported path has a gap: its links, one after the other, should lead from the sender of its LSP
-- to the endpoint (RFC 8231 section 7.3.1).
use Rattle.std.specs.Prelude.{ℕ, ◌==◌, Bool, true, List, [], ◌∷◌, map, Option, Some, None, option_map, slice_get, if◌then◌else◌}
use Rattle.te_base.specs.Owners.{owner_of}
use Rattle.te_base.specs.Ted.{Ted}
use Rattle.te_base.specs.declared.network.Link.{Link}
use Rattle.te_base.specs.declared.network.Owner.{Owner}
use Rattle.lsp_base.specs.Same.{is_reported}
use Rattle.lsp_base.specs.declared.lsp.Constraints.{Constraints}
use Rattle.lsp_base.specs.declared.path.Path.{Path}
use Rattle.pce_seen.specs.declared.gaps.Gap.{Gap}
use Rattle.pce_seen.specs.declared.gaps.Gap.TheVariants.{After, Before}
use Rattle.pce_seen.specs.declared.lsps.KnownLsp.{KnownLsp}
use Rattle.pce_seen.specs.declared.places.PlacedLsp.{PlacedLsp}

-- the nodes that a link leaves and reaches
abbrev pub from_of : List Link → ℕ → Option ℕ
from_of links l = option_map (λ k. k.from) (slice_get links l)

abbrev pub to_of : List Link → ℕ → Option ℕ
to_of links l = option_map (λ k. k.to) (slice_get links l)

-- both ends are one node, or one of them isn't known
abbrev pub meets : Option ℕ → Option ℕ → Bool
meets None b = true
meets (Some a) None = true
meets (Some a) (Some b) = a == b

-- The first gap of a route that has come to a node: `here`, if the route doesn't go on from that node. At its end the
-- route should be at `end`.
abbrev pub gap_after : List Link → Option ℕ → Gap → Option ℕ → List ℕ → Option Gap
gap_after links end here node [] = if meets node end then None else Some here
gap_after links end here node (l ∷ ls) = if meets node (from_of links l) then gap_after links end (After l) (to_of links l) ls else Some here

-- the first gap of a route from one node to another; a path without links has no gap
abbrev pub gap_between : List Link → Option ℕ → Option ℕ → List ℕ → Option Gap
gap_between links start end [] = None
gap_between links start end (l ∷ ls) = gap_after links end (Before l) start (l ∷ ls)

-- the node that owns the address, if the address is given and a node owns it
abbrev pub owner_or : List Owner → Option ℕ → Option ℕ
owner_or owners None = None
owner_or owners (Some a) = owner_of owners a

-- the first gap of a path between the ends of its LSP, if its router reported it
abbrev pub gap_in : Ted → Constraints → Path → Option Gap
gap_in te c x = if is_reported x.part then gap_between te.links (owner_or te.owners c.source) (owner_or te.owners c.destination) x.links else None

-- the first gap of each path of an LSP, in their order
abbrev pub gaps_of : Ted → KnownLsp → List (Option Gap)
gaps_of te l = map (gap_in te ((l.known).lsp).constraints) l.paths

abbrev pub placed : Ted → KnownLsp → PlacedLsp
placed te l = record { lsp = l; gaps = gaps_of te l }
