-- Paths that a network admits, given its current LSPs.
use Rattle.std.specs.Prelude.{ℕ, Bool, false, ◌==◌, ◌&&◌, nat_lt, nat_le, List, [], ◌∷◌, length, map, Option, Some, None, slice_get}
use Rattle.std.specs.List.{list_all}
use Rattle.lsp_words.specs.declared.object.Colours.{Colours}
use Rattle.te_base.specs.Ted.{Ted}
use Rattle.te_base.specs.declared.network.Link.{Link}
use Rattle.te_snapshot.specs.Admissible.{colours_pass, cost_of, is_distinct, is_within, keeps_other_bounds, node_of, nodes_of}
use Rattle.lsp_base.specs.Shares.{fits}
use Rattle.lsp_base.specs.declared.lsp.Constraints.{Constraints}
use Rattle.lsp_base.specs.declared.path.Path.{Path}

-- the links exist, and lead from one node to another, each from where the one before it ends
abbrev pub leads : ℕ → ℕ → List (Option Link) → Bool
leads from to [] = from == to
leads from to (None ∷ more) = false
leads from to (Some link ∷ more) = link.from == from && leads link.to to more

-- both ends exist, and the links lead from one to the other and pass no node twice
abbrev pub joins : List Link → List ℕ → Option ℕ → Option ℕ → Bool
joins links path (Some from) (Some to) = leads from to (map (slice_get links) path) && is_distinct (nodes_of links from path)
joins links path (Some from) None = false
joins links path None to = false

abbrev pub has_colours : Colours → Option Link → Bool
has_colours colours None = false
has_colours colours (Some link) = colours_pass colours link.colour

abbrev pub all_have_colours : List Link → Colours → List ℕ → Bool
all_have_colours links colours path = list_all (λ n. has_colours colours (slice_get links n)) path

-- the links are a path that the constraints allow, apart from bandwidth and other bounds
unfoldable pub is_route : Ted → Constraints → List ℕ → Bool
is_route te c path =
    nat_lt 0 (length path)
    && (nat_le (length path) 64
    && (is_within c.hop_bound (length path)
    && (joins te.links path (node_of te.owners c.source) (node_of te.owners c.destination)
    && (all_have_colours te.links c.colours path
    && is_within c.bound (cost_of c.minimise te.links path)))))

-- one more path is admissible now, given the existing paths
abbrev pub is_admissible : Ted → List Path → Constraints → Path → Bool
is_admissible te paths c g = is_route te c g.links && fits te.links paths g c.priorities.setup

-- and within the bounds on metrics that aren't minimised
abbrev pub is_acceptable : Ted → List Path → Constraints → Path → Bool
is_acceptable te paths c g = is_admissible te paths c g && keeps_other_bounds te.links c g.links
