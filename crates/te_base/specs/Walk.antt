-- The links that a route uses, from the start's owner hop by hop. A route names addresses: of an explicit route (RFC
-- 3209 section 4.3.3) or of a recorded one (section 4.4). An address of the current node, for instance of the interface
-- by which the route leaves it, is remembered. One of another node leads there. Loose hops are walked like strict ones,
-- so a hop that passes several links uses none.
use Rattle.std.specs.Prelude.{ℕ, Bool, ◌==◌, ◌&&◌, List, [], ◌∷◌, ◌++◌, Option, Some, None, if◌then◌else◌, position, fold, length, slice_index_or, false, ◌≡◌, ◌<◌}
use Rattle.std.specs.List.{list_any}
use Rattle.std.specs.Option.{option_or}
use Rattle.lsp_words.specs.declared.object.Hop.{Hop}
use Rattle.lsp_words.specs.declared.object.Hop.TheVariants.{Host, Other}
use Rattle.te_base.specs.declared.network.Link.{Link}
use Rattle.te_base.specs.declared.walk.Walker.{Walker}
use Rattle.te_base.specs.Ted.{Ted}
use Rattle.te_base.specs.Owners.{owner_of}

-- the current node, the remembered address, and the links so far
pub record Position : Type 0 where
  pub node : ℕ
  pub remembered : Option ℕ
  pub links : List ℕ

-- whether a link leads from one node to the other
abbrev pub joins : ℕ → ℕ → Link → Bool
joins from to l = l.from == from && l.to == to

-- the least-numbered link whose local address is remembered
abbrev pub remembered_link : List Link → ℕ → ℕ → Option ℕ → Option ℕ
remembered_link links from to None = None
remembered_link links from to (Some near) = position (λ l. joins from to l && l.local == near) links

-- among all links from one node to another: the least-numbered by its remote address, else by the
-- remembered local address, else of all
abbrev pub chosen_link : List Link → ℕ → ℕ → ℕ → Option ℕ → Option ℕ
chosen_link links from to address remembered =
    option_or (position (λ l. joins from to l && l.remote == address) links)
    (option_or (remembered_link links from to remembered) (position (joins from to) links))

-- a link that comes again is kept once
abbrev pub with_link_once : List ℕ → Option ℕ → List ℕ
with_link_once links None = links
with_link_once links (Some link) = if list_any (λ l. l == link) links then links else links ++ link ∷ []

-- for each link, whether the walk has it
abbrev pub AreMarks : List Bool → List ℕ → Type 0
AreMarks marks links = (l : ℕ) → l < length marks → slice_index_or marks l false ≡ list_any (λ k. k == l) links

-- An address that no node owns does nothing. One of the current node is remembered instead of an earlier one. One of
-- another node leads there, and then nothing is remembered.
abbrev pub moved : Ted → Position → ℕ → Option ℕ → Position
moved base p address None = p
moved base p address (Some node) =
    if node == p.node then record { node = p.node; remembered = Some address; links = p.links }
    else record { node = node; remembered = None; links = with_link_once p.links (chosen_link base.links p.node node address p.remembered) }

abbrev pub stepped : Ted → Position → ℕ → Position
stepped base p address = moved base p address (owner_of base.owners address)

-- a hop of another kind does nothing
abbrev pub hopped : Ted → Position → Hop → Position
hopped base p (Host address loose) = stepped base p address
hopped base p (Other kind bytes) = p

-- the end is walked last
abbrev pub walk_from : Ted → Option ℕ → List Hop → ℕ → List ℕ
walk_from base None hops end = []
walk_from base (Some node) hops end = (stepped base (fold (hopped base) (record { node = node; remembered = None; links = [] }) hops) end).links

-- a start that no node owns uses no link
abbrev pub walk : Ted → ℕ → List Hop → ℕ → List ℕ
walk base start hops end = walk_from base (owner_of base.owners start) hops end

-- where the code's walker is
abbrev pub place_of : Walker → Position
place_of w = record { node = w.node; remembered = w.remembered; links = w.links.items }
