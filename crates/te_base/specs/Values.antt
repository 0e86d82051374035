-- The values of a link that may change while its network stays the same: its metrics, its colours and how much may be
-- reserved.
use Rattle.std.specs.Prelude.{ℕ, zero, suc, ◌≡◌, ◌<◌, ◌^◌, ◌&&◌, List, [], ◌∷◌, Option, Some, None, if◌then◌else◌, map}
use Rattle.te_base.specs.declared.keys.Key.TheVariants.{Igp, Te, Colour, Reservable}
use Rattle.te_base.specs.declared.network.Link.{Link}
use Rattle.te_base.specs.Keys.{is_within}
use Rattle.te_base.specs.Ted.{Ted}

pub record Values : Type 0 where
  pub igp : ℕ
  pub te : ℕ
  pub colour : ℕ
  pub reservable : ℕ

-- each value in its range; a colour may be any number of 32 bits
pub record AreInRange (v : Values) : Type 0 where
  pub igp_positive : 0 < v.igp
  pub igp_small : v.igp < 2 ^ 24
  pub te_positive : 0 < v.te
  pub te_small : v.te < 2 ^ 24
  pub reservable_small : v.reservable < 2 ^ 48

-- these numbers as values of a link; none if one is out of its range
unfoldable pub checked_values : (igp te colour reservable : ℕ) → Option Values
checked_values igp te colour reservable =
    if is_within Igp igp && is_within Te te && is_within Colour colour && is_within Reservable reservable
    then Some (record { igp = igp; te = te; colour = colour; reservable = reservable })
    else None

-- ---- of one link

abbrev pub values_of : Link → Values
values_of l = record { igp = l.igp; te = l.te; colour = l.colour; reservable = l.reservable }

-- the link with other values
abbrev pub with_values : Link → Values → Link
with_values l v = record { from = l.from; to = l.to; local = l.local; remote = l.remote; igp = v.igp; te = v.te; colour = v.colour; reservable = v.reservable }

-- what stays of a link: the nodes that it joins, and its addresses there
pub record Ends : Type 0 where
  pub from : ℕ
  pub to : ℕ
  pub local : ℕ
  pub remote : ℕ

abbrev pub ends_in : Link → Ends
ends_in l = record { from = l.from; to = l.to; local = l.local; remote = l.remote }

-- ---- of all links, each at its number

-- the link of this number with other values; nothing changes if there is none
abbrev pub set_values : List Link → ℕ → Values → List Link
set_values [] n v = []
set_values (l ∷ ls) zero v = with_values l v ∷ ls
set_values (l ∷ ls) (suc n) v = l ∷ set_values ls n v

-- each link with the values at its number
abbrev pub set_all_values : List Link → List Values → List Link
set_all_values [] vs = []
set_all_values (l ∷ ls) [] = l ∷ ls
set_all_values (l ∷ ls) (v ∷ vs) = with_values l v ∷ set_all_values ls vs

-- ---- of a network

abbrev pub with_links_of : Ted → List Link → Ted
with_links_of b links = record { nodes = b.nodes; links = links; owners = b.owners }

abbrev pub with_link_values : Ted → ℕ → Values → Ted
with_link_values b n v = with_links_of b (set_values b.links n v)

abbrev pub values_in : Ted → List Values
values_in b = map values_of b.links

abbrev pub with_all_values : Ted → List Values → Ted
with_all_values b vs = with_links_of b (set_all_values b.links vs)

-- both are the same network, apart from the values of its links
pub record IsSameNetwork (a b : Ted) : Type 0 where
  pub nodes : a.nodes ≡ b.nodes
  pub owners : a.owners ≡ b.owners
  pub ends : map ends_in a.links ≡ map ends_in b.links
