-- The paths that a network in a state admits, and those of least cost.
use Rattle.std.specs.Prelude.{ℕ, ℤ, ◌≡◌, ◌≤◌, ◌+◌, ◌==◌, ◌&&◌, ◌||◌, not, nat_le, bit_and, List, [], ◌∷◌, length, Option, Some, None, IfSome, Bool, true, slice_get}
use Rattle.std.specs.List.{list_any}
use Rattle.lsp_words.specs.declared.object.Colours.{Colours}
use Rattle.lsp_words.specs.declared.object.MetricType.{MetricType}
use Rattle.lsp_words.specs.declared.object.MetricType.TheVariants.{Igp, Te, Hops}
use Rattle.te_base.specs.declared.network.Link.{Link}
use Rattle.te_base.specs.declared.network.Owner.{Owner}
use Rattle.te_base.specs.Owners.{owner_of}
use Rattle.lsp_base.specs.declared.lsp.Constraints.{Constraints}
use Rattle.te_snapshot.specs.declared.own.OwnShare.{OwnShare}
use Rattle.te_snapshot.specs.Network.{NetworkState}
use Rattle.te_snapshot.specs.Room.{has_room}

-- ---- links

-- the link has none of the excluded colours, at least one of the include-any colours (unless there are none), and all
-- of the include-all colours (RFC 3209 section 4.7.4)
abbrev pub colours_pass : Colours → ℕ → Bool
colours_pass c colour =
    bit_and colour c.exclude_any == 0
    && ((c.include_any == 0 || not (bit_and colour c.include_any == 0))
    && bit_and colour c.include_all == c.include_all)

-- a path may take the link
abbrev pub is_open : List (List ℤ) → Constraints → List OwnShare → ℕ → ℕ → Bool
is_open unreserved c own number colour =
    colours_pass c.colours colour && has_room unreserved own c.bandwidth c.priorities.hold c.priorities.setup number

abbrev pub metric : MetricType → Link → ℕ
metric Igp l = l.igp
metric Te l = l.te
metric Hops l = 1

-- ---- paths, as lists of link numbers

-- the links exist and lead from a to b, each from where the one before it ends
abbrev pub IsJoined : List Link → ℕ → List ℕ → ℕ → Type 0
IsJoined links a [] b = a ≡ b
IsJoined links a (n ∷ ns) b = (l : Link) × (slice_get links n ≡ Some l) × (l.from ≡ a) × IsJoined links l.to ns b

-- a path may take each link
abbrev pub EachOpen : List Link → List (List ℤ) → Constraints → List OwnShare → List ℕ → Type 0
EachOpen links unreserved c own [] = Unit {0}
EachOpen links unreserved c own (n ∷ ns) =
    (l : Link) × (slice_get links n ≡ Some l) × (is_open unreserved c own n l.colour ≡ true) × EachOpen links unreserved c own ns

abbrev pub metric_of : MetricType → Option Link → ℕ
metric_of m None = 0
metric_of m (Some l) = metric m l

-- the sum of a metric along a path
abbrev pub cost_of : MetricType → List Link → List ℕ → ℕ
cost_of m links [] = 0
cost_of m links (n ∷ ns) = metric_of m (slice_get links n) + cost_of m links ns

abbrev pub end_of : Option Link → ℕ
end_of None = 0
end_of (Some l) = l.to

-- the nodes that a path passes, including its first and its last
abbrev pub nodes_of : List Link → ℕ → List ℕ → List ℕ
nodes_of links a [] = a ∷ []
nodes_of links a (n ∷ ns) = a ∷ nodes_of links (end_of (slice_get links n)) ns

-- no number is in the list twice
abbrev pub is_distinct : List ℕ → Bool
is_distinct [] = true
is_distinct (x ∷ xs) = not (list_any (λ y. y == x) xs) && is_distinct xs

-- the node that owns the address of an end; none if the end isn't given
abbrev pub node_of : List Owner → Option ℕ → Option ℕ
node_of owners None = None
node_of owners (Some address) = owner_of owners address

-- the path leads from the source's node to the destination's, passes no node twice, has 1 to 64 links and no more than
-- the hop bound, takes only links that it may take, and keeps the bound on the metric to minimise
pub record IsAdmissible (s : NetworkState) (c : Constraints) (own : List OwnShare) (path : List ℕ) : Type 0 where
  pub source : ℕ
  pub destination : ℕ
  pub from : node_of s.network.owners c.source ≡ Some source
  pub to : node_of s.network.owners c.destination ≡ Some destination
  pub joined : IsJoined s.network.links source path destination
  pub once : is_distinct (nodes_of s.network.links source path) ≡ true
  pub some : 1 ≤ length path
  pub few : length path ≤ 64
  pub hops : IfSome c.hop_bound (λ h. length path ≤ h)
  pub each : EachOpen s.network.links s.unreserved c own path
  pub cost : IfSome c.bound (λ b. cost_of c.minimise s.network.links path ≤ b)

-- the path is admissible and has this cost, and no admissible path costs less
pub record IsLeast (s : NetworkState) (c : Constraints) (own : List OwnShare) (path : List ℕ) (cost : ℕ) : Type 0 where
  pub admissible : IsAdmissible s c own path
  pub total : cost ≡ cost_of c.minimise s.network.links path
  pub least : (other : List ℕ) → IsAdmissible s c own other → cost ≤ cost_of c.minimise s.network.links other

-- no path is admissible
pub record IsImpossible (s : NetworkState) (c : Constraints) (own : List OwnShare) : Type 0 where
  pub none : (path : List ℕ) → IsAdmissible s c own path → ⊥

-- ---- bounds on metrics that aren't minimised

abbrev pub is_within : Option ℕ → ℕ → Bool
is_within None cost = true
is_within (Some bound) cost = nat_le cost bound

-- the path keeps the other bounds
abbrev pub keeps_other_bounds : List Link → Constraints → List ℕ → Bool
keeps_other_bounds links c path =
    is_within c.other_bounds.igp (cost_of Igp links path) && is_within c.other_bounds.te (cost_of Te links path)
