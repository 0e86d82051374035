-- Walks along links, and certificates for what they cost.
use Rattle.std.specs.Prelude.{ℕ, ◌≡◌, ◌≢◌, ◌⊎◌, ◌≤◌, ◌<◌, ◌+◌, ◌*◌, ◌^◌, List, [], ◌∷◌, length, slice_index, Some, All}
use Rattle.std.specs.List.{slice_get}
use Rattle.te_base.specs.declared.network.Link.{Link}
use Rattle.path_finder.specs.declared.query.Query.{Query}
use Rattle.te_snapshot.specs.declared.outgoing.Outgoing.{Outgoing}
use Rattle.te_snapshot.specs.Leaving.{leaving, entering}
use Rattle.path_finder.specs.Passing.{fee, toll}

-- each link joins nodes of the table
abbrev pub InRange : List Link → ℕ → Type 0
InRange links nodes = All (λ l. (l.from < nodes) × (l.to < nodes)) links

-- the metrics of each link are in their range
abbrev pub HasMetrics : List Link → Type 0
HasMetrics links = All (λ l. (0 < l.te) × (l.te < 2 ^ 24) × (0 < l.igp) × (l.igp < 2 ^ 24)) links

-- the links lead from a to b, each one open, and their costs add up to `cost`
abbrev pub Leads : Query → List Link → ℕ → List ℕ → ℕ → ℕ → Type 0
Leads q links a [] b cost = (a ≡ b) × (cost ≡ 0)
Leads q links a (n ∷ ns) b cost = (l : Link) × (price : ℕ) × (rest : ℕ) × (slice_get links n ≡ Some l) × (l.from ≡ a) × (toll q n l ≡ Some price) × Leads q links l.to ns b rest × (cost ≡ price + rest)

-- from the near end of a link to its far end the label rises by no more than the fee, if a path may take the link
abbrev pub Rises : Query → ℕ → ℕ → Outgoing → Type 0
Rises q near far arc = (price : ℕ) → fee q arc ≡ Some price → far ≤ near + price

-- the same for a link that leaves a node with this label
abbrev pub RisesFrom : Query → List ℕ → ℕ → Outgoing → Type 0
RisesFrom q labels label arc = Rises q label (slice_index labels arc.to) arc

-- the same for a link, turned round, that enters a node with this label
abbrev pub RisesInto : Query → List ℕ → ℕ → Outgoing → Type 0
RisesInto q labels label arc = Rises q (slice_index labels arc.to) label arc

-- the same for the links that leave a node below the middle, and for those that enter a node above it
pub record IsRelaxedAt (q : Query) (links : List Link) (labels : List ℕ) (middle v : ℕ) : Type 0 where
  pub from : slice_index labels v < middle → All (RisesFrom q labels (slice_index labels v)) (leaving links v)
  pub into : middle < slice_index labels v → All (RisesInto q labels (slice_index labels v)) (entering links v)

-- along each link that a path may take the label rises by no more than the toll
pub record IsRelaxed (q : Query) (links : List Link) (labels : List ℕ) : Type 0 where
  pub each : (n : ℕ) (l : Link) (price : ℕ) → slice_get links n ≡ Some l → toll q n l ≡ Some price → slice_index labels l.to ≤ slice_index labels l.from + price

-- no walk costs less
abbrev pub NoneCheaper : Query → List Link → ℕ → ℕ → ℕ → Type 0
NoneCheaper q links a b limit = (ns : List ℕ) (cost : ℕ) → Leads q links a ns b cost → limit ≤ cost

-- from the destination to itself the cost is 0, and nothing is known about the other nodes
pub record IsFirst (row : List ℕ) (destination limit : ℕ) : Type 0 where
  pub here : slice_index row destination ≡ 0
  pub elsewhere : (v : ℕ) → v < length row → v ≢ destination → limit ≤ slice_index row v

-- the cost from v is that of one link plus the old row's cost from where it ends
pub record IsMade (q : Query) (links : List Link) (old : List ℕ) (v cost : ℕ) : Type 0 where
  pub n : ℕ
  pub link : Link
  pub price : ℕ
  pub here : slice_get links n ≡ Some link
  pub from : link.from ≡ v
  pub passes : toll q n link ≡ Some price
  pub sum : cost ≡ price + slice_index old link.to

-- the new row is at most what the old one and this link give, if that is below the limit
abbrev pub Reaches : Query → List ℕ → List ℕ → ℕ → ℕ → Link → Type 0
Reaches q old new limit n l = (price : ℕ) → toll q n l ≡ Some price → price + slice_index old l.to < limit → slice_index new l.from ≤ price + slice_index old l.to

-- the new row is the old one with one more link in front, if that costs less
pub record IsNext (q : Query) (links : List Link) (old new : List ℕ) (limit : ℕ) : Type 0 where
  pub size : length new ≡ length old
  pub below : (v : ℕ) → slice_index new v ≤ slice_index old v
  pub reaches : (n : ℕ) (l : Link) → slice_get links n ≡ Some l → Reaches q old new limit n l
  pub made : (v : ℕ) → (slice_index new v ≡ slice_index old v) ⊎ IsMade q links old v (slice_index new v)

-- each walk of at most `most` links to the destination that costs less than the limit costs at least what the row says
pub record IsBelow (q : Query) (links : List Link) (destination limit : ℕ) (row : List ℕ) (most : ℕ) : Type 0 where
  pub each : (v : ℕ) (ns : List ℕ) (cost : ℕ) → Leads q links v ns destination cost → cost < limit → length ns ≤ most → slice_index row v ≤ cost

-- the front of a least walk: it leads to a node from which the row knows the rest
pub record IsFront (q : Query) (links : List Link) (source destination limit : ℕ) (row : List ℕ) (used left : ℕ) (path : List ℕ) (at paid : ℕ) : Type 0 where
  pub inside : at < length row
  pub leads : Leads q links source path at paid
  pub short : length path ≤ left
  pub small : paid ≤ 2 ^ 24 * left
  pub least : (ns : List ℕ) (cost : ℕ) → Leads q links source ns destination cost → cost < limit → length ns ≤ used + left → paid + slice_index row at ≤ cost

-- a walk of at most `hops` links, and no other such walk costs less
pub record IsLeastWalk (q : Query) (links : List Link) (source destination limit hops : ℕ) (path : List ℕ) (cost : ℕ) : Type 0 where
  pub leads : Leads q links source path destination cost
  pub short : length path ≤ hops
  pub under : cost < limit
  pub least : (ns : List ℕ) (other : ℕ) → Leads q links source ns destination other → length ns ≤ hops → cost ≤ other

-- each walk of at most `hops` links costs at least the limit
pub record NoneWithin (q : Query) (links : List Link) (source destination limit hops : ℕ) : Type 0 where
  pub each : (ns : List ℕ) (cost : ℕ) → Leads q links source ns destination cost → length ns ≤ hops → limit ≤ cost
