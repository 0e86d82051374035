-- A network as its link text describes it: nodes and links by their numbers, and who owns which address.
use Rattle.std.specs.Prelude.{ℕ, ◌≢◌, ◌<◌, ◌≤◌, ◌^◌, List, [], length, All}
use Rattle.te_base.specs.declared.network.Node.{Node}
use Rattle.te_base.specs.declared.network.Link.{Link}
use Rattle.te_base.specs.declared.network.Owner.{Owner}
use Rattle.te_base.specs.Owners.{AreOwners}

pub record Ted : Type 0 where
  pub nodes : List Node
  pub links : List Link
  pub owners : List Owner

abbrev pub empty_ted : Ted
empty_ted = record { nodes = []; links = []; owners = [] }

-- a link from one of n nodes to another, each of its numbers in its range
pub record IsLinkAmong (n : ℕ) (link : Link) : Type 0 where
  pub from : link.from < n
  pub to : link.to < n
  pub apart : link.from ≢ link.to
  pub igp_positive : 0 < link.igp
  pub igp_small : link.igp < 2 ^ 24
  pub te_positive : 0 < link.te
  pub te_small : link.te < 2 ^ 24
  pub reservable_small : link.reservable < 2 ^ 48

-- what holds of each base
pub record IsSound (base : Ted) : Type 0 where
  pub few_nodes : length base.nodes ≤ 1024
  pub few_links : length base.links ≤ 4096
  pub links : All (IsLinkAmong (length base.nodes)) base.links
  pub owners : All (λ o. o.node < length base.nodes) base.owners
  pub owned : AreOwners base.nodes base.links base.owners
