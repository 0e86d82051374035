-- A path that costs less than the paths that an LSP has.
use Rattle.std.specs.Prelude.{ℕ, ◌≡◌, ◌<◌, ◌≤◌, ◌&&◌, nat_le, min, List, length, Option, Some, None, IfSome, IfNone, if◌then◌else◌, fold}
use Rattle.lsp_words.specs.declared.object.MetricType.{MetricType}
use Rattle.te_base.specs.declared.network.Link.{Link}
use Rattle.lsp_base.specs.declared.lsp.Constraints.{Constraints}
use Rattle.lsp_base.specs.declared.path.Path.{Path}
use Rattle.te_snapshot.specs.Admissible.{cost_of}
use Rattle.te_snapshot.specs.Network.{NetworkState}
use Rattle.te_snapshot.specs.declared.own.OwnShare.{OwnShare}
use Rattle.path_finder.specs.Answers.{IsAnswer, IsRefused}
use Rattle.path_finder.specs.declared.found.Found.{Found}
use Rattle.path_looks.specs.declared.cheaper.Cheaper.{Cheaper}

-- what a path of 1 to 64 links costs
abbrev pub known_cost : MetricType → List Link → Path → Option ℕ
known_cost m links x = if nat_le 1 (length x.links) && nat_le (length x.links) 64 then Some (cost_of m links x.links) else None

abbrev pub lesser : Option ℕ → Option ℕ → Option ℕ
lesser None cost = cost
lesser (Some best) None = Some best
lesser (Some best) (Some cost) = Some (min best cost)

-- the cost of the cheapest of the paths, if one of them has a cost
abbrev pub standing_cost : MetricType → List Link → List Path → Option ℕ
standing_cost m links paths = fold (λ best x. lesser best (known_cost m links x)) None paths

-- the path is admissible given what the tunnel holds, and of least cost; and it costs less than each existing one
pub record IsCheaper (s : NetworkState) (c : Constraints) (own : List OwnShare) (paths : List Path) (x : Cheaper) : Type 0 where
  pub answer : IsAnswer s c own x.path
  pub standing : standing_cost c.minimise s.network.links paths ≡ Some x.standing
  pub less : x.path.cost < x.standing

-- if the search finds a path, it costs at least as much
pub record IsUnbeatenAt (s : NetworkState) (c : Constraints) (own : List OwnShare) (standing : ℕ) : Type 0 where
  pub found : Option Found
  pub answer : IfSome found (IsAnswer s c own)
  pub refused : IfNone found (IsRefused s c own)
  pub more : IfSome found (λ f. standing ≤ f.cost)

-- no path has a cost, or none costs less than the cheapest
abbrev pub IsUnbeaten : NetworkState → Constraints → List OwnShare → List Path → Type 0
IsUnbeaten s c own paths = IfSome (standing_cost c.minimise s.network.links paths) (IsUnbeatenAt s c own)
