-- What a search answers.
use Rattle.std.specs.Prelude.{ℕ, ◌≡◌, ◌⊎◌, List, false, true}
use Rattle.lsp_base.specs.declared.lsp.Constraints.{Constraints}
use Rattle.te_snapshot.specs.declared.own.OwnShare.{OwnShare}
use Rattle.te_snapshot.specs.Network.{NetworkState, state_of}
use Rattle.te_snapshot.specs.Admissible.{IsLeast, IsImpossible, keeps_other_bounds}
use Rattle.path_finder.specs.declared.query.Query.{Query}
use Rattle.path_finder.specs.declared.found.Found.{Found}

-- an admissible path of least cost that keeps the other bounds, with its cost
pub record IsAnswer (s : NetworkState) (c : Constraints) (own : List OwnShare) (f : Found) : Type 0 where
  pub least : IsLeast s c own f.links f.cost
  pub within : keeps_other_bounds s.network.links c f.links ≡ true

-- a least path that breaks another bound
pub record IsOutOfBounds (s : NetworkState) (c : Constraints) (own : List OwnShare) : Type 0 where
  pub path : List ℕ
  pub cost : ℕ
  pub least : IsLeast s c own path cost
  pub breaks : keeps_other_bounds s.network.links c path ≡ false

-- nothing is admissible, or a least path breaks another bound
abbrev pub IsRefused : NetworkState → Constraints → List OwnShare → Type 0
IsRefused s c own = IsImpossible s c own ⊎ IsOutOfBounds s c own

-- the network that is searched
abbrev pub searched : Query → NetworkState
searched q = state_of q.topology.now q.unreserved.now
