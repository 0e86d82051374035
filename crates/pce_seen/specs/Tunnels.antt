-- The tunnels on a link, by what they hold there.
use Rattle.std.specs.Prelude.{◌≡◌, ◌-◌, ◌^◌, Bool, List, [], ◌∷◌, ◌++◌, fold, if◌then◌else◌, IsPermutation}
use Rattle.std.specs.List.{list_any}
use Rattle.std.specs.List.Sorted.{IsNonDecreasingBy}
use Rattle.lsp_base.specs.Same.{same_tunnel}
use Rattle.pce_seen.specs.declared.lsps.HeldPath.{HeldPath}

-- a path of the same tunnel is among these
abbrev pub is_beside : List HeldPath → HeldPath → Bool
is_beside kept h = list_any (λ k. same_tunnel k.tunnel h.tunnel) kept

abbrev pub with_first : List HeldPath → HeldPath → List HeldPath
with_first kept h = if is_beside kept h then kept else kept ++ h ∷ []

-- the first path of each tunnel
abbrev pub first_of_each : List HeldPath → List HeldPath
first_of_each paths = fold with_first [] paths

-- Of each tunnel, the path with the greatest bandwidth there, which is what the tunnel holds. The greatest come first.
pub record IsByTunnel (held tunnels : List HeldPath) : Type 0 where
  pub sorted : List HeldPath
  pub same : IsPermutation held sorted
  pub falling : IsNonDecreasingBy (λ h. 2 ^ 48 - h.bandwidth) sorted
  pub firsts : tunnels ≡ first_of_each sorted
