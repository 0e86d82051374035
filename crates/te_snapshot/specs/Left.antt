-- What paths leave of every link.
use Rattle.std.specs.Prelude.{ℕ, ℤ, List, length, map}
use Rattle.std.specs.List.{range_with_len}
use Rattle.lsp_base.specs.Shares.{priorities, unreserved}
use Rattle.lsp_base.specs.declared.path.Path.{Path}
use Rattle.te_base.specs.declared.network.Link.{Link}
use Rattle.te_snapshot.specs.Network.{Network, NetworkState, state_of}

-- what the paths leave of a link, at each of the eight priorities
abbrev pub left_on : List Link → List Path → ℕ → List ℤ
left_on links paths l = map (unreserved links paths l) (priorities 0 7)

-- what the paths leave of each link, by its number
unfoldable pub all_left : List Link → List Path → List (List ℤ)
all_left links paths = map (left_on links paths) (range_with_len 0 (length links))

-- the network with what these paths leave of its links
abbrev pub state_beside : Network → List Path → NetworkState
state_beside n paths = state_of n (all_left n.links paths)
