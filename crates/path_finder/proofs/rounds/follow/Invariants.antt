use Rattle.std.proofs.Common.{◌≡◌, ◌≢◌, ℕ, ◌<◌, ◌+◌, Some, slice_index}
use Rattle.std.specs.List.{slice_get}
use Rattle.te_base.specs.declared.network.Link.{Link}
use Rattle.path_finder.specs.Passing.{toll}
use Rattle.path_finder.proofs.rounds.follow.Given as goal

abbrev pub invariant-loop-number : goal.invariant-loop-number
invariant-loop-number l = (n : ℕ) (k : Link) (price : ℕ) → n < l.number → slice_get l.links n ≡ Some k → k.from ≡ l.at → toll l.query n k ≡ Some price → l.cost ≢ price + slice_index l.old k.to
