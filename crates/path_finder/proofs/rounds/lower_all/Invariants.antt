use Rattle.std.proofs.Common.{◌≡◌, ◌⊎◌, ℕ, ◌<◌, ◌≤◌, Some, length, slice_index}
use Rattle.std.specs.List.{slice_get}
use Rattle.te_base.specs.declared.network.Link.{Link}
use Rattle.path_finder.specs.Walks.{IsMade, Reaches}
use Rattle.path_finder.proofs.rounds.lower_all.Given as goal

abbrev pub invariant-loop-number : goal.invariant-loop-number
invariant-loop-number l = record {
  size : length l.row ≡ length l.old;
  below : (v : ℕ) → slice_index l.row v ≤ slice_index l.old v;
  reaches : (n : ℕ) (k : Link) → n < l.number → slice_get l.links n ≡ Some k → Reaches l.query l.old l.row l.limit n k;
  made : (v : ℕ) → (slice_index l.row v ≡ slice_index l.old v) ⊎ IsMade l.query l.links l.old v (slice_index l.row v);
}
