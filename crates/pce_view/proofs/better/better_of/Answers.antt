use Rattle.std.proofs.Common.{rules}
use Rattle.std.proofs.lemmas.List.Sorted.{IsNonDecreasingBy-from_sort_by_key}
use Rattle.pce_view.specs.Better.{missing_gain}
use Rattle.pce_view.proofs.better.better_of.Goals as goal

pub returns : goal.returns
returns c = record {
  listed = _;
  each = c.in_ok-found.ensures;
  same = c.in_ok-sort_by_key.ensures.permutation;
  order = IsNonDecreasingBy-from_sort_by_key missing_gain _ c.in_ok-sort_by_key.ensures.sorted (λ a r q k. search rules);
}
