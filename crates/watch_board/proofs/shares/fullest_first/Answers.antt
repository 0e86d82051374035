use Rattle.std.proofs.Common.{rules}
use Rattle.std.proofs.lemmas.List.Sorted.{IsNonDecreasingBy-from_sort_by_key}
use Rattle.watch_board.specs.Shares.{room}
use Rattle.watch_board.proofs.shares.fullest_first.Goals as goal

pub returns-clause-fullest_first : goal.returns-clause-fullest_first
returns-clause-fullest_first c = IsNonDecreasingBy-from_sort_by_key room _ c.in_ok-sort_by_key.ensures.sorted (λ a r q k. search rules)
