use Rattle.std.proofs.Common.{◌-◌, ◌^◌, rules}
use Rattle.std.proofs.lemmas.List.Sorted.{IsNonDecreasingBy-from_sort_by_key}
use Rattle.pce_seen.proofs.tunnels.by_bandwidth.Goals as goal

pub returns-clause-falling : goal.returns-clause-falling
returns-clause-falling c = IsNonDecreasingBy-from_sort_by_key (λ h. 2 ^ 48 - h.bandwidth) _ c.in_ok-sort_by_key.ensures.sorted (λ a r q k. search rules)
