use Rattle.std.proofs.Common.{◌≡◌, ℕ, ◌<◌}
use Rattle.std.specs.Prelude.{false, Some, slice_get}
use Rattle.server_rules.specs.declared.known.Known.{Known}
use Rattle.server_rules.proofs.expiry.Expiry.owes_a_down.Given as goal

-- none of the peers so far owes a Down
abbrev pub invariant-loop-at : goal.invariant-loop-at
invariant-loop-at l = (k : ℕ) (e : ℕ × Known) → k < l.at → slice_get l.self.peers.entries k ≡ Some e → e.1.owes_a_down ≡ false
