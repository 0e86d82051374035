use Rattle.std.proofs.Common.{◌≡◌, ℕ, ◌<◌}
use Rattle.std.specs.Prelude.{Some, None, slice_get}
use Rattle.server_rules.specs.declared.known.Known.{Known}
use Rattle.server_rules.specs.Peers.{owing}
use Rattle.server_rules.proofs.expiry.Expiry.due.Given as goal

-- nothing is due for the peers so far
abbrev pub invariant-loop-at : goal.invariant-loop-at
invariant-loop-at l = (k : ℕ) (e : ℕ × Known) → k < l.at → slice_get l.self.peers.entries k ≡ Some e → owing l.now_ms l.keep_ms e.1 ≡ None
