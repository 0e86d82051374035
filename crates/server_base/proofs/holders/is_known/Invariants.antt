use Rattle.std.proofs.Common.{◌≡◌, drop}
use Rattle.step_core.specs.States.{is_known}
use Rattle.server_base.proofs.holders.is_known.Given as goal

abbrev pub invariant-loop-known : goal.invariant-loop-known
invariant-loop-known l = is_known (drop l.known-index l.peers) l.peer ≡ is_known l.peers l.peer
