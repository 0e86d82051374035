use Rattle.std.proofs.Common.{◌≡◌, drop}
use Rattle.server_signals.specs.Rings.{rung_for}
use Rattle.server_signals.proofs.wakers.ring.Given as goal

abbrev pub invariant-loop-connection : goal.invariant-loop-connection
invariant-loop-connection l = rung_for l.peer (drop l.connection-index l.taken) l.slots ≡ rung_for l.peer l.taken l.fn.slots
