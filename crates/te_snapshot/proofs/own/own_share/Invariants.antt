use Rattle.std.proofs.Common.{◌≡◌, drop}
use Rattle.te_snapshot.specs.Room.{own_share}
use Rattle.te_snapshot.proofs.own.own_share.Given as goal

abbrev pub invariant-loop-held : goal.invariant-loop-held
invariant-loop-held l = own_share (drop l.held-index l.own) l.link l.priority ≡ own_share l.own l.link l.priority
