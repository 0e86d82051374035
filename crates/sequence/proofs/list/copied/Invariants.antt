use Rattle.std.proofs.Common.{◌≡◌, take}
use Rattle.sequence.proofs.list.copied.Given as goal

-- the copy has the items that the loop has passed
abbrev pub invariant-loop-item : goal.invariant-loop-item
invariant-loop-item g l = l.copy.items ≡ take l.item-index l.items.items
