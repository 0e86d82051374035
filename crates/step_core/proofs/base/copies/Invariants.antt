use Rattle.std.proofs.Common.{◌≡◌, take}
use Rattle.step_core.proofs.base.copies.Given as goal

-- the copy has the items that the loop has passed
abbrev pub invariant-loop-item : goal.invariant-loop-item
invariant-loop-item g l = l.copies.items ≡ take l.item-index l.items
