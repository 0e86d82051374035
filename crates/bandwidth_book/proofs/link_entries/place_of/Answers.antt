use Rattle.std.proofs.Common.{◌<◌, ◌≤◌, ◌+◌, ◌-◌, ◌/◌, length, arith}
use Rattle.bandwidth_book.specs.Entries.{place_on}
use Rattle.bandwidth_book.proofs.Rising.{before_place, after_place}
use Rattle.bandwidth_book.proofs.link_entries.place_of.Goals as goal

pub loop-low-preserved-then-entries-middle : goal.loop-low-preserved-then-entries-middle
loop-low-preserved-then-entries-middle c =
    let middle = c.loop-low.low + (c.loop-low.high - c.loop-low.low) / 2 in
    let below : middle < length c.args.entries.now = grind arith in
    let first : middle < place_on c.args.link c.args.entries.now = before_place c.args.link c.index-entries-middle.result c.args.entries.now middle c.requires below c.if-entries-middle.true in
    record { after = omega (arith, first); before = c.loop-low.invariant.before; within = c.loop-low.invariant.within }

pub loop-low-preserved : goal.loop-low-preserved
loop-low-preserved c =
    let middle = c.loop-low.low + (c.loop-low.high - c.loop-low.low) / 2 in
    let below : middle < length c.args.entries.now = grind arith in
    let last : place_on c.args.link c.args.entries.now ≤ middle = after_place c.args.link c.index-entries-middle.result c.args.entries.now middle below c.if-entries-middle.false in
    record { after = c.loop-low.invariant.after; before = last; within = omega (arith, below) }
