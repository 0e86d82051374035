use Rattle.std.proofs.Common.{◌<◌, length, arith}
use Rattle.bandwidth_book.proofs.Dropped.{picked_more}
use Rattle.bandwidth_book.proofs.drops.places_of.Goals as goal

pub loop-place-preserved : goal.loop-place-preserved
loop-place-preserved c =
    let less : c.loop-place.place < length c.args.paths.now = (let test = c.loop-place-test.true in let end = c.loop-place.auto.place-end in omega (arith, test, end)) in
    rw c.in_ok-push.ensures.items (picked_more c.loop-place.places.items c.loop-place.place c.args.paths.now c.loop-place.invariant less)
