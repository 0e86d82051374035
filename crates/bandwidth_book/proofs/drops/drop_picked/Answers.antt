use Rattle.std.proofs.Common.{◌≤◌, ◌∙◌, arith}
use Rattle.bandwidth_book.specs.Ledgers.{held_at, promised_on}
use Rattle.bandwidth_book.specs.Paths.{held_by}
use Rattle.bandwidth_book.proofs.Dropped.{next_dropped}
use Rattle.bandwidth_book.proofs.Moved.{moved_drop}
use Rattle.bandwidth_book.proofs.drops.drop_picked.Goals as goal

pub loop-place-preserved : goal.loop-place-preserved
loop-place-preserved c =
    let known = c.loop-place.invariant in
    let same = known.same in
    let test = c.loop-place-test.true in
    record {
      same = c.move_paths.ensures.count ∙ same;
      kept = λ n k h.
          next_dropped n k c.args.places.now c.loop-place.place-index c.args.paths.now c.one_of.result.now (held_at c.loop-place.ledgers n k) (held_at c.move_paths.new.ledgers n k) test c.one_of.ensures
          ((c.move_paths.ensures.moved n k (omega (arith, h, same))).kept ∙ moved_drop (held_at c.loop-place.ledgers n k) (held_by n k c.one_of.result.now))
          ∙ known.kept n k h;
      promised = λ n k h.
          let before = known.promised n k h in
          let below = (c.move_paths.ensures.moved n k (omega (arith, h, same))).below in
          let above : promised_on c.loop-place.ledgers n k ≤ promised_on c.move_paths.new.ledgers n k = (rw c.unwrap.ensures at c.move_paths.ensures.ok) n k (omega (arith, h, same)) in
          omega (arith, before, below, above);
    }
