use Rattle.std.proofs.Common.{◌≡◌, ◌≤◌, [], length, drop, ◌∙◌, arith, inl, inr}
use Rattle.std.proofs.lemmas.Bool.{cases_Bool}
use Rattle.bandwidth_book.specs.Entries.{IsMoved}
use Rattle.bandwidth_book.specs.Reservation.{held_of, promised_after, takes_memory}
use Rattle.bandwidth_book.specs.Ledgers.{entry_at, promised_on}
use Rattle.bandwidth_book.specs.Tunnels.{held_by_path}
use Rattle.bandwidth_book.proofs.Moved.{after_next, room_next, unmoved}
use Rattle.bandwidth_book.proofs.Promises.{next_long, path_moved, path_refused}
use Rattle.bandwidth_book.proofs.Written.{no_more}
use Rattle.bandwidth_book.proofs.paths.move_paths.Goals as goal

pub loop-path-preserved : goal.loop-path-preserved
loop-path-preserved c =
    let known = c.loop-path.invariant in
    let same = known.same in
    let i = c.loop-path.path-index in
    let x = c.path-item.result in
    let test = c.loop-path-test.true in
    record {
      same = c.move_path.ensures.count ∙ same;
      moved = λ n k end h rest.
          let one : IsMoved c.args.op (held_by_path x.tunnel (held_of x) n k x.links) (entry_at c.loop-path.ledgers n k) (entry_at c.move_path.new.self n k) = rw (c.held_of.ensures.held, c.as_slice.ensures) at (c.move_path.ensures.moved n k (omega (arith, h, same))) in
          known.moved n k end h (path_moved c.args.op n k c.args.paths.now i x _ _ end test c.path-item.is one rest);
      past = λ n k h. c.move_path.ensures.past n k (omega (arith, h, same)) ∙ known.past n k h;
      room = λ n k h.
          let one : promised_after c.args.op (length (held_by_path x.tunnel (held_of x) n k x.links)) (promised_on c.loop-path.ledgers n k) ≤ promised_on c.move_path.new.self n k = rw (c.held_of.ensures.held, c.as_slice.ensures) at (c.in_ok-move_path.ensures.ok n k (omega (arith, h, same))) in
          room_next c.args.op _ _ _ _ (rw (next_long n k c.args.paths.now i x test c.path-item.is) at (known.room n k h)) one;
      after = λ n k h.
          let one : promised_after c.args.op (length (held_by_path x.tunnel (held_of x) n k x.links)) (promised_on c.loop-path.ledgers n k) ≤ promised_on c.move_path.new.self n k = rw (c.held_of.ensures.held, c.as_slice.ensures) at (c.in_ok-move_path.ensures.ok n k (omega (arith, h, same))) in
          after_next c.args.op _ _ _ _ _ (rw (next_long n k c.args.paths.now i x test c.path-item.is) at (known.after n k h)) one;
    }

pub returns-in_err-move_path-clause-moved : goal.returns-in_err-move_path-clause-moved
returns-in_err-move_path-clause-moved c = λ n k h.
    let same = c.loop-path.invariant.same in
    let x = c.path-item.result in
    let one : IsMoved c.args.op (held_by_path x.tunnel (held_of x) n k x.links) (entry_at c.loop-path.ledgers n k) (entry_at c.move_path.new.self n k) = rw (c.held_of.ensures.held, c.as_slice.ensures) at (c.move_path.ensures.moved n k (omega (arith, h, same))) in
    elim (cases_Bool (takes_memory c.args.op)) [
      | inl promise ↦ c.loop-path.invariant.moved n k _ h (path_refused c.args.op n k c.args.paths.now c.loop-path.path-index x _ _ c.loop-path-test.true c.path-item.is promise one)
      | inr sure ↦ absurd (let ok = c.in_err-move_path.ensures.sure sure in cc)
    ]

pub returns-in_err-move_path-clause-past : goal.returns-in_err-move_path-clause-past
returns-in_err-move_path-clause-past c = λ n k h.
    let same = c.loop-path.invariant.same in
    c.move_path.ensures.past n k (omega (arith, h, same)) ∙ c.loop-path.invariant.past n k h

pub returns-clause-moved : goal.returns-clause-moved
returns-clause-moved c = λ n k h.
    let end : drop c.loop-path.path-index c.args.paths.now ≡ [] = no_more _ _ c.loop-path-test.false in
    c.loop-path.invariant.moved n k _ h (rw end (unmoved c.args.op _))
