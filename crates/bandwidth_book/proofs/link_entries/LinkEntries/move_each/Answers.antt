use Rattle.std.proofs.Common.{◌≡◌, ◌==◌, [], length, get_or, drop, ◌∙◌, arith, inl, inr}
use Rattle.std.proofs.lemmas.Bool.{cases_Bool}
use Rattle.bandwidth_book.specs.Entries.{kept}
use Rattle.bandwidth_book.specs.Reservation.{takes_memory}
use Rattle.bandwidth_book.proofs.LinkLists.{last_moved, next_length, next_moved, small_moved}
use Rattle.bandwidth_book.proofs.Moved.{after_next, room_next, unshifted}
use Rattle.bandwidth_book.proofs.Written.{no_more}
use Rattle.bandwidth_book.proofs.link_entries.LinkEntries.move_each.Goals as goal

pub loop-link-preserved : goal.loop-link-preserved
loop-link-preserved c =
    let count : length c.loop-link.sums ≡ length c.args.sums.now = c.loop-link.auto.sums in
    let known = c.loop-link.invariant in
    let i = c.loop-link.link-index in
    let test = c.loop-link-test.true in
    record {
      sums = λ n p h q. let i = known.sums n p h q in let m = c.move_on.ensures.sums n p (omega (arith, h, count)) q in omega (arith, i, m);
      moved = λ n end h rest. known.moved n end h (next_moved c.args.op c.args.held n c.args.links.now i _ _ end test (c.move_on.ensures.moved n (omega (arith, h, count))) rest);
      past = λ n h. c.move_on.ensures.past n (omega (arith, h, count)) ∙ known.past n h;
      least = λ n p h. small_moved c.args.op (get_or c.args.links.now i 0 == n) c.args.held (kept n c.loop-link.self) (kept n c.move_on.new.self) p (c.move_on.ensures.moved n (omega (arith, h, count))).kept c.requires.below (known.least n p h);
      room = λ n h. room_next c.args.op _ _ _ _ (rw (next_length c.args.held n c.args.links.now i test) at (known.room n h)) (c.in_ok-move_on.ensures.ok n (omega (arith, h, count)));
      after = λ n h. after_next c.args.op _ _ _ _ _ (rw (next_length c.args.held n c.args.links.now i test) at (known.after n h)) (c.in_ok-move_on.ensures.ok n (omega (arith, h, count)));
    }

pub returns-in_err-move_on-clause-moved : goal.returns-in_err-move_on-clause-moved
returns-in_err-move_on-clause-moved c = λ n h.
    let count : length c.loop-link.sums ≡ length c.args.sums.now = c.loop-link.auto.sums in
    let moved = c.move_on.ensures.moved n (omega (arith, h, count)) in
    elim (cases_Bool (takes_memory c.args.op)) [
      | inl promise ↦ c.loop-link.invariant.moved n _ h (last_moved c.args.op c.args.held n c.args.links.now c.loop-link.link-index _ _ c.loop-link-test.true promise moved)
      | inr sure ↦ absurd (let ok = c.in_err-move_on.ensures.sure sure in cc)
    ]

pub returns-in_err-move_on-clause-past : goal.returns-in_err-move_on-clause-past
returns-in_err-move_on-clause-past c = λ n h.
    let count : length c.loop-link.sums ≡ length c.args.sums.now = c.loop-link.auto.sums in
    c.move_on.ensures.past n (omega (arith, h, count)) ∙ c.loop-link.invariant.past n h

pub returns-clause-moved : goal.returns-clause-moved
returns-clause-moved c = λ n h.
    let end : drop c.loop-link.link-index c.args.links.now ≡ [] = no_more _ _ c.loop-link-test.false in
    c.loop-link.invariant.moved n _ h (rw end (unshifted c.args.op _))
