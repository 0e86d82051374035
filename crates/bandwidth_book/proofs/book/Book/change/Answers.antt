use Rattle.std.proofs.Common.{arith, ◌∙◌}
use Rattle.te_snapshot.specs.Network.{with_links}
use Rattle.te_snapshot.specs.Pages.{is_marked, row}
use Rattle.bandwidth_book.specs.Ledgers.{count, held_at}
use Rattle.bandwidth_book.specs.Paths.{held_by}
use Rattle.bandwidth_book.proofs.Tables.{held_as, left_over_stays, none_held, none_held_on, row_stays, was_free}
use Rattle.bandwidth_book.proofs.book.Book.change.Goals as goal

pub invariant_of-self-clause-current : goal.invariant_of-self-clause-current
invariant_of-self-clause-current c = λ kept.
    let book = c.args.self.now in
    let still = c.stays_kept-self.ensures in
    let dropped = c.as_slice-dropped.result.now in
    let added = c.as_slice-added.result.now in
    left_over_stays (with_links book.last.network book.links.items) (count book.ledgers) (count c.give_up_room.new.ledgers) (held_at book.ledgers) (held_at c.give_up_room.new.ledgers) book.last
    (c.give_up_room.ensures.count ∙ c.change_paths.ensures.count)
    (λ l t less. c.give_up_room.ensures.kept l t ∙ held_as (held_at book.ledgers l t) (held_at c.change_paths.new.ledgers l t) (held_by l t dropped) (held_by l t added) (c.change_paths.ensures.kept l t less) (none_held l t dropped (still.none_dropped kept)) (none_held l t added (still.none_added kept)))
    (book.current (still.was kept))

pub invariant_of-self-clause-fresh : goal.invariant_of-self-clause-fresh
invariant_of-self-clause-fresh c = λ l less free.
    let book = c.args.self.now in
    let sized = book.sized in
    let dropped = c.as_slice-dropped.result.now in
    let added = c.as_slice-added.result.now in
    let first = was_free (is_marked c.mark_paths.new.marks l) (is_marked c.mark_paths-2.new.marks l) (c.mark_paths-2.ensures.kept l) free in
    let before = was_free (is_marked book.marks l) (is_marked c.mark_paths.new.marks l) (c.mark_paths.ensures.kept l) first in
    row_stays book.links.items (held_at book.ledgers) (held_at c.give_up_room.new.ledgers) l (row book.last.unreserved l)
    (λ t. c.give_up_room.ensures.kept l t ∙ held_as (held_at book.ledgers l t) (held_at c.change_paths.new.ledgers l t) (held_by l t dropped) (held_by l t added) (c.change_paths.ensures.kept l t (omega (arith, less, sized)))
    (none_held_on t l c.mark_paths.new.marks dropped c.mark_paths.ensures.marked first) (none_held_on t l c.mark_paths-2.new.marks added c.mark_paths-2.ensures.marked free))
    (book.fresh l less before)
