use Rattle.std.proofs.Common.{◌≡◌, ◌≤◌, ◌+◌, true, true≢false, [], ◌∷◌, length, slice_index, refl, sym, arith, if◌then◌else◌}
use Rattle.bandwidth_book.specs.Entries.{IsBusy, IsShifted, held_in, promised_in}
use Rattle.bandwidth_book.specs.Reservation.{most, promised_after}
use Rattle.bandwidth_book.proofs.LinkLists.{entry_lent, rising_lent, set_entry_lent}
use Rattle.bandwidth_book.proofs.Moved.{stays, unmoved_room, unshifted}
use Rattle.bandwidth_book.proofs.Places.{on_ok}
use Rattle.bandwidth_book.proofs.Rising.{number_self}
use Rattle.bandwidth_book.proofs.link_entries.move_at.Goals as goal

pub move_and_note-requires-clause-room : goal.move_and_note-requires-clause-room
move_and_note-requires-clause-room c =
    let found = entry_lent c.args.link c.index-deref_mut-place.result c.args.entries.now.items c.deref_mut.result.now c.args.place c.requires.rising c.requires.at c.deref_mut.ensures.value c.index-deref_mut-place.is in
    rw found at c.requires.room

pub move_and_note-requires-clause-within : goal.move_and_note-requires-clause-within
move_and_note-requires-clause-within c = λ p h.
    let found = entry_lent c.args.link c.index-deref_mut-place.result c.args.entries.now.items c.deref_mut.result.now c.args.place c.requires.rising c.requires.at c.deref_mut.ensures.value c.index-deref_mut-place.is in
    rw found at (c.requires.most p h)

pub returns-clause-rising : goal.returns-clause-rising
returns-clause-rising c = rising_lent c.args.link c.index-deref_mut-place.result c.move_and_note.new.entry c.args.entries.now.items c.deref_mut.result.now c.args.place c.requires.rising c.requires.at c.deref_mut.ensures.value c.index-deref_mut-place.is

pub returns-clause-sums : goal.returns-clause-sums
returns-clause-sums c = λ p h.
    set_entry_lent (λ b o u. b ≡ true → slice_index c.move_and_note.new.sums p + most (held_in o) p ≡ slice_index c.args.sums.now p + most (held_in u) p) c.args.link c.index-deref_mut-place.result c.move_and_note.new.entry c.args.entries.now.items c.deref_mut.result.now c.args.place c.requires.rising c.requires.at c.deref_mut.ensures.value c.index-deref_mut-place.is
    (λ same. c.move_and_note.ensures.sums p h) (λ o other. absurd (true≢false (sym other))) c.args.link (number_self c.args.link c.args.link refl)

pub returns-clause-moved : goal.returns-clause-moved
returns-clause-moved c = λ l.
    set_entry_lent (λ b o u. IsShifted c.args.op (if b then c.args.held ∷ [] else []) o u) c.args.link c.index-deref_mut-place.result c.move_and_note.new.entry c.args.entries.now.items c.deref_mut.result.now c.args.place c.requires.rising c.requires.at c.deref_mut.ensures.value c.index-deref_mut-place.is
    (stays c.args.op c.args.held _ c.move_and_note.new.entry c.move_and_note.ensures.held c.move_and_note.ensures.promised) (λ o. unshifted c.args.op o) l

pub returns-clause-ok : goal.returns-clause-ok
returns-clause-ok c =
    on_ok c.move_and_note.result _ _ c.move_and_note.ensures.ok (λ promised l.
    set_entry_lent (λ b o u. promised_after c.args.op (length (if b then c.args.held ∷ [] else [])) (promised_in o) ≤ promised_in u) c.args.link c.index-deref_mut-place.result c.move_and_note.new.entry c.args.entries.now.items c.deref_mut.result.now c.args.place c.requires.rising c.requires.at c.deref_mut.ensures.value c.index-deref_mut-place.is
    (omega (arith, promised)) (λ o. unmoved_room c.args.op o) l)

pub returns-clause-busy : goal.returns-clause-busy
returns-clause-busy c = λ l none.
    set_entry_lent (λ b o u. IsBusy o → IsBusy u) c.args.link c.index-deref_mut-place.result c.move_and_note.new.entry c.args.entries.now.items c.deref_mut.result.now c.args.place c.requires.rising c.requires.at c.deref_mut.ensures.value c.index-deref_mut-place.is
    (λ was. c.move_and_note.ensures.busy none) (λ o was. was) l
