use Rattle.std.proofs.Common.{◌≡◌, ◌≤◌, ◌==◌, ℕ, Bool, true, false, [], ◌∷◌, Option, Some, None, insert, length, ap, ◌∙◌, arith, if◌then◌else◌}
use Rattle.bandwidth_book.specs.Holdings.{Holdings}
use Rattle.bandwidth_book.specs.Reservation.{moved_one, promised_after}
use Rattle.bandwidth_book.specs.Entries.{IsBusy, IsShifted, entry_on, place_on, promised_in}
use Rattle.bandwidth_book.proofs.LinkLists.{insert_entry_of}
use Rattle.bandwidth_book.proofs.Moved.{comes, comes_busy, unmoved_room, unshifted}
use Rattle.bandwidth_book.proofs.Rising.{rising_insert}
use Rattle.bandwidth_book.proofs.link_entries.put_entry.Goals as goal

put : (c : goal.In_ok-insert) → c.insert.new.self.items ≡ insert c.args.entries.now.items (place_on c.args.link c.args.entries.now.items) (record { link = c.args.link; entry = c.move_one.new.self })
put c =
    let place : c.place_of-place.result ≡ place_on c.args.link c.args.entries.now.items = rw c.as_slice.ensures at c.place_of-place.ensures.place in
    c.in_ok-insert.ensures.ok ∙ ap (λ (n : ℕ). insert c.args.entries.now.items n (record { link = c.args.link; entry = c.move_one.new.self })) place

entries : (R : Bool → Option Holdings → Option Holdings → Type 0) (c : goal.In_ok-insert) → R true None (Some c.move_one.new.self) → ((o : Option Holdings) → R false o o) → (l : ℕ) → R (c.args.link == l) (entry_on l c.args.entries.now.items) (entry_on l c.insert.new.self.items)
entries R c there others l = rw (put c) (insert_entry_of R (record { link = c.args.link; entry = c.move_one.new.self }) c.args.entries.now.items c.requires.none there others l)

pub returns-clause-rising : goal.returns-clause-rising
returns-clause-rising c = rw (put c) (rising_insert (record { link = c.args.link; entry = c.move_one.new.self }) c.args.entries.now.items c.requires.rising c.requires.none)

pub returns-clause-moved : goal.returns-clause-moved
returns-clause-moved c = λ l.
    entries (λ b o u. IsShifted c.args.op (if b then c.args.held ∷ [] else []) o u) c
    (comes c.args.op c.args.held c.move_one.new.self c.requires.promise (c.in_ok-move_one.ensures.held ∙ ap (moved_one c.args.op c.args.held) c.new-entry.ensures.held) (c.in_ok-move_one.ensures.ok ∙ ap (promised_after c.args.op 1) c.new-entry.ensures.promised))
    (λ o. unshifted c.args.op o) l

pub returns-clause-ok : goal.returns-clause-ok
returns-clause-ok c = λ l.
    let promised = c.in_ok-move_one.ensures.ok ∙ ap (promised_after c.args.op 1) c.new-entry.ensures.promised in
    entries (λ b o u. promised_after c.args.op (length (if b then c.args.held ∷ [] else [])) (promised_in o) ≤ promised_in u) c
    (omega (arith, promised)) (λ o. unmoved_room c.args.op o) l

pub returns-clause-busy : goal.returns-clause-busy
returns-clause-busy c = λ l.
    entries (λ b o u. IsBusy o → IsBusy u) c
    (λ was. comes_busy c.args.op c.move_one.new.self c.requires.promise (c.in_ok-move_one.ensures.ok ∙ ap (promised_after c.args.op 1) c.new-entry.ensures.promised)) (λ o was. was) l
