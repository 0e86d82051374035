use Rattle.std.proofs.Common.{◌≡◌, ◌≤◌, ◌<◌, ℕ, nat_le, slice_index, true, refl, sym, ap, arith, ◌∙◌}
use Rattle.std.proofs.lemmas.Bool.Decides.{nat_tests}
use Rattle.lsp_base.specs.Shares.{reservable, reserved, share}
use Rattle.bandwidth_book.proofs.Fits.{borne_beside_share, fits_at_is}
use Rattle.bandwidth_book.proofs.looks.fits_at.Goals as goal

low_enough : (m n : ℕ) → m ≤ n → nat_le m n ≡ true
low_enough m n h = grind (arith, nat_tests)

pub returns-then-has_room : goal.returns-then-has_room
returns-then-has_room c = λ paths s.
    let below : c.number.result < 8 = grind arith in
    let sum : slice_index c.sums_at-sums.result.now c.number.result ≡ reserved paths c.args.link c.args.priority
    = c.sums_at-sums.ensures.reserved paths s c.number.result below ∙ ap (λ (q : ℕ). reserved paths c.args.link q) c.number.ensures.number in
    let own = share paths c.args.path.now.tunnel c.args.link c.args.priority in
    let borne = sym (rw c.reservable_of-reservable.ensures at c.has_room.ensures) ∙ c.if-has_room.true in
    sym (borne_beside_share (reservable c.args.links.now c.args.link) (slice_index c.sums_at-sums.result.now c.number.result) c.value-bandwidth.result own borne)
    ∙ fits_at_is c.args.links.now paths c.args.path.now c.args.link c.args.priority c.value-bandwidth.result own (slice_index c.sums_at-sums.result.now c.number.result)
    c.value-bandwidth.ensures.value refl sum (low_enough c.args.path.now.hold c.args.priority c.requires.held) c.requires.has

pub returns : goal.returns
returns c = λ paths s.
    let below : c.number.result < 8 = grind arith in
    let sum : slice_index c.sums_at-sums.result.now c.number.result ≡ reserved paths c.args.link c.args.priority
    = c.sums_at-sums.ensures.reserved paths s c.number.result below ∙ ap (λ (q : ℕ). reserved paths c.args.link q) c.number.ensures.number in
    (rw c.reservable_of-reservable.ensures at c.has_room-2.ensures)
    ∙ fits_at_is c.args.links.now paths c.args.path.now c.args.link c.args.priority c.value-bandwidth.result c.share_at-share.result (slice_index c.sums_at-sums.result.now c.number.result)
    c.value-bandwidth.ensures.value (c.share_at-share.ensures paths s) sum (low_enough c.args.path.now.hold c.args.priority c.requires.held) c.requires.has
