use Rattle.std.proofs.Common.{◌≡◌, ◌<◌, max, ℕ, ap, sym, ◌∙◌, arith}
use Rattle.bandwidth_book.specs.Reservation.{Reservation, after_all, last_counts, most_below, place_in}
use Rattle.bandwidth_book.proofs.Runs.{counts_here, counts_not, last_run, no_run}
use Rattle.bandwidth_book.proofs.entry.last_of.Goals as goal

pub returns-then-end-eq0 : goal.returns-then-end-eq0
returns-then-end-eq0 c =
    let place : c.count_to-end.result ≡ place_in (after_all c.args.priority) c.args.held.now = c.count_to-end.ensures.count in
    no_run c.args.priority c.args.held.now c.count_to-end.result c.requires.order place c.if-end-eq0.true

pub returns-then-hold-from : goal.returns-then-hold-from
returns-then-hold-from c =
    let some : 0 < c.count_to-end.result = (let n = c.if-end-eq0.false in omega (arith, n)) in
    let place : c.count_to-end.result ≡ place_in (after_all c.args.priority) c.args.held.now = c.count_to-end.ensures.count in
    let last = c.index-held-end.result in
    let here : last.hold ≡ c.args.priority = sym c.hold.ensures ∙ c.if-hold-from.true ∙ c.from.ensures in
    ap (λ (n : ℕ). max (most_below c.args.held.now c.args.priority) n) (c.bandwidth.ensures ∙ sym (counts_here last c.args.priority here) ∙ ap (λ (h : Reservation). last_counts h c.args.priority) c.index-held-end.is)
    ∙ last_run c.args.priority last c.args.held.now c.count_to-end.result c.requires.order place some

pub returns-else-hold-from : goal.returns-else-hold-from
returns-else-hold-from c =
    let some : 0 < c.count_to-end.result = (let n = c.if-end-eq0.false in omega (arith, n)) in
    let place : c.count_to-end.result ≡ place_in (after_all c.args.priority) c.args.held.now = c.count_to-end.ensures.count in
    let last = c.index-held-end.result in
    ap (λ (n : ℕ). max (most_below c.args.held.now c.args.priority) n) (sym (counts_not last c.args.priority (λ here. c.if-hold-from.false (c.hold.ensures ∙ here ∙ sym c.from.ensures))) ∙ ap (λ (h : Reservation). last_counts h c.args.priority) c.index-held-end.is)
    ∙ last_run c.args.priority last c.args.held.now c.count_to-end.result c.requires.order place some
