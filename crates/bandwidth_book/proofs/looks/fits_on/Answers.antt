use Rattle.std.proofs.Common.{◌≡◌, ◌≤◌, ◌<◌, ◌+◌, ◌&&◌, ℕ, suc, Bool, true, nat_lt, List, drop, length, slice_index, ap, sym, subst, ◌∙◌, arith}
use Rattle.std.specs.List.{list_all}
use Rattle.lsp_base.specs.Shares.{fits, fits_at, priorities}
use Rattle.bandwidth_book.proofs.Fits.{all_done, lt_true, next_all}
use Rattle.bandwidth_book.proofs.looks.fits_on.Goals as goal

pub loop-link-preserved : goal.loop-link-preserved
loop-link-preserved c = λ paths s.
    let test : ℕ → Bool = λ n. nat_lt n (length c.args.links.now) && list_all (fits_at c.args.links.now paths c.args.path.now n) (priorities c.args.path.now.hold c.args.setup) in
    let i = c.loop-link.link-index in
    let less : i < length c.args.numbers.now = grind arith in
    let there : nat_lt (slice_index c.args.numbers.now i) (length c.args.links.now) ≡ true = (let n = c.if-link-links.false in lt_true (slice_index c.args.numbers.now i) (length c.args.links.now) (omega (arith, n))) in
    let borne : list_all (fits_at c.args.links.now paths c.args.path.now (slice_index c.args.numbers.now i)) (priorities c.args.path.now.hold c.args.setup) ≡ true = sym (c.if-not-fits_each.ensures paths s) in
    let passes : test (slice_index c.args.numbers.now i) ≡ true = λ j. there j && borne j in
    let next : suc i ≡ i + 1 = omega arith in
    subst (λ (m : ℕ). list_all test (drop m c.args.numbers.now) ≡ list_all test c.args.numbers.now) next (next_all test c.args.numbers.now i 0 less passes ∙ c.loop-link.invariant paths s)

pub returns : goal.returns
unfolding fits
returns c = λ paths s.
    let test : ℕ → Bool = λ n. nat_lt n (length c.args.links.now) && list_all (fits_at c.args.links.now paths c.args.path.now n) (priorities c.args.path.now.hold c.args.setup) in
    let i = c.loop-link.link-index in
    let more : length c.args.numbers.now ≤ i = grind arith in
    all_done test c.args.numbers.now i more ∙ (c.loop-link.invariant paths s ∙ ap (λ (xs : List ℕ). list_all test xs) c.requires.numbers)
