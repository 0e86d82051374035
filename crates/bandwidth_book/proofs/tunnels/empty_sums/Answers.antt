use Rattle.std.proofs.Common.{◌≡◌, ◌∷◌, ◌++◌, [], refl, arith, rules}
use Rattle.bandwidth_book.specs.Tunnels.{sum_in}
use Rattle.bandwidth_book.proofs.Places.{pushed}
use Rattle.bandwidth_book.proofs.Written.{length_push, row_of_nothing}
use Rattle.bandwidth_book.proofs.tunnels.empty_sums.Goals as goal

pub loop-init : goal.loop-init
loop-init c =
    let none : c.in_ok-sums.sums.items ≡ [] = search rules in
    record {
      long = rw none refl;
      nothing = λ n p h. rw none refl;
    }

pub loop-preserved : goal.loop-preserved
loop-preserved c =
    let more : c.push.new.self.items ≡ c.loop.sums.items ++ (0 ∷ 0 ∷ 0 ∷ 0 ∷ 0 ∷ 0 ∷ 0 ∷ 0 ∷ []) ∷ [] = search rules in
    record {
      long = rw more (let n = c.loop.invariant.long in let m = length_push c.loop.sums.items (0 ∷ 0 ∷ 0 ∷ 0 ∷ 0 ∷ 0 ∷ 0 ∷ 0 ∷ []) in omega (arith, n, m));
      nothing = λ n p h. rw more (pushed (λ o. sum_in o p ≡ 0) c.loop.sums.items (0 ∷ 0 ∷ 0 ∷ 0 ∷ 0 ∷ 0 ∷ 0 ∷ 0 ∷ []) (row_of_nothing p h) refl (λ m. c.loop.invariant.nothing m p h) n);
    }

pub returns-clause-count : goal.returns-clause-count
returns-clause-count c = let n = c.loop.invariant.long in let e = c.loop-test.false in let m = c.loop.auto.counter-end in omega (arith, n, e, m)

pub returns-clause-nothing : goal.returns-clause-nothing
returns-clause-nothing c = λ l p less h. c.loop.invariant.nothing l p h
