-- What links add to a cost, and the tests for room at several priorities.
use Rattle.std.proofs.Common.{◌≡◌, ℕ, zero, suc, ◌+◌, ◌<◌, ◌≤◌, ◌&&◌, not, Bool, true, false, IsTrue, Some, refl, sym, ap, ◌∙◌, arith, inl, inr}
use Rattle.std.specs.List.{list_all, range_with_len}
use Rattle.std.proofs.lemmas.Bool.{cases_eq}
use Rattle.std.proofs.lemmas.Option.{cond_some}
use Rattle.te_snapshot.specs.declared.outgoing.Outgoing.{Outgoing}
use Rattle.te_snapshot.specs.Admissible.{is_open}
use Rattle.path_finder.specs.declared.query.Query.{Query}
use Rattle.path_finder.specs.Passing.{arc_metric, fee}

pub fee_some : (q : Query) (a : Outgoing) (price : ℕ) → fee q a ≡ Some price → (is_open q.unreserved.now q.constraints.now q.own.now a.number a.colour ≡ true) × (price ≡ arc_metric q.constraints.now.minimise a)
unfolding fee
fee_some q a price h =
    let c = cond_some (is_open q.unreserved.now q.constraints.now q.own.now a.number a.colour) (arc_metric q.constraints.now.minimise a) price h in
    (c.0, sym c.1)

pub not_both : (b : Bool) → IsTrue (not b) → b ≡ true → ⊥
not_both true other same = cc
not_both false other same = cc

both : (b c : Bool) → b ≡ true → c ≡ true → (b && c) ≡ true
both true c h k = k
both false c h k = cc

first_fails : (b c : Bool) → b ≡ false → (b && c) ≡ false
first_fails true c h = cc
first_fails false c h = refl

second_fails : (b c : Bool) → c ≡ false → (b && c) ≡ false
second_fails true c h = h
second_fails false c h = refl

-- a test that each of several numbers passes
pub all_hold : (f : ℕ → Bool) (a n : ℕ) → ((p : ℕ) → a ≤ p → p < a + n → f p ≡ true) → list_all f (range_with_len a n) ≡ true
all_hold f a zero h = refl
all_hold f a (suc n) h =
    both (f a) (list_all f (range_with_len (a + 1) n)) (h a (omega arith) (omega arith))
    (all_hold f (a + 1) n (λ p low high. h p (omega arith) (omega arith)))

-- a test that one of them fails
pub one_fails : (f : ℕ → Bool) (a n p : ℕ) → a ≤ p → p < a + n → f p ≡ false → list_all f (range_with_len a n) ≡ false
one_fails f a zero p low high fails = absurd (omega arith)
one_fails f a (suc n) p low high fails =
    elim (cases_eq a p) [
      | inl same ↦ first_fails (f a) (list_all f (range_with_len (a + 1) n)) (ap f same ∙ fails)
      | inr other ↦ second_fails (f a) (list_all f (range_with_len (a + 1) n)) (one_fails f (a + 1) n p (omega arith) (omega arith) fails)
    ]
