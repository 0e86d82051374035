-- Each move keeps the rule.
use Rattle.std.proofs.Common.{◌≡◌, ◌≢◌, ℕ, zero, suc, ◌+◌, ◌<◌, ◌≤◌, ◌==◌, List, [], ◌∷◌, ◌++◌, set, refl, sym, ap, ◌∙◌, subst, ⊎_elim, arith}
use Rattle.std.specs.Prelude.{sum_by}
use mathlib.Core.Bool.{cond}
use mathlib.Core.Option.{some, some-ne-none, some-injective}
use lib.ListN.{get_elem?}
use Rattle.std.proofs.lemmas.Bool.Decides.{nat_tests}
use Rattle.std.proofs.lemmas.List.Sums.{sum_by-append, sum_by-cons}
use Rattle.atomic_table.specs.Table.{Me, Allows, Splits, Joins, keeps}
use Rattle.atomic_table.proofs.Lists.{at_set, at_snoc}
use Rattle.place_tokens.specs.declared.rule.View.{View}
use Rattle.place_tokens.specs.Drawing.{view, nothing, part_only, times, times_of, once_below, total, IsPlain, IsDrawnOnce, with_next, KnowsAll, KnowsBelow, without_own, own_only, without_part, older_of, newest_of, without_newest, newest_only, together, stacked}

module _ (f : View → ℕ) where
  total-append : (l m : List View) → total f (l ++ m) ≡ total f l + total f m
  total-append [] m = omega arith
  total-append (x ∷ xs) m = omega (arith, total-append xs m)

  total-set : (l : List View) (j : ℕ) (v w : View) → get_elem? l j ≡ some v → total f (set l j w) + f v ≡ total f l + f w
  total-set [] j v w e = absurd (some-ne-none v (sym e))
  total-set (x ∷ xs) zero v w e = omega (arith, ap f (some-injective x v e))
  total-set (x ∷ xs) (suc j) v w e = omega (arith, total-set xs j v w e)

  term_le : (l : List View) (j : ℕ) (v : View) → get_elem? l j ≡ some v → f v ≤ total f l
  term_le [] j v e = absurd (some-ne-none v (sym e))
  term_le (x ∷ xs) zero v e = omega (arith, ap f (some-injective x v e))
  term_le (x ∷ xs) (suc j) v e = omega (arith, term_le xs j v e)

  total-none : (g : View → ℕ) (l : List View) → total g l ≡ 0 → ((by : ℕ) (u : View) → get_elem? l by ≡ some u → g u ≡ 0 → f u ≡ 0) → total f l ≡ 0
  total-none g [] none h = refl
  total-none g (x ∷ xs) none h = omega (arith, h 0 x refl (omega (arith, none)), total-none g xs (omega (arith, none)) (λ by u e z. h (suc by) u e z))

  -- if one view has all of g, and a view without any g has no f, then that view has all of f
  alone : (g : View → ℕ) (l : List View) (j : ℕ) (v : View) → get_elem? l j ≡ some v → total g l ≡ g v → ((by : ℕ) (u : View) → get_elem? l by ≡ some u → g u ≡ 0 → f u ≡ 0) → total f l ≡ f v
  alone g [] j v e all h = absurd (some-ne-none v (sym e))
  alone g (x ∷ xs) zero v e all h =
      let here : x ≡ v = some-injective x v e in
      omega (arith, ap f here, total-none g xs (omega (arith, ap g here, all)) (λ by u e z. h (suc by) u e z))
  alone g (x ∷ xs) (suc j) v e all h =
      let mine = term_le-of g xs j v e in
      omega (arith, h 0 x refl (omega (arith, all, mine)), alone g xs j v e (omega (arith, all, mine)) (λ by u e z. h (suc by) u e z))
    where
      term_le-of : (g : View → ℕ) (l : List View) (j : ℕ) (v : View) → get_elem? l j ≡ some v → g v ≤ total g l
      term_le-of g [] j v e = absurd (some-ne-none v (sym e))
      term_le-of g (x ∷ xs) zero v e = omega (arith, ap g (some-injective x v e))
      term_le-of g (x ∷ xs) (suc j) v e = omega (arith, term_le-of g xs j v e)

  same_split : (l : List View) (j : ℕ) (v a b : View) → get_elem? l j ≡ some v → f a + f b ≡ f v → total f (set l j a ++ b ∷ []) ≡ total f l
  same_split l j v a b e s = omega (arith, total-append (set l j a) (b ∷ []), total-set l j v a e, s)

  same_join : (l : List View) (j k : ℕ) (v w both spent : View) → get_elem? l j ≡ some v → get_elem? (set l j both) k ≡ some w → f both + f spent ≡ f v + f w → total f (set (set l j both) k spent) ≡ total f l
  same_join l j k v w both spent e d s = omega (arith, total-set l j v both e, total-set (set l j both) k w spent d, s)

AreAllPlain : List View → Type 0
AreAllPlain l = (by : ℕ) (u : View) → get_elem? l by ≡ some u → IsPlain u

plain_set : (l : List View) (j : ℕ) (w : View) → AreAllPlain l → IsPlain w → AreAllPlain (set l j w)
unfolding AreAllPlain
plain_set l j w lent mine by u e =
    ⊎_elim (λ (x : (by ≡ j) × (w ≡ u)). subst IsPlain x.1 mine) (λ (x : (by ≢ j) × (get_elem? l by ≡ some u)). lent by u x.1) (at_set l j by w u e)

plain_snoc : (l : List View) (w : View) → AreAllPlain l → IsPlain w → AreAllPlain (l ++ w ∷ [])
unfolding AreAllPlain
plain_snoc l w lent mine by u e = ⊎_elim (λ (x : get_elem? l by ≡ some u). lent by u x) (λ (x : w ≡ u). subst IsPlain x mine) (at_snoc l w u by e)

-- what the two views have together is what the one has
pub record Adds (v a b : View) : Type 0 where
  pub keeps : a.keeps + b.keeps ≡ v.keeps
  pub parts : a.parts + b.parts ≡ v.parts
  pub next : a.next + b.next ≡ v.next
  pub times : (p : ℕ) → times_of p a + times_of p b ≡ times_of p v

pub splits : (all id : ℕ) (v a b : View) → Adds v a b → IsPlain a → IsPlain b → Splits {S = Unit {0}} (λ s. IsDrawnOnce all s.views) id v a b
unfolding AreAllPlain
splits all id v a b adds pa pb s h at =
    record {
      whole = same_split (λ u. u.parts) s.views id v a b at adds.parts ∙ h.whole;
      one = same_split (λ u. u.keeps) s.views id v a b at adds.keeps ∙ h.one;
      plain = plain_snoc (set s.views id a) b (plain_set s.views id a h.plain pa) pb;
      each = λ p. same_split (times_of p) s.views id v a b at (adds.times p) ∙ h.each p ∙ ap (once_below p) (sym (same_split (λ u. u.next) s.views id v a b at adds.next));
    }

nothing_plain : IsPlain nothing
nothing_plain = ((λ _ p. refl), (λ _. refl))

pub joins : (all id other : ℕ) (v w both : View) → Adds both v w → IsPlain both → Joins {S = Unit {0}} (λ s. IsDrawnOnce all s.views) id v other w both nothing
unfolding AreAllPlain
joins all id other v w both adds pb s h at apart there =
    record {
      whole = same_join (λ u. u.parts) s.views id other v w both nothing at there (omega (arith, adds.parts)) ∙ h.whole;
      one = same_join (λ u. u.keeps) s.views id other v w both nothing at there (omega (arith, adds.keeps)) ∙ h.one;
      plain = plain_set (set s.views id both) other nothing (plain_set s.views id both h.plain pb) nothing_plain;
      each = λ p. same_join (times_of p) s.views id other v w both nothing at there (omega (arith, adds.times p)) ∙ h.each p ∙ ap (once_below p) (sym (same_join (λ u. u.next) s.views id other v w both nothing at there (omega (arith, adds.next))));
    }

once-more : (p n : ℕ) → once_below p (n + 1) ≡ once_below p n + cond (n == p) 1 0
once-more p n = grind (arith, nat_tests)

times-next : (p : ℕ) (v : View) → times_of p (with_next v) ≡ times_of p v + cond (v.next == p) 1 0
times-next p v = omega (arith, sum_by-append (λ (x : ℕ). cond (x == p) 1 0) v.own (v.next ∷ []))

pub draws : (all slots id : ℕ) (me : Me (Unit {0}) View) → me.0.keeps ≡ 1 → 0 < me.0.parts → Allows (λ s. IsDrawnOnce all s.views) slots id me 0 (λ n. n) (λ n w. w ≡ (with_next me.0, me.1))
unfolding AreAllPlain
draws all slots id me one some_part s h len at small =
    let v : View = me.0 in
    let w = with_next v in
    let known : total (λ u. u.next) s.views ≡ v.next = alone (λ u. u.next) (λ u. u.keeps) s.views id v at (h.one ∙ sym one) (λ by u e z. (h.plain by u e).1 z) in
    let next : total (λ u. u.next) (set s.views id w) ≡ v.next + 1 = omega (arith, total-set (λ u. u.next) s.views id v w at, known) in (
      w,
      keeps,
      tt,
      record {
        whole = omega (arith, total-set (λ u. u.parts) s.views id v w at, h.whole);
        one = omega (arith, total-set (λ u. u.keeps) s.views id v w at, h.one);
        plain = plain_set s.views id w h.plain ((λ z. absurd (omega (arith, z, some_part))), (λ z. absurd (omega (arith, z, one))));
        each = λ p. omega (arith, total-set (times_of p) s.views id v w at, times-next p v, h.each p, ap (once_below p) known, ap (once_below p) next, once-more p v.next);
      },
      refl,
    )

pub learns : (all slots id : ℕ) (me : Me (Unit {0}) View) → me.0.keeps ≡ 1 → me.0.parts ≡ all → Allows (λ s. IsDrawnOnce all s.views) slots id me 0 (λ n. n) (λ n w. (w ≡ me) × KnowsAll me.0)
unfolding AreAllPlain
learns all slots id me one whole s h len at small =
    let v : View = me.0 in
    let known : total (λ u. u.next) s.views ≡ v.next = alone (λ u. u.next) (λ u. u.keeps) s.views id v at (h.one ∙ sym one) (λ by u e z. (h.plain by u e).1 z) in
    let mine : (p : ℕ) → total (times_of p) s.views ≡ times_of p v = λ p. alone (times_of p) (λ u. u.parts) s.views id v at (h.whole ∙ sym whole) (λ by u e z. (h.plain by u e).0 z p) in
    let next : total (λ u. u.next) (set s.views id v) ≡ total (λ u. u.next) s.views = omega (arith, total-set (λ u. u.next) s.views id v v at) in (
      v,
      keeps,
      tt,
      record {
        whole = omega (arith, total-set (λ u. u.parts) s.views id v v at, h.whole);
        one = omega (arith, total-set (λ u. u.keeps) s.views id v v at, h.one);
        plain = plain_set s.views id v h.plain (h.plain id v at);
        each = λ p. omega (arith, total-set (times_of p) s.views id v v at, h.each p, ap (once_below p) next);
      },
      (refl, λ p. sym (mine p) ∙ h.each p ∙ ap (once_below p) known),
    )

below-once : (p n : ℕ) → 0 < once_below p n → p < n
below-once p n h = grind (arith, nat_tests)

pub compares : (all slots id : ℕ) (me : Me (Unit {0}) View) → me.0.keeps ≡ 1 → Allows (λ s. IsDrawnOnce all s.views) slots id me 0 (λ n. n) (λ n w. (w ≡ me) × KnowsBelow me.0)
unfolding AreAllPlain
compares all slots id me one s h len at small =
    let v : View = me.0 in
    let known : total (λ u. u.next) s.views ≡ v.next = alone (λ u. u.next) (λ u. u.keeps) s.views id v at (h.one ∙ sym one) (λ by u e z. (h.plain by u e).1 z) in
    let next : total (λ u. u.next) (set s.views id v) ≡ total (λ u. u.next) s.views = omega (arith, total-set (λ u. u.next) s.views id v v at) in (
      v,
      keeps,
      tt,
      record {
        whole = omega (arith, total-set (λ u. u.parts) s.views id v v at, h.whole);
        one = omega (arith, total-set (λ u. u.keeps) s.views id v v at, h.one);
        plain = plain_set s.views id v h.plain (h.plain id v at);
        each = λ p. omega (arith, total-set (times_of p) s.views id v v at, h.each p, ap (once_below p) next);
      },
      (refl, λ p some. below-once p v.next (omega (arith, some, term_le (times_of p) s.views id v at, h.each p, ap (once_below p) known))),
    )

pub begins : (all : ℕ) → IsDrawnOnce all (view 1 all 0 [] [] ∷ [])
begins all = record { whole = omega arith; one = refl; plain = first; each = λ p. grind (arith, nat_tests) }
  where
    first : (by : ℕ) (v : View) → get_elem? (view 1 all 0 [] [] ∷ []) by ≡ some v → IsPlain v
    first zero v e = subst IsPlain (some-injective _ _ e) ((λ _ p. refl), (λ z. absurd (omega (arith, z))))
    first (suc by) v e = absurd (some-ne-none v (sym e))

-- the cuts and the joins
pub adds_gives : (v : View) → 0 < v.parts → Adds v (without_own v) (own_only v)
adds_gives v h = record { keeps = omega arith; parts = omega (arith, h); next = omega arith; times = λ p. omega arith }

pub adds_part : (v : View) → 0 < v.parts → Adds v (without_part v) part_only
adds_part v h = record { keeps = omega arith; parts = omega (arith, h); next = omega arith; times = λ p. omega arith }

pub adds_all : (v : View) → Adds v nothing v
adds_all v = record { keeps = omega arith; parts = omega arith; next = omega arith; times = λ p. omega arith }

tops : (p : ℕ) (xs : List (List ℕ)) → sum_by (times p) (older_of xs) + times p (newest_of xs) ≡ sum_by (times p) xs
tops p [] = refl
tops p (x ∷ xs) = omega (arith, sum_by-cons (times p) x xs)

pub adds_pops : (v : View) → 0 < v.parts → Adds v (without_newest v) (newest_only v)
adds_pops v h = record { keeps = omega arith; parts = omega (arith, h); next = omega arith; times = λ p. omega (arith, tops p v.lent) }

pub adds_together : (v w : View) → Adds (together v w) v w
adds_together v w = record { keeps = refl; parts = refl; next = refl; times = λ p. omega (arith, sum_by-append (λ (x : ℕ). cond (x == p) 1 0) v.own w.own, sum_by-append (times p) v.lent w.lent) }

pub adds_stacked : (v w : View) → Adds (stacked v w) v w
adds_stacked v w = record { keeps = refl; parts = refl; next = refl; times = λ p. omega (arith, sum_by-cons (times p) w.own (w.lent ++ v.lent), sum_by-append (times p) w.lent v.lent) }

-- the moves at views that are known
pub gives_at : (all id n : ℕ) (own : List ℕ) (v : View) → v ≡ view 1 1 n own [] → Splits {S = Unit {0}} (λ s. IsDrawnOnce all s.views) id v (without_own v) (own_only v)
gives_at all id n own v is =
    subst (λ (u : View). Splits {S = Unit {0}} (λ s. IsDrawnOnce all s.views) id u (without_own u) (own_only u)) (sym is)
    (splits all id (view 1 1 n own []) _ _ (adds_gives (view 1 1 n own []) (omega arith)) ((λ _ p. refl), (λ z. absurd (omega (arith, z)))) ((λ z. absurd (omega (arith, z))), (λ _. refl)))

pub part_at : (all id k m n : ℕ) (own : List ℕ) (v : View) → 1 < m → (k ≡ 0 → n ≡ 0) → v ≡ view k m n own [] → Splits {S = Unit {0}} (λ s. IsDrawnOnce all s.views) id v (without_part v) part_only
part_at all id k m n own v some_part plain is =
    subst (λ (u : View). Splits {S = Unit {0}} (λ s. IsDrawnOnce all s.views) id u (without_part u) part_only) (sym is)
    (splits all id (view k m n own []) _ _ (adds_part (view k m n own []) (omega (arith, some_part))) ((λ z. absurd (omega (arith, z, some_part))), plain) ((λ z. absurd (omega (arith, z))), (λ _. refl)))

pub takes_at : (all id other : ℕ) (v w : View) → 0 < v.parts + w.parts → (v.keeps + w.keeps ≡ 0 → v.next + w.next ≡ 0) → Joins {S = Unit {0}} (λ s. IsDrawnOnce all s.views) id v other w (together v w) nothing
takes_at all id other v w some_part plain = joins all id other v w (together v w) (adds_together v w) ((λ z. absurd (omega (arith, z, some_part))), plain)

pub stacks_at : (all id other : ℕ) (v w : View) → 0 < v.parts + w.parts → (v.keeps + w.keeps ≡ 0 → v.next + w.next ≡ 0) → Joins {S = Unit {0}} (λ s. IsDrawnOnce all s.views) id v other w (stacked v w) nothing
stacks_at all id other v w some_part plain = joins all id other v w (stacked v w) (adds_stacked v w) ((λ z. absurd (omega (arith, z, some_part))), plain)

pub all_at : (all id : ℕ) (own : List ℕ) (v : View) → v ≡ view 0 1 0 own [] → Splits {S = Unit {0}} (λ s. IsDrawnOnce all s.views) id v nothing v
all_at all id own v is =
    subst (λ (u : View). Splits {S = Unit {0}} (λ s. IsDrawnOnce all s.views) id u nothing u) (sym is)
    (splits all id (view 0 1 0 own []) _ _ (adds_all (view 0 1 0 own [])) nothing_plain ((λ z. absurd (omega (arith, z))), (λ _. refl)))

pub pops_at : (all id m n : ℕ) (lent : List (List ℕ)) (v : View) → 1 < m → v ≡ view 1 m n [] lent → Splits {S = Unit {0}} (λ s. IsDrawnOnce all s.views) id v (without_newest v) (newest_only v)
pops_at all id m n lent v some_part is =
    subst (λ (u : View). Splits {S = Unit {0}} (λ s. IsDrawnOnce all s.views) id u (without_newest u) (newest_only u)) (sym is)
    (splits all id (view 1 m n [] lent) _ _ (adds_pops (view 1 m n [] lent) (omega (arith, some_part))) ((λ z. absurd (omega (arith, z, some_part))), (λ z. absurd (omega (arith, z)))) ((λ z. absurd (omega (arith, z))), (λ _. refl)))
