-- What one happening does to a map of values that may be missing.
use Rattle.std.proofs.Common.{◌≡◌, ℕ, ◌<◌, ◌≤◌, ◌+◌, if◌then◌else◌, arith, ◌||◌, Bool, true, false, cond, not, Option, None, Some, is_some, unwrap_or, refl, sym, ap, ◌∙◌}
use Rattle.indexmap.specs.IndexMap.{IndexMap, get}
use Rattle.server_rules.specs.Keyed.{after}
use Rattle.server_rules.proofs.Kept.{passed}

module _ {H K X S : Type 0} (same : K → K → Bool) (same-eq : (a b : K) → same a b ≡ true → a ≡ b) (concerns : H → K → Bool)
    (changed : H → Option X → Option X) (old new : IndexMap K X S) (h : H) where
  -- it concerns one of them
  pub one : (of : K) (w : Option X) → ((q : K) → concerns h q ≡ same of q) → ((q : K) → get same new q ≡ cond (same of q) w (get same old q))
      → w ≡ changed h (get same old of) → (q : K) → get same new q ≡ after concerns changed None h q (get same old q)
  one of w concern gets at q = by (same of q) refl
    where
      by : (b : Bool) → same of q ≡ b → get same new q ≡ after concerns changed None h q (get same old q)
      by true is =
          gets q ∙ ap (λ b. cond b w (get same old q)) is ∙ at ∙ ap (λ (p : K). changed h (get same old p)) (same-eq of q is)
          ∙ sym (ap (λ b. cond b (changed h (get same old q)) (get same old q)) (concern q ∙ is))
      by false is =
          gets q ∙ ap (λ b. cond b w (get same old q)) is ∙ sym (ap (λ b. cond b (changed h (get same old q)) (get same old q)) (concern q ∙ is))

  -- it concerns several of them
  pub several : changed h None ≡ None
      → ((q : K) → get same new q
      ≡ passed (λ v. not (concerns h q) || is_some (changed h (Some v))) (λ v. cond (concerns h q) (unwrap_or (changed h (Some v)) v) v) (get same old q))
      → (q : K) → get same new q ≡ after concerns changed None h q (get same old q)
  several none gets q = gets q ∙ by (concerns h q) (get same old q)
    where
      found : (v : X) (o : Option X) → cond (is_some o) (Some (unwrap_or o v)) None ≡ o
      found v None = refl
      found v (Some w) = refl

      by : (b : Bool) (o : Option X) → passed (λ v. not b || is_some (changed h (Some v))) (λ v. cond b (unwrap_or (changed h (Some v)) v) v) o ≡ cond b (changed h o) o
      by true None = sym none
      by true (Some v) = found v (changed h (Some v))
      by false None = refl
      by false (Some v) = refl

-- one more entry, unless it was there already, if there is room for it
pub still_few : {X : Type 0} (o : Option X) (m n most : ℕ) → n ≡ m + (if is_some o then 0 else 1) → (o ≡ None → m < most) → m ≤ most → n ≤ most
still_few None m n most len room few = let more : m < most = room refl in omega arith
still_few (Some x) m n most len room few = omega arith
