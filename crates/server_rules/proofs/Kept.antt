-- What `retain` leaves of a map if its closure keeps no state, and decides by the key and value of each entry whether
-- it stays and with which value.
use Rattle.std.proofs.Common.{◌≡◌, Bool, true, false, cond, List, [], ◌∷◌, Option, None, Some, refl, sym, ap, subst, ◌∙◌}
use Rattle.std.specs.Cmp.{IsEquivalence}
use Rattle.std.specs.List.{IsDistinct}
use Rattle.std.specs.Map.{keys_of, lookup}
use Rattle.std.specs.Map.Calls.{RetainsPairs}
use Rattle.std.proofs.lemmas.Map.{lookup-none}
use Rattle.std.proofs.lemmas.Map.Entries.{none_past_head}
use Rattle.std.proofs.lemmas.Map.Keys.{IsDistinct-tail}

-- what a value that may be missing becomes
abbrev pub passed : {X : Type 0} → (X → Bool) → (X → X) → Option X → Option X
passed keep put None = None
passed keep put (Some v) = cond (keep v) (Some (put v)) None

module _ {K X F : Type 0} (same : K → K → Bool) (laws : IsEquivalence same) (same-eq : (a b : K) → same a b ≡ true → a ≡ b)
    (T : F → K → X → Bool → X → F → Type 0) (keep : K → X → Bool) (put : K → X → X) (f : F)
    (says : (k : K) (v : X) (b : Bool) (w : X) (g : F) → T f k v b w g → (b ≡ keep k v) × (w ≡ put k v) × (g ≡ f)) where
  step : (q : K) (e : K × X) (es rest : List (K × X)) (b y : Bool) (w : X) → same q e.0 ≡ y → IsDistinct same (keys_of (e ∷ es))
      → b ≡ keep e.0 e.1 → w ≡ put e.0 e.1 → lookup (same q) rest ≡ passed (keep q) (put q) (lookup (same q) es)
      → lookup (same q) (cond b ((e.0, w) ∷ rest) rest) ≡ passed (keep q) (put q) (cond y (Some e.1) (lookup (same q) es))
  step q e es rest true true w is distinct kept turned later =
      ap (λ (c : Bool). cond c (Some w) (lookup (same q) rest)) is ∙ (λ j. cond (kept j) (Some (turned j)) None) ∙ ap (λ (k : K). passed (keep k) (put k) (Some e.1)) (sym (same-eq q e.0 is))
  step q e es rest false true w is distinct kept turned later =
      later ∙ ap (passed (keep q) (put q)) (lookup-none (same q) es (none_past_head laws q e es distinct is))
      ∙ ap (λ (c : Bool). cond c (Some (put e.0 e.1)) None) kept ∙ ap (λ (k : K). passed (keep k) (put k) (Some e.1)) (sym (same-eq q e.0 is))
  step q e es rest true false w is distinct kept turned later = ap (λ (c : Bool). cond c (Some w) (lookup (same q) rest)) is ∙ later
  step q e es rest false false w is distinct kept turned later = later

  pub lookup_kept : (q : K) (es kept : List (K × X)) → IsDistinct same (keys_of es) → RetainsPairs T f es kept
      → lookup (same q) kept ≡ passed (keep q) (put q) (lookup (same q) es)
  lookup_kept q [] kept distinct h = ap (lookup (same q)) h
  lookup_kept q (e ∷ es) kept distinct h =
      let s = says e.0 e.1 h.0 h.1 h.2 h.4 in
      let later = lookup_kept q es h.3 (IsDistinct-tail same e.0 (keys_of es) distinct) (subst (λ (g : F). RetainsPairs T g es h.3) s.2 h.5) in
      ap (lookup (same q)) h.6 ∙ step q e es h.3 h.0 (same q e.0) h.1 refl distinct s.0 s.1 later
