-- The entries of one tunnel are written.
use Rattle.std.proofs.Common.{◌≡◌, ◌<◌, ◌≤◌, ℕ, ◌+◌, ◌==◌, ◌&&◌, Bool, true, false, cond, List, [], ◌∷◌, ◌++◌, Option, None, length, drop, slice_index, zero, suc, refl, sym, ap, subst, ◌∙◌, arith, inl, inr, if◌then◌else◌}
use Rattle.std.specs.Cmp.{IsEquivalence}
use Rattle.std.specs.Map.{lookup}
use Rattle.std.proofs.lemmas.Bool.{cases_Bool}
use Rattle.bandwidth_book.specs.Reservation.{Reservation}
use Rattle.lsp_base.specs.declared.tunnel.Tunnel.{Tunnel}
use Rattle.bandwidth_book.specs.Tunnels.{held_by_links, held_by_path, tunnel_eq}

module _ {K V : Type 0} {eq : K → K → Bool} (laws : IsEquivalence eq) where
  -- equal keys find the same value
  pub lookup_same : (key k : K) → eq key k ≡ true → (es : List (K × V)) → lookup (eq k) es ≡ lookup (eq key) es
  lookup_same key k same [] = refl
  lookup_same key k same (e ∷ es) =
      let t : eq key e.0 ≡ eq k e.0 = laws.congr key k e.0 same in
      elim (cases_Bool (eq k e.0)) [
        | inl here ↦ (let there : eq key e.0 ≡ true = t ∙ here in rw (here, there) refl)
        | inr other ↦ (let apart : eq key e.0 ≡ false = t ∙ other in rw (other, apart) (lookup_same key k same es))
      ]

  -- if R relates the key's value before and after, and each found value to itself, it relates all found values
  pub written : (R : Bool → Option V → Option V → Type 0) (es new : List (K × V)) (key : K) (o w : Option V) → lookup (eq key) es ≡ o → ((q : K) → lookup (eq q) new ≡ cond (eq key q) w (lookup (eq q) es))
      → R true o w → ((v : Option V) → R false v v) → (k : K) → R (eq key k) (lookup (eq k) es) (lookup (eq k) new)
  written R es new key o w found update there others k = by (eq key k) refl
    where
      by : (b : Bool) → eq key k ≡ b → R b (lookup (eq k) es) (lookup (eq k) new)
      by true same =
          let before = lookup_same key k same es ∙ found in
          let after : lookup (eq k) new ≡ w = update k ∙ ap (λ b. cond b w (lookup (eq k) es)) same in
          subst (λ (v : Option V). R true v (lookup (eq k) new)) (sym before) (subst (λ (v : Option V). R true o v) (sym after) there)
      by false other =
          let after : lookup (eq k) new ≡ lookup (eq k) es = update k ∙ ap (λ b. cond b w (lookup (eq k) es)) other in
          subst (λ (v : Option V). R false (lookup (eq k) es) v) (sym after) (others (lookup (eq k) es))

  -- if P holds of no value for this key and of each value of another key, it holds of all that is found
  pub unwritten : (R : Bool → Option V → Type 0) (es : List (K × V)) (key : K) → lookup (eq key) es ≡ None → R true None → ((v : Option V) → R false v) → (k : K) → R (eq key k) (lookup (eq k) es)
  unwritten R es key none there others k = by (eq key k) refl
    where
      by : (b : Bool) → eq key k ≡ b → R b (lookup (eq k) es)
      by true same = subst (λ (v : Option V). R true v) (sym (lookup_same key k same es ∙ none)) there
      by false other = others (lookup (eq k) es)

-- what a path holds for a tunnel
pub by_key : (own : Tunnel) (held : Reservation) (l : ℕ) (t : Tunnel) (links : List ℕ) → held_by_path own held l t links ≡ (if tunnel_eq own t then held_by_links held l links else [])
by_key own held l t [] = by (tunnel_eq own t)
  where
    by : (b : Bool) → (let none : List Reservation = [] in none ≡ (if b then none else none))
    by true = refl
    by false = refl
by_key own held l t (x ∷ xs) = by (x == l) (tunnel_eq own t) (held_by_path own held l t xs) (held_by_links held l xs) (by_key own held l t xs)
  where
    by : (a b : Bool) (rest more : List Reservation) → rest ≡ (if b then more else []) → ((if a && b then held ∷ [] else []) ++ rest) ≡ (if b then ((if a then held ∷ [] else []) ++ more) else [])
    by true true rest more e = ap (λ hs. held ∷ hs) e
    by true false rest more e = e
    by false true rest more e = e
    by false false rest more e = e

-- a list of no length is empty
pub no_length : {A : Type 0} (xs : List A) → length xs ≤ 0 → xs ≡ []
no_length [] h = refl
no_length (x ∷ xs) h = absurd (omega (arith, h))

-- nothing is left past the end
pub no_more : {A : Type 0} (n : ℕ) (xs : List A) → length xs ≤ n → drop n xs ≡ []
no_more zero [] h = refl
no_more zero (x ∷ xs) h = absurd (omega (arith, h))
no_more (suc n) [] h = refl
no_more (suc n) (x ∷ xs) h = no_more n xs (omega (arith, h))

-- a row of eight zeros
pub row_of_nothing : (p : ℕ) → p < 8 → slice_index (0 ∷ 0 ∷ 0 ∷ 0 ∷ 0 ∷ 0 ∷ 0 ∷ 0 ∷ []) p ≡ 0
row_of_nothing zero h = refl
row_of_nothing (suc zero) h = refl
row_of_nothing (suc (suc zero)) h = refl
row_of_nothing (suc (suc (suc zero))) h = refl
row_of_nothing (suc (suc (suc (suc zero)))) h = refl
row_of_nothing (suc (suc (suc (suc (suc zero))))) h = refl
row_of_nothing (suc (suc (suc (suc (suc (suc zero)))))) h = refl
row_of_nothing (suc (suc (suc (suc (suc (suc (suc zero))))))) h = refl
row_of_nothing (suc (suc (suc (suc (suc (suc (suc (suc p)))))))) h = absurd (omega (arith, h))

-- one more at the end
pub length_push : {A : Type 0} (xs : List A) (x : A) → length (xs ++ x ∷ []) ≡ length xs + 1
length_push [] x = refl
length_push (y ∷ xs) x = let ih = length_push xs x in omega (arith, ih)
