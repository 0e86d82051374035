-- The stored sums are what the paths reserve.
use Rattle.std.proofs.Common.{◌≡◌, ℕ, true, false, ◌||◌, List, [], ◌∷◌, Option, None, map, filter, sum_by, refl, sym, ap, subst, ◌∙◌, arith, inl, inr, true≢false}
use Rattle.std.proofs.lemmas.Bool.{cases_Bool}
use Rattle.std.proofs.lemmas.List.Sums.{sum_by-cons}
use Rattle.std.specs.List.{list_any, AllByRecursion, IsDistinct}
use Rattle.std.specs.Map.{keys_of, lookup}
use Rattle.lsp_base.specs.Same.{same_tunnel}
use Rattle.lsp_base.specs.Shares.{greatest, is_held, is_of_tunnel, reserved, share, tunnels_of}
use Rattle.lsp_base.specs.declared.path.Path.{Path}
use Rattle.lsp_base.specs.declared.tunnel.Tunnel.{Tunnel}
use Rattle.bandwidth_book.specs.Reservation.{Reservation}
use Rattle.bandwidth_book.specs.declared.link_entries.LinkEntry.{LinkEntry}
use Rattle.bandwidth_book.specs.Reservation.{times}
use Rattle.bandwidth_book.specs.Entries.{held_in}
use Rattle.bandwidth_book.specs.Tunnels.{entry_of, most_on, total}
use Rattle.bandwidth_book.specs.Paths.{held_by, tunnel_eq}
use Rattle.bandwidth_book.proofs.Counts.{most_same}
use Rattle.bandwidth_book.proofs.Distinct.{sums_agree}
use Rattle.bandwidth_book.proofs.Same.{tunnel_eq_is, tunnel_eq_true, tunnel_is, tunnel_laws, tunnel_symm}
use Rattle.bandwidth_book.proofs.Shares.{share_is_most}
use Rattle.bandwidth_book.proofs.Totals.{sum_over, sum_same, total_over_keys}

-- ---- the tunnels of paths

pub tunnels_have : (t : Tunnel) (xs : List Path) → list_any (tunnel_eq t) (tunnels_of xs) ≡ list_any (is_of_tunnel t) xs
tunnels_have t [] = refl
tunnels_have t (x ∷ xs) =
    let ih = tunnels_have t xs in
    let e = tunnel_symm t x.tunnel ∙ tunnel_eq_is x.tunnel t in
    elim (cases_Bool (list_any (is_of_tunnel x.tunnel) xs)) [
      | inl later ↦ elim (cases_Bool (same_tunnel x.tunnel t)) [
        | inl here ↦ (let there : list_any (is_of_tunnel t) xs ≡ true = subst (λ (u : Tunnel). list_any (is_of_tunnel u) xs ≡ true) (tunnel_is x.tunnel t here) later in rw (later, here) (ih ∙ there))
        | inr other ↦ rw (later, other) ih
      ]
      | inr last ↦ rw last (ap (λ b. b || list_any (tunnel_eq t) (tunnels_of xs)) e ∙ ap (λ b. same_tunnel x.tunnel t || b) ih)
    ]

none_equal : (t : Tunnel) (ts : List Tunnel) → list_any (tunnel_eq t) ts ≡ false → AllByRecursion (λ u. tunnel_eq t u ≡ false) ts
none_equal t [] n = tt
none_equal t (u ∷ ts) n =
    elim (cases_Bool (tunnel_eq t u)) [
      | inl here ↦ absurd (true≢false (let m : true ≡ false = rw here at n in m))
      | inr other ↦ (let m : list_any (tunnel_eq t) ts ≡ false = rw other at n in (other, none_equal t ts m))
    ]

pub tunnels_distinct : (xs : List Path) → IsDistinct tunnel_eq (tunnels_of xs)
unfolding IsDistinct
tunnels_distinct [] = tt
tunnels_distinct (x ∷ xs) =
    elim (cases_Bool (list_any (is_of_tunnel x.tunnel) xs)) [
      | inl later ↦ rw later (tunnels_distinct xs)
      | inr last ↦ rw last (none_equal x.tunnel (tunnels_of xs) (tunnels_have x.tunnel xs ∙ last), tunnels_distinct xs)
    ]

none_held : (t : Tunnel) (l p : ℕ) (xs : List Path) → list_any (is_of_tunnel t) xs ≡ false → greatest (map (λ x. x.bandwidth) (filter (is_held t l p) xs)) ≡ 0
none_held t l p [] n = refl
none_held t l p (x ∷ xs) n =
    elim (cases_Bool (same_tunnel x.tunnel t)) [
      | inl here ↦ absurd (true≢false (let m : true ≡ false = rw here at n in m))
      | inr other ↦ (let m : list_any (is_of_tunnel t) xs ≡ false = rw other at n in rw other (none_held t l p xs m))
    ]

-- a tunnel that has no path reserves nothing
pub no_share : (t : Tunnel) (l p : ℕ) (xs : List Path) → list_any (tunnel_eq t) (tunnels_of xs) ≡ false → share xs t l p ≡ 0
unfolding share
no_share t l p xs n = none_held t l p xs (sym (tunnels_have t xs) ∙ n)

sum_over_is : (f : Tunnel → ℕ) (ts : List Tunnel) → sum_over f ts ≡ sum_by f ts
sum_over_is f [] = refl
sum_over_is f (t ∷ ts) = let ih = sum_over_is f ts in let c = sum_by-cons f t ts in omega (arith, ih, c)

pub reserved_is : (paths : List Path) (l p : ℕ) → reserved paths l p ≡ sum_over (λ t. share paths t l p) (tunnels_of paths)
unfolding reserved
reserved_is paths l p = sym (sum_over_is (λ t. share paths t l p) (tunnels_of paths))

-- ---- the sums

-- a tunnel without a value counts as one that is missing
no_value : {V : Type 0} (f : Option V → ℕ) (es : List (Tunnel × V)) (t : Tunnel) → list_any (tunnel_eq t) (keys_of es) ≡ false → f (lookup (tunnel_eq t) es) ≡ f None
no_value f [] t n = refl
no_value f (e ∷ es) t n =
    elim (cases_Bool (tunnel_eq t e.0)) [
      | inl here ↦ absurd (true≢false (let m : true ≡ false = rw here at n in m))
      | inr other ↦ (let m : list_any (tunnel_eq t) (keys_of es) ≡ false = rw other at n in rw other (no_value f es t m))
    ]

everywhere : (f g : Tunnel → ℕ) (ts : List Tunnel) → ((t : Tunnel) → f t ≡ g t) → AllByRecursion (λ t. f t ≡ g t) ts
everywhere f g [] e = tt
everywhere f g (t ∷ ts) e = (e t, everywhere f g ts e)

pub total_is_reserved : (es : List (Tunnel × List LinkEntry)) (paths : List Path) (l p : ℕ) → IsDistinct tunnel_eq (keys_of es)
    → ((t : Tunnel) (h : Reservation) → times h (held_in (entry_of es l t)) ≡ times h (held_by l t paths)) → total (most_on l p) es ≡ reserved paths l p
total_is_reserved es paths l p d s =
    let f : Tunnel → ℕ = λ t. share paths t l p in
    let g : Tunnel → ℕ = λ t. most_on l p (lookup (tunnel_eq t) es) in
    let each : (t : Tunnel) → g t ≡ f t = λ t. most_same (held_in (entry_of es l t)) (held_by l t paths) p (s t) ∙ sym (share_is_most paths t l p) in
    total_over_keys tunnel_eq tunnel_laws (most_on l p) es d
    ∙ (sum_same g f (keys_of es) (everywhere g f (keys_of es) each)
    ∙ (sums_agree tunnel_eq tunnel_laws f (λ a b e. ap f (tunnel_eq_true a b e)) (keys_of es) (tunnels_of paths) d (tunnels_distinct paths)
    (λ t n. sym (each t) ∙ no_value (most_on l p) es t n) (λ t n. no_share t l p paths n)
    ∙ sym (reserved_is paths l p)))
