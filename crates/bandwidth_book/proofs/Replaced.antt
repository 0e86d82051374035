-- The entries of one tunnel are replaced; the tunnel goes if the new ones are none.
use Rattle.std.proofs.Common.{◌≡◌, ◌≤◌, ◌+◌, ℕ, length, zero, suc, Bool, true, false, cond, List, [], ◌∷◌, Option, Some, None, refl, sym, ap, subst, ◌∙◌, arith, slice_get, sum_by}
use Rattle.std.specs.List.{swap_remove}
use Rattle.std.specs.Map.{lookup, keys_of, values_of}
use Rattle.std.proofs.lemmas.List.Sums.{sum_by-cons, sum_by-swap_remove}
use Rattle.std.proofs.lemmas.Option.{get_or_from_slice_get, none-some, same_Some, slice_get_within}
use Rattle.indexmap.specs.IndexMap.{IndexMap, IsUnique, keys, set_value_at, values}
use Rattle.indexmap.proofs.CallerLemmas.{index_map_len-with_value_at, updates-with_value_at}
use Rattle.lsp_base.specs.declared.tunnel.Tunnel.{Tunnel}
use Rattle.bandwidth_book.specs.Tunnels.{HasNoEmptyList, entries_in, most_on, total, tunnel_eq}
use Rattle.bandwidth_book.specs.declared.link_entries.LinkEntry.{LinkEntry}
use Rattle.bandwidth_book.proofs.Same.{tunnel_laws}
use Rattle.bandwidth_book.proofs.Written.{written}

-- ---- totals

total_set_at : {K V : Type 0} (f : Option V → ℕ) (es : List (K × V)) (i : ℕ) (old new : V) → slice_get (values_of es) i ≡ Some old → total f (set_value_at es i new) + f (Some old) ≡ total f es + f (Some new)
total_set_at f [] i old new h = cc
total_set_at f (e ∷ es) zero old new h = let m : f (Some e.1) ≡ f (Some old) = ap f h in omega (arith, m)
total_set_at f (e ∷ es) (suc i) old new h = let ih = total_set_at f es i old new h in omega (arith, ih)

total-is : {K V : Type 0} (f : Option V → ℕ) (es : List (K × V)) → total f es ≡ sum_by (λ e. f (Some e.1)) es
total-is f [] = refl
total-is f (e ∷ es) = let ih = total-is f es in let c = sum_by-cons (λ x. f (Some x.1)) e es in omega (arith, ih, c)

total_swap_remove : {K V : Type 0} (f : Option V → ℕ) (es : List (K × V)) (i : ℕ) (p : K × V) → slice_get es i ≡ Some p → total f (swap_remove es i p) + f (Some p.1) ≡ total f es
total_swap_remove f es i p at =
    let here = ap (λ x. f (Some x.1)) (get_or_from_slice_get es i p p at) in
    let sums = sum_by-swap_remove (λ x. f (Some x.1)) es i p (slice_get_within es i p at) in
    let before = total-is f es in
    let after = total-is f (swap_remove es i p) in
    omega (arith, here, sums, before, after)

-- ---- a tunnel with the entries xs has ys instead, or goes if ys is empty

pub record IsReplaced (es new : List (Tunnel × List LinkEntry)) (t : Tunnel) (xs ys : List LinkEntry) (last : Option (List LinkEntry)) : Type 0 where
  found : lookup (tunnel_eq t) es ≡ Some xs
  is : entries_in last ≡ ys
  updates : (q : Tunnel) → lookup (tunnel_eq q) new ≡ cond (tunnel_eq t q) last (lookup (tunnel_eq q) es)
  pub totals : (l p : ℕ) → total (most_on l p) new + most_on l p (Some xs) ≡ total (most_on l p) es + most_on l p (Some ys)
  pub few : length new ≤ length es

module _ {es new : List (Tunnel × List LinkEntry)} {t : Tunnel} {xs ys : List LinkEntry} {last : Option (List LinkEntry)} (r : IsReplaced es new t xs ys last) where
  -- if R relates xs to ys and each list to itself, it relates the entries of each tunnel
  pub replaced : (R : Bool → List LinkEntry → List LinkEntry → Type 0) → R true xs ys → ((v : List LinkEntry) → R false v v) → (k : Tunnel) → R (tunnel_eq t k) (entries_in (lookup (tunnel_eq k) es)) (entries_in (lookup (tunnel_eq k) new))
  replaced R there others k =
      written tunnel_laws (λ b o u. R b (entries_in o) (entries_in u)) es new t (Some xs) last r.found r.updates (subst (R true xs) (sym r.is) there) (λ v. others (entries_in v)) k

  pub is_full : (last ≡ Some [] → ⊥) → HasNoEmptyList es → HasNoEmptyList new
  is_full none full q e = by (tunnel_eq t q) (sym (r.updates q) ∙ e)
    where
      by : (b : Bool) → cond b last (lookup (tunnel_eq q) es) ≡ Some [] → ⊥
      by true e = none e
      by false e = full q e

  -- the tunnel goes if ys is empty
  pub removed : (fs : List (Tunnel × List LinkEntry)) (i : ℕ) → ys ≡ [] → slice_get new i ≡ Some (t, ys) → fs ≡ swap_remove new i (t, ys)
      → ((q : Tunnel) → lookup (tunnel_eq q) fs ≡ cond (tunnel_eq t q) None (lookup (tunnel_eq q) new)) → length fs ≤ length new → IsReplaced es fs t xs ys None
  removed fs i none at is updates fewer = record {
    found = r.found;
    is = sym none;
    updates = λ q. updates q ∙ ap (cond (tunnel_eq t q) None) (r.updates q) ∙ once (tunnel_eq t q) (lookup (tunnel_eq q) es);
    totals = λ l p.
        let nothing : most_on l p (Some ys) ≡ 0 = ap (λ v. most_on l p (Some v)) none in
        let same = ap (total (most_on l p)) is in
        let less = total_swap_remove (most_on l p) new i (t, ys) at in
        let before = r.totals l p in
        omega (arith, nothing, same, less, before);
    few = (let n = r.few in omega (arith, n, fewer));
  }
    where
      once : (b : Bool) (u : Option (List LinkEntry)) → cond b None (cond b last u) ≡ cond b None u
      once true u = refl
      once false u = refl

entry_at : {K V : Type 0} (es : List (K × V)) (i : ℕ) (t : K) (x y : V) → slice_get (values_of es) i ≡ Some x → ((k : K) → slice_get (keys_of es) i ≡ Some k → k ≡ t) → (slice_get es i ≡ Some (t, x)) × (slice_get (set_value_at es i y) i ≡ Some (t, y))
entry_at [] i t x y value key = absurd (none-some x value)
entry_at (e ∷ es) zero t x y value key =
    let k = key e.0 refl in
    let v = same_Some e.1 x value in
    (λ j. Some (k j, v j), λ j. Some (k j, y))
entry_at (e ∷ es) (suc i) t x y value key = entry_at es i t x y value key

module _ {S : Type 0} (m : IndexMap Tunnel (List LinkEntry) S) (i : ℕ) (t : Tunnel) (xs ys : List LinkEntry)
    (unique : IsUnique tunnel_eq m) (value : slice_get (values m) i ≡ Some xs) (key : (k : Tunnel) → slice_get (keys m) i ≡ Some k → k ≡ t) (get : slice_get (values m) i ≡ lookup (tunnel_eq t) m.entries) where
  pub at : slice_get (set_value_at m.entries i ys) i ≡ Some (t, ys)
  at = (entry_at m.entries i t xs ys value key).1

  pub written_at : IsReplaced m.entries (set_value_at m.entries i ys) t xs ys (Some ys)
  written_at = record {
    found = sym get ∙ value;
    is = refl;
    updates = (updates-with_value_at m i ys tunnel_laws unique t xs (entry_at m.entries i t xs ys value key).0).0;
    totals = λ l p. total_set_at (most_on l p) m.entries i xs ys value;
    few = (let n = index_map_len-with_value_at m i ys in omega (arith, n));
  }
