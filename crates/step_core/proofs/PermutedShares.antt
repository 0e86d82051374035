-- What paths reserve and leave doesn't depend on their order.
use Rattle.std.proofs.Common.{◌≡◌, ◌≤◌, ◌&&◌, ◌||◌, ℕ, ◌+◌, Bool, true, false, cond, not, nat_lt, List, [], ◌∷◌, ◌++◌, length, map, filter, sum_by, pos, ◌-ℤ◌, IsPermutation, refl, sym, ap, ◌∙◌, arith}
use Rattle.std.specs.Prelude.{int_le}
use Rattle.std.specs.List.{AllByRecursion, list_all, list_any, range_with_len}
use Rattle.std.proofs.Math.Nat.{le-max_left, le-max_right, max-le}
use Rattle.std.proofs.lemmas.Bool.{both_ways}
use Rattle.std.proofs.lemmas.List.Elements.{All-from_recursion, recursion_from_All}
use Rattle.std.proofs.lemmas.List.Sorted.{All-permutation, IsPermutation-append_left, IsPermutation-sym, sum_by-IsPermutation}
use Rattle.te_base.specs.declared.network.Link.{Link}
use Rattle.lsp_base.specs.Same.{same_tunnel}
use Rattle.lsp_base.specs.Shares.{fits, fits_at, greatest, is_held, is_of_tunnel, priorities, reservable, reserved, share, tunnels_of, unreserved}
use Rattle.lsp_base.specs.declared.path.Path.{Path}
use Rattle.lsp_base.specs.declared.tunnel.Tunnel.{Tunnel}
use Rattle.lsp_base.proofs.Removal.{same_tunnel-eq, same_tunnel-refl}
use Rattle.te_snapshot.specs.Left.{all_left}
use Rattle.te_snapshot.specs.Own.{is_something, own_shares}
use Rattle.step_core.specs.Consistent.{count}
use Rattle.step_core.proofs.Counts.{one}
use Rattle.step_core.proofs.Permuted.{any-permuted, permutes_by_counts}

-- ---- what one tunnel reserves

abbrev bandwidth_of : Path → ℕ
bandwidth_of x = x.bandwidth

-- a path that passes has no more bandwidth than this
abbrev IsBounded : (Path → Bool) → ℕ → Path → Type 0
IsBounded p n x = p x ≡ true → x.bandwidth ≤ n

each_bounded : (p : Path → Bool) (n : ℕ) (xs : List Path) → greatest (map bandwidth_of (filter p xs)) ≤ n → AllByRecursion (IsBounded p n) xs
each_bounded p n [] most = tt
each_bounded p n (x ∷ xs) most = by (p x) refl most (each_bounded p n xs)
  where
    by : (b : Bool) → p x ≡ b → greatest (map bandwidth_of (cond b (x ∷ filter p xs) (filter p xs))) ≤ n → (greatest (map bandwidth_of (filter p xs)) ≤ n → AllByRecursion (IsBounded p n) xs) → AllByRecursion (IsBounded p n) (x ∷ xs)
    by true is most rest =
        let own = le-max_left x.bandwidth (greatest (map bandwidth_of (filter p xs))) in
        let others = le-max_right x.bandwidth (greatest (map bandwidth_of (filter p xs))) in
        (λ _. omega (arith, own, most), rest (omega (arith, others, most)))
    by false is most rest = (λ here. absurd (both_ways (p x) is here), rest most)

greatest_bounded : (p : Path → Bool) (n : ℕ) (xs : List Path) → AllByRecursion (IsBounded p n) xs → greatest (map bandwidth_of (filter p xs)) ≤ n
greatest_bounded p n [] all = omega arith
greatest_bounded p n (x ∷ xs) all = by (p x) refl (greatest_bounded p n xs all.1)
  where
    by : (b : Bool) → p x ≡ b → greatest (map bandwidth_of (filter p xs)) ≤ n → greatest (map bandwidth_of (cond b (x ∷ filter p xs) (filter p xs))) ≤ n
    by true is rest = max-le (all.0 is) rest
    by false is rest = rest

no_more : (p : Path → Bool) (xs ys : List Path) → IsPermutation xs ys → greatest (map bandwidth_of (filter p ys)) ≤ greatest (map bandwidth_of (filter p xs))
no_more p xs ys same =
    let n = greatest (map bandwidth_of (filter p xs)) in
    greatest_bounded p n ys (recursion_from_All (IsBounded p n) ys (All-permutation (IsBounded p n) xs ys same (All-from_recursion (IsBounded p n) xs (each_bounded p n xs (omega arith)))))

pub share-permuted : (xs ys : List Path) → IsPermutation xs ys → (t : Tunnel) (l p : ℕ) → share ys t l p ≡ share xs t l p
unfolding share
share-permuted xs ys same t l p =
    let less = no_more (is_held t l p) xs ys same in
    let more = no_more (is_held t l p) ys xs (IsPermutation-sym xs ys same) in
    omega (arith, less, more)

-- ---- what all tunnels reserve

-- each tunnel that has a path occurs once
tunnel_once : (t : Tunnel) (xs : List Path) → count (λ u. same_tunnel u t) (tunnels_of xs) ≡ one (list_any (is_of_tunnel t) xs)
tunnel_once t [] = refl
tunnel_once t (x ∷ xs) = by (list_any (is_of_tunnel x.tunnel) xs) (same_tunnel x.tunnel t) refl refl (tunnel_once t xs)
  where
    test : Tunnel → Bool
    test u = same_tunnel u t

    by : (b c : Bool) → list_any (is_of_tunnel x.tunnel) xs ≡ b → same_tunnel x.tunnel t ≡ c → count (λ u. same_tunnel u t) (tunnels_of xs) ≡ one (list_any (is_of_tunnel t) xs)
        → count (λ u. same_tunnel u t) (cond b (tunnels_of xs) (x.tunnel ∷ tunnels_of xs)) ≡ one (c || list_any (is_of_tunnel t) xs)
    by true true later is rest = rest ∙ ap one (sym (ap (λ (u : Tunnel). list_any (is_of_tunnel u) xs) (same_tunnel-eq x.tunnel t is)) ∙ later)
    by false true none is rest =
        let first = ap one is in
        let no = ap one (sym (ap (λ (u : Tunnel). list_any (is_of_tunnel u) xs) (same_tunnel-eq x.tunnel t is)) ∙ none) in
        omega (arith, first, no, rest)
    by true false later other rest = rest
    by false false none other rest = let first = ap one other in omega (arith, first, rest)

tunnels-permuted : (xs ys : List Path) → IsPermutation xs ys → IsPermutation (tunnels_of xs) (tunnels_of ys)
tunnels-permuted xs ys same = permutes_by_counts same_tunnel same_tunnel-refl same_tunnel-eq (tunnels_of xs) (tunnels_of ys) (λ t. tunnel_once t xs ∙ sym (ap one (any-permuted (is_of_tunnel t) xs ys same)) ∙ sym (tunnel_once t ys))

reserved-permuted : (xs ys : List Path) → IsPermutation xs ys → (l p : ℕ) → reserved ys l p ≡ reserved xs l p
unfolding reserved
reserved-permuted xs ys same l p =
    ap (λ (f : Tunnel → ℕ). sum_by f (tunnels_of ys)) (λ i t. share-permuted xs ys same t l p i)
    ∙ sum_by-IsPermutation (λ t. share xs t l p) (tunnels_of xs) (tunnels_of ys) (tunnels-permuted xs ys same)

pub unreserved-permuted : (links : List Link) (xs ys : List Path) → IsPermutation xs ys → (l p : ℕ) → unreserved links ys l p ≡ unreserved links xs l p
unfolding unreserved
unreserved-permuted links xs ys same l p = ap (λ (n : ℕ). pos (reservable links l) -ℤ pos n) (reserved-permuted xs ys same l p)

-- ---- for a search, and for its answer

fits_at-permuted : (links : List Link) (xs ys : List Path) → IsPermutation xs ys → (g : Path) (l p : ℕ) → fits_at links ys g l p ≡ fits_at links xs g l p
fits_at-permuted links xs ys same g l p =
    let now = share-permuted xs ys same g.tunnel l p in
    let more = IsPermutation-append_left (g ∷ []) xs ys same in
    let then = share-permuted (xs ++ g ∷ []) (ys ++ g ∷ []) more g.tunnel l p in
    let left = unreserved-permuted links (xs ++ g ∷ []) (ys ++ g ∷ []) more l p in
    λ i. not (nat_lt (now i) (then i)) || int_le (pos 0) (left i)

pub fits-permuted : (links : List Link) (xs ys : List Path) → IsPermutation xs ys → (g : Path) (setup : ℕ) → fits links ys g setup ≡ fits links xs g setup
unfolding fits
fits-permuted links xs ys same g setup = λ i. list_all (λ l. nat_lt l (length links) && list_all (λ p. fits_at-permuted links xs ys same g l p i) (priorities g.hold setup)) g.links

pub all_left-permuted : (links : List Link) (xs ys : List Path) → IsPermutation xs ys → all_left links ys ≡ all_left links xs
unfolding all_left
all_left-permuted links xs ys same = λ i. map (λ l. map (λ p. unreserved-permuted links xs ys same l p i) (priorities 0 7)) (range_with_len 0 (length links))

pub own_shares-permuted : (xs ys : List Path) → IsPermutation xs ys → (t : Tunnel) (n : ℕ) → own_shares ys t n ≡ own_shares xs t n
unfolding own_shares
own_shares-permuted xs ys same t n = λ i. filter is_something (map (λ l. record { link = l; shares = map (λ p. share-permuted xs ys same t l p i) (priorities 0 7) }) (range_with_len 0 n))
