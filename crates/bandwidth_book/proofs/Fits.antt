-- What one more path reserves.
use Rattle.std.proofs.Common.{◌≡◌, ◌≤◌, ◌<◌, ◌^◌, ℕ, zero, suc, ◌==◌, get_or, drop, ◌+◌, ◌-◌, Bool, true, false, ◌||◌, ◌&&◌, nat_le, nat_lt, not, max, int_le, pos, ◌-ℤ◌, ◌≤ℤ◌, T, List, [], ◌∷◌, ◌++◌, length, refl, sym, ap, subst, ◌∙◌, arith, inl, inr, true≢false, if◌then◌else◌}
use Rattle.std.proofs.lemmas.Bool.{cases_Bool, or_cases, or_left, or_right}
use Rattle.std.proofs.lemmas.Bool.Decides.{nat_tests}
use Rattle.std.proofs.lemmas.Int.{ints}
use Rattle.std.specs.List.{All, list_all, list_any, range_with_len}
use Rattle.lsp_base.specs.Shares.{fits_at, has_link, is_of_tunnel, reservable, reserved, rises, share, tunnels_of, unreserved}
use Rattle.std.proofs.lemmas.List.Elements.{All-head, All-tail}
use Rattle.te_base.specs.Ted.{IsLinkAmong}
use Rattle.te_base.specs.declared.network.Link.{Link}
use Rattle.lsp_base.specs.declared.path.Path.{Path}
use Rattle.lsp_base.specs.declared.tunnel.Tunnel.{Tunnel}
use Rattle.bandwidth_book.specs.Reservation.{held_of, most}
use Rattle.bandwidth_book.specs.Tunnels.{held_by_path}
use Rattle.bandwidth_book.specs.Paths.{held_by, tunnel_eq}
use Rattle.bandwidth_book.proofs.Counts.{most_append}
use Rattle.bandwidth_book.proofs.Distinct.{picked, sum_add, sum_pointwise, sums_agree}
use Rattle.bandwidth_book.proofs.Reserved.{no_share, reserved_is, tunnels_distinct, tunnels_have}
use Rattle.bandwidth_book.proofs.Same.{tunnel_eq_self, tunnel_eq_true, tunnel_laws}
use Rattle.bandwidth_book.proofs.Same.{tunnel_eq_is}
use Rattle.bandwidth_book.proofs.Shares.{most_by_path, share_is_most}
use Rattle.bandwidth_book.proofs.Stands.{held_by_append}

-- a tunnel's share with one more path
pub share_with : (paths : List Path) (g : Path) (t : Tunnel) (l p : ℕ)
    → share (paths ++ g ∷ []) t l p ≡ max (share paths t l p) (if tunnel_eq g.tunnel t && nat_le g.hold p && has_link l g then g.bandwidth else 0)
share_with paths g t l p =
    let one = held_by_path g.tunnel (held_of g) l t g.links in
    let e : most (held_by l t (paths ++ g ∷ [])) p ≡ most (held_by l t paths ++ (one ++ [])) p = ap (λ hs. most hs p) (held_by_append l t paths (g ∷ [])) in
    let a = most_append (held_by l t paths) (one ++ []) p in
    let b = most_append one [] p in
    let m = most_by_path g.tunnel (held_of g) l t p g.links in
    let s = share_is_most (paths ++ g ∷ []) t l p in
    let r = share_is_most paths t l p in
    omega (arith, e, a, b, m, s, r)

-- only its own tunnel's share changes
share_moves : (paths : List Path) (g : Path) (l p : ℕ) (t : Tunnel)
    → share (paths ++ g ∷ []) t l p ≡ share paths t l p + (if tunnel_eq g.tunnel t then share (paths ++ g ∷ []) g.tunnel l p - share paths g.tunnel l p else 0)
share_moves paths g l p t =
    elim (cases_Bool (tunnel_eq g.tunnel t)) [
      | inl here ↦ (let e : g.tunnel ≡ t = tunnel_eq_true g.tunnel t here in
          let w = share_with paths g g.tunnel l p in
          let own : share (paths ++ g ∷ []) g.tunnel l p ≡ share paths g.tunnel l p + (share (paths ++ g ∷ []) g.tunnel l p - share paths g.tunnel l p) = omega (arith, w) in
          rw here (subst (λ (u : Tunnel). share (paths ++ g ∷ []) u l p ≡ share paths u l p + (share (paths ++ g ∷ []) g.tunnel l p - share paths g.tunnel l p)) e own))
      | inr other ↦ (let w : share (paths ++ g ∷ []) t l p ≡ max (share paths t l p) 0 = rw other at (share_with paths g t l p) in rw other (omega (arith, w)))
    ]

any_append : {A : Type 0} (test : A → Bool) (xs : List A) (y : A) → list_any test (xs ++ y ∷ []) ≡ list_any test xs || test y
any_append test [] y = or_false (test y)
  where
    or_false : (b : Bool) → (b || false) ≡ b
    or_false true = refl
    or_false false = refl
any_append test (x ∷ xs) y =
    elim (cases_Bool (test x)) [
      | inl here ↦ rw here refl
      | inr other ↦ rw other (any_append test xs y)
    ]

right_of : (a b : Bool) → b ≡ true → (a || b) ≡ true
right_of true b e = refl
right_of false b e = e

left_false : (a b : Bool) → (a || b) ≡ false → a ≡ false
left_false true b e = e
left_false false b e = refl

has_own : (paths : List Path) (g : Path) → list_any (tunnel_eq g.tunnel) (tunnels_of (paths ++ g ∷ [])) ≡ true
has_own paths g =
    tunnels_have g.tunnel (paths ++ g ∷ [])
    ∙ (any_append (is_of_tunnel g.tunnel) paths g
    ∙ right_of (list_any (is_of_tunnel g.tunnel) paths) (is_of_tunnel g.tunnel g) (sym (tunnel_eq_is g.tunnel g.tunnel) ∙ tunnel_eq_self g.tunnel))

missing_before : (paths : List Path) (g : Path) (t : Tunnel) → list_any (tunnel_eq t) (tunnels_of (paths ++ g ∷ [])) ≡ false → list_any (tunnel_eq t) (tunnels_of paths) ≡ false
missing_before paths g t n =
    tunnels_have t paths
    ∙ left_false (list_any (is_of_tunnel t) paths) (is_of_tunnel t g) (sym (any_append (is_of_tunnel t) paths g) ∙ (sym (tunnels_have t (paths ++ g ∷ [])) ∙ n))

-- one more path raises what is reserved by what its tunnel's share rises
pub reserved_with : (paths : List Path) (g : Path) (l p : ℕ)
    → reserved (paths ++ g ∷ []) l p ≡ reserved paths l p + (share (paths ++ g ∷ []) g.tunnel l p - share paths g.tunnel l p)
reserved_with paths g l p =
    let ts = tunnels_of (paths ++ g ∷ []) in
    let f : Tunnel → ℕ = λ t. share paths t l p in
    let rise = share (paths ++ g ∷ []) g.tunnel l p - share paths g.tunnel l p in
    let all = reserved_is (paths ++ g ∷ []) l p in
    let moves = sum_pointwise (λ t. share (paths ++ g ∷ []) t l p) (λ t. share paths t l p + (if tunnel_eq g.tunnel t then rise else 0)) ts (share_moves paths g l p) in
    let split = sum_add f (λ t. if tunnel_eq g.tunnel t then rise else 0) ts in
    let own = picked tunnel_eq tunnel_laws (λ _. rise) (λ a b e. refl) g.tunnel ts (tunnels_distinct (paths ++ g ∷ [])) (λ n. absurd (true≢false (sym (has_own paths g) ∙ n))) in
    let before = sums_agree tunnel_eq tunnel_laws f (λ a b e. ap f (tunnel_eq_true a b e)) ts (tunnels_of paths) (tunnels_distinct (paths ++ g ∷ [])) (tunnels_distinct paths)
    (λ t n. no_share t l p paths (missing_before paths g t n)) (λ t n. no_share t l p paths n) in
    let was = reserved_is paths l p in
    omega (arith, all, moves, split, own, before, was)

-- ---- whether it fits

not_less : (b s : ℕ) → nat_le b s ≡ not (nat_lt s (max s b))
not_less b s =
    elim (cases_Bool (nat_le b s)) [
      | inl low ↦ (let m : nat_lt s (max s b) ≡ false = grind (arith, nat_tests) in rw (low, m) refl)
      | inr high ↦ (let m : nat_lt s (max s b) ≡ true = grind (arith, nat_tests) in rw (high, m) refl)
    ]

more_by : (b s : ℕ) → max s b - s ≡ b - s
more_by b s = omega arith

-- one more path fits at a priority exactly if its tunnel's share doesn't rise, or if what it rises by is left
pub fits_at_is : (links : List Link) (paths : List Path) (g : Path) (l p b s sum : ℕ) → b ≡ g.bandwidth → s ≡ share paths g.tunnel l p → sum ≡ reserved paths l p
    → nat_le g.hold p ≡ true → has_link l g ≡ true
    → (nat_le b s || int_le (pos 0) (pos (reservable links l) -ℤ pos (sum + (b - s)))) ≡ fits_at links paths g l p
unfolding unreserved
fits_at_is links paths g l p b s sum eb es er low has =
    let w : share (paths ++ g ∷ []) g.tunnel l p ≡ max (share paths g.tunnel l p) g.bandwidth = rw (tunnel_eq_self g.tunnel, low, has) at (share_with paths g g.tunnel l p) in
    let w2 : share (paths ++ g ∷ []) g.tunnel l p ≡ max s b = w ∙ (λ i. max (sym es i) (sym eb i)) in
    let first : nat_le b s ≡ not (rises paths g l p) = not_less b s ∙ (λ i. not (nat_lt (es i) (sym w2 i))) in
    let amount : sum + (b - s) ≡ reserved (paths ++ g ∷ []) l p = (let r = reserved_with paths g l p in omega (arith, r, w2, es, er)) in
    λ i. first i || int_le (pos 0) (pos (reservable links l) -ℤ pos (amount i))

is_true : (b : Bool) → T b → b ≡ true
is_true true t = refl
is_true false t = absurd t

-- if enough is left for a path that shares nothing, enough is left for one that shares
left_beside_share : (able sum b s : ℕ) → int_le (pos 0) (pos able -ℤ pos (sum + (b - 0))) ≡ true → int_le (pos 0) (pos able -ℤ pos (sum + (b - s))) ≡ true
left_beside_share able sum b s h =
    let given : pos 0 ≤ℤ (pos able -ℤ pos (sum + (b - 0))) = record { le = subst T (sym h) tt } in
    let wanted : pos 0 ≤ℤ (pos able -ℤ pos (sum + (b - s))) = omega (arith, ints, given) in
    is_true (int_le (pos 0) (pos able -ℤ pos (sum + (b - s)))) wanted.le

-- a bandwidth that fits if nothing is shared fits whatever is shared
pub borne_beside_share : (able sum b s : ℕ) → (nat_le b 0 || int_le (pos 0) (pos able -ℤ pos (sum + (b - 0)))) ≡ true → (nat_le b s || int_le (pos 0) (pos able -ℤ pos (sum + (b - s)))) ≡ true
borne_beside_share able sum b s h =
    elim (or_cases (nat_le b 0) (int_le (pos 0) (pos able -ℤ pos (sum + (b - 0)))) h) [
      | inl none ↦ (let low : nat_le b s ≡ true = grind (arith, nat_tests, none) in or_left (nat_le b s) _ low)
      | inr left ↦ or_right (nat_le b s) _ (left_beside_share able sum b s left)
    ]

-- ---- the priorities in turn

pub first_priority : (f : ℕ → Bool) (low high : ℕ) → low < high → list_all f (range_with_len low (high - low)) ≡ (f low && list_all f (range_with_len (low + 1) (high - (low + 1))))
first_priority f low high less = ap (λ n. list_all f (range_with_len low n)) (let e : high - low ≡ suc (high - (low + 1)) = omega (arith, less) in e)

pub no_priority : (f : ℕ → Bool) (low high : ℕ) → high ≤ low → list_all f (range_with_len low (high - low)) ≡ true
no_priority f low high more = ap (λ n. list_all f (range_with_len low n)) (let e : high - low ≡ 0 = omega (arith, more) in e)

pub has_at : (xs : List ℕ) (i d : ℕ) → i < length xs → list_any (λ k. k == get_or xs i d) xs ≡ true
has_at [] i d n = absurd (omega (arith, n))
has_at (x ∷ xs) zero d n = let e : (x == x) ≡ true = grind (arith, nat_tests) in rw e refl
has_at (x ∷ xs) (suc i) d n =
    elim (cases_Bool (x == get_or xs i d)) [
      | inl here ↦ rw here refl
      | inr other ↦ rw other (has_at xs i d (omega (arith, n)))
    ]

-- ---- the links in turn

pub next_all : (test : ℕ → Bool) (xs : List ℕ) (i d : ℕ) → i < length xs → test (get_or xs i d) ≡ true → list_all test (drop (suc i) xs) ≡ list_all test (drop i xs)
next_all test [] i d n t = absurd (omega (arith, n))
next_all test (x ∷ xs) zero d n t = rw t refl
next_all test (x ∷ xs) (suc i) d n t = next_all test xs i d (omega (arith, n)) t

pub all_done : (test : ℕ → Bool) (xs : List ℕ) (i : ℕ) → length xs ≤ i → true ≡ list_all test (drop i xs)
all_done test [] zero n = refl
all_done test [] (suc i) n = refl
all_done test (x ∷ xs) zero n = absurd (omega (arith, n))
all_done test (x ∷ xs) (suc i) n = all_done test xs i (omega (arith, n))

pub lt_true : (m n : ℕ) → m < n → nat_lt m n ≡ true
lt_true m n h = grind (arith, nat_tests)

-- on each link of a network, what may be reserved is small
pub reservable_small : (nodes : ℕ) (links : List Link) → All (IsLinkAmong nodes) links → (l : ℕ) → reservable links l < 2 ^ 48
reservable_small nodes [] a l = omega arith
reservable_small nodes (x ∷ xs) a zero = (All-head (IsLinkAmong nodes) x xs a).reservable_small
reservable_small nodes (x ∷ xs) a (suc l) = reservable_small nodes xs (All-tail (IsLinkAmong nodes) x xs a) l
