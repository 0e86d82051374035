-- A grant that a report covers reserves nothing of its own.
use Rattle.std.proofs.Common.{◌≡◌, ◌≤◌, ◌==◌, ◌&&◌, ◌||◌, ℕ, Bool, true, false, cond, List, [], ◌∷◌, ◌++◌, map, filter, refl, sym, ap, subst, arith}
use Rattle.std.specs.Prelude.{max, nat_le}
use Rattle.std.specs.List.{list_all, list_any}
use Rattle.std.proofs.Math.Nat.{le-max_left, le-max_right}
use Rattle.std.proofs.lemmas.Bool.{and_from, and_parts, eqb-true, false≢true, le-leb, leb-true}
use Rattle.lsp_base.specs.Lsps.{is_path_of}
use Rattle.lsp_base.specs.Same.{is_reported, same_tunnel}
use Rattle.lsp_base.specs.Shares.{greatest, has_link, is_held, share}
use Rattle.lsp_base.specs.declared.path.Path.{Path}
use Rattle.lsp_base.specs.declared.tunnel.Tunnel.{Tunnel}
use Rattle.lsp_base.proofs.Removal.{same_tunnel-eq}
use Rattle.pce_seen.specs.Grants.{covers, is_covered}

abbrev covers_it : Path → Path → Bool
covers_it g x = covers g x && is_path_of g.peer g.plsp x

abbrev bandwidth_of : Path → ℕ
bandwidth_of x = x.bandwidth

-- the greatest bandwidth of the paths that pass the test
abbrev top : (Path → Bool) → List Path → ℕ
top held xs = greatest (map bandwidth_of (filter held xs))

-- ---- what the path that covers a grant holds

on_each : (x : Path) (l : ℕ) (links : List ℕ) → list_all (λ k. has_link k x) links ≡ true → list_any (λ k. k == l) links ≡ true → has_link l x ≡ true
on_each x l [] all some = absurd (false≢true some)
on_each x l (k ∷ ks) all some = by (k == l) refl some (on_each x l ks (and_parts (has_link k x) (list_all (λ k. has_link k x) ks) all).1)
  where
    by : (b : Bool) → (k == l) ≡ b → (b || list_any (λ k. k == l) ks) ≡ true → (list_any (λ k. k == l) ks ≡ true → has_link l x ≡ true) → has_link l x ≡ true
    by true is some rest = subst (λ m. has_link m x ≡ true) (eqb-true k l is) (and_parts (has_link k x) (list_all (λ k. has_link k x) ks) all).0
    by false is some rest = rest some

held_too : (g x : Path) (t : Tunnel) (l p : ℕ) → covers g x ≡ true → is_held t l p g ≡ true → is_held t l p x ≡ true
held_too g x t l p covered held =
    let links = and_parts (is_reported x.part && same_tunnel x.tunnel g.tunnel && nat_le x.hold g.hold && nat_le g.bandwidth x.bandwidth) (list_all (λ k. has_link k x) g.links) covered in
    let bandwidth = and_parts (is_reported x.part && same_tunnel x.tunnel g.tunnel && nat_le x.hold g.hold) (nat_le g.bandwidth x.bandwidth) links.0 in
    let hold = and_parts (is_reported x.part && same_tunnel x.tunnel g.tunnel) (nat_le x.hold g.hold) bandwidth.0 in
    let tunnel = and_parts (is_reported x.part) (same_tunnel x.tunnel g.tunnel) hold.0 in
    let link = and_parts (same_tunnel g.tunnel t && nat_le g.hold p) (has_link l g) held in
    let level = and_parts (same_tunnel g.tunnel t) (nat_le g.hold p) link.0 in
    let same : x.tunnel ≡ g.tunnel = same_tunnel-eq x.tunnel g.tunnel tunnel.1 in
    let of : same_tunnel x.tunnel t ≡ true = subst (λ (u : Tunnel). same_tunnel u t ≡ true) (sym same) level.0 in
    let above : x.hold ≤ g.hold = leb-true x.hold g.hold hold.1 in
    let within : g.hold ≤ p = leb-true g.hold p level.1 in
    let no_worse : nat_le x.hold p ≡ true = le-leb x.hold p (omega (arith, above, within)) in
    and_from (same_tunnel x.tunnel t && nat_le x.hold p) (has_link l x) (and_from (same_tunnel x.tunnel t) (nat_le x.hold p) of no_worse) (on_each x l g.links links.1 link.1)

enough : (g x : Path) → covers g x ≡ true → g.bandwidth ≤ x.bandwidth
enough g x covered =
    let links = and_parts (is_reported x.part && same_tunnel x.tunnel g.tunnel && nat_le x.hold g.hold && nat_le g.bandwidth x.bandwidth) (list_all (λ k. has_link k x) g.links) covered in
    leb-true g.bandwidth x.bandwidth (and_parts (is_reported x.part && same_tunnel x.tunnel g.tunnel && nat_le x.hold g.hold) (nat_le g.bandwidth x.bandwidth) links.0).1

below : (g : Path) (t : Tunnel) (l p : ℕ) (xs : List Path) → list_any (covers_it g) xs ≡ true → is_held t l p g ≡ true → g.bandwidth ≤ top (is_held t l p) xs
below g t l p [] some held = absurd (false≢true some)
below g t l p (x ∷ xs) some held = by (covers_it g x) refl some (λ others. below g t l p xs others held)
  where
    with_head : Bool → ℕ
    with_head b = greatest (map bandwidth_of (cond b (x ∷ filter (is_held t l p) xs) (filter (is_held t l p) xs)))

    rises : (b : Bool) → top (is_held t l p) xs ≤ with_head b
    rises true = le-max_right x.bandwidth (top (is_held t l p) xs)
    rises false = omega arith

    by : (b : Bool) → covers_it g x ≡ b → (b || list_any (covers_it g) xs) ≡ true → (list_any (covers_it g) xs ≡ true → g.bandwidth ≤ top (is_held t l p) xs) → g.bandwidth ≤ with_head (is_held t l p x)
    by true is some rest =
        let covered = (and_parts (covers g x) (is_path_of g.peer g.plsp x) is).0 in
        let here = held_too g x t l p covered held in
        let most = le-max_left x.bandwidth (top (is_held t l p) xs) in
        subst (λ (b : Bool). g.bandwidth ≤ with_head b) (sym here) (omega (arith, enough g x covered, most))
    by false is some rest = omega (arith, rest some, rises (is_held t l p x))

-- ---- without the grant

more : (held : Path → Bool) (g : Path) (before after : List Path) → top held (before ++ g ∷ after) ≡ max (cond (held g) g.bandwidth 0) (top held (before ++ after))
more held g [] after = by (held g)
  where
    by : (b : Bool) → greatest (map bandwidth_of (cond b (g ∷ filter held after) (filter held after))) ≡ max (cond b g.bandwidth 0) (top held after)
    by true = refl
    by false = omega arith
more held g (x ∷ xs) after = by (held x) (more held g xs after)
  where
    by : (b : Bool) → top held (xs ++ g ∷ after) ≡ max (cond (held g) g.bandwidth 0) (top held (xs ++ after))
        → greatest (map bandwidth_of (cond b (x ∷ filter held (xs ++ g ∷ after)) (filter held (xs ++ g ∷ after))))
        ≡ max (cond (held g) g.bandwidth 0) (greatest (map bandwidth_of (cond b (x ∷ filter held (xs ++ after)) (filter held (xs ++ after)))))
    by true rest = omega (arith, rest)
    by false rest = rest

-- a grant doesn't cover itself, since no peer reported it
not_itself : (g : Path) → is_reported g.part ≡ false → covers_it g g ≡ false
not_itself g grant = ap (λ (b : Bool). b && same_tunnel g.tunnel g.tunnel && nat_le g.hold g.hold && nat_le g.bandwidth g.bandwidth && list_all (λ l. has_link l g) g.links && is_path_of g.peer g.plsp g) grant

others : (g : Path) (before after : List Path) → covers_it g g ≡ false → list_any (covers_it g) (before ++ g ∷ after) ≡ true → list_any (covers_it g) (before ++ after) ≡ true
others g [] after other some = subst (λ (b : Bool). (b || list_any (covers_it g) after) ≡ true) other some
others g (x ∷ xs) after other some = by (covers_it g x) some (others g xs after other)
  where
    by : (b : Bool) → (b || list_any (covers_it g) (xs ++ g ∷ after)) ≡ true
        → (list_any (covers_it g) (xs ++ g ∷ after) ≡ true → list_any (covers_it g) (xs ++ after) ≡ true)
        → (b || list_any (covers_it g) (xs ++ after)) ≡ true
    by true some rest = refl
    by false some rest = rest some

pub same_share : (before after : List Path) (g : Path) → is_reported g.part ≡ false → is_covered (before ++ g ∷ after) g ≡ true → (t : Tunnel) (l p : ℕ) → share (before ++ after) t l p ≡ share (before ++ g ∷ after) t l p
unfolding share
same_share before after g grant covered t l p = by (is_held t l p g) refl (more (is_held t l p) g before after)
  where
    by : (b : Bool) → is_held t l p g ≡ b → top (is_held t l p) (before ++ g ∷ after) ≡ max (cond b g.bandwidth 0) (top (is_held t l p) (before ++ after))
        → top (is_held t l p) (before ++ after) ≡ top (is_held t l p) (before ++ g ∷ after)
    by true is whole = omega (arith, whole, below g t l p (before ++ after) (others g before after (not_itself g grant) covered) is)
    by false is whole = omega (arith, whole)
