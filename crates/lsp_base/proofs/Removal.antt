-- Two paths that are the same path are equal; what a removal of paths leaves, whatever its order.
use Rattle.std.proofs.Common.{◌≡◌, ◌≤◌, ◌<◌, ℕ, ◌+◌, Bool, true, false, not, cond, List, [], ◌∷◌, ◌++◌, length, filter, find, Some, sum_by, IsPermutation, refl, sym, subst, ap, ◌∙◌, arith, inl, inr}
use Rattle.std.proofs.lemmas.Bool.{cases_Bool, eqb-true, eq-eqb, and_parts, and_from, false≢true}
use Rattle.std.proofs.lemmas.List.{append_assoc, length-append}
use Rattle.std.proofs.lemmas.List.Sums.{sum_by-cons, sum_by-append}
use Rattle.std.proofs.lemmas.List.Sorted.{IsPermutation-refl, IsPermutation-sym, IsPermutation-cons, IsPermutation-trans, IsPermutation-append_left, IsPermutation-filter_both, length_permutation, sum_by-IsPermutation}
use Rattle.lsp_base.specs.Same.{same_tunnel, same_part, same_links, same_flag, same_path}
use Rattle.lsp_base.specs.Lsps.{Lsps, without_path, without, occurrences, HasAll, effect_of, changed}
use Rattle.lsp_base.specs.Rooms.{IsWithinLimit}
use Rattle.lsp_base.specs.declared.tunnel.Tunnel.{Tunnel}
use Rattle.lsp_base.specs.declared.tunnel.Tunnel.TheVariants.{Signalled, Unsignalled, Asked}
use Rattle.lsp_base.specs.declared.tunnel.Part.{Part}
use Rattle.lsp_base.specs.declared.tunnel.Part.TheVariants.{Reported, Granted}
use Rattle.lsp_base.specs.declared.path.Path.{Path}
use Rattle.lsp_base.specs.declared.effect.RecordChange.{RecordChange}
use Rattle.lsp_base.proofs.Swapped.{without_first-permutes}

pub same_tunnel-refl : (t : Tunnel) → same_tunnel t t ≡ true
same_tunnel-refl (Signalled p e t x) = and_from _ _ (and_from _ _ (and_from _ _ (eq-eqb p p refl) (eq-eqb e e refl)) (eq-eqb t t refl)) (eq-eqb x x refl)
same_tunnel-refl (Unsignalled p n) = and_from _ _ (eq-eqb p p refl) (eq-eqb n n refl)
same_tunnel-refl (Asked p s) = and_from _ _ (eq-eqb p p refl) (eq-eqb s s refl)

pub same_part-refl : (x : Part) → same_part x x ≡ true
same_part-refl (Reported i) = eq-eqb i i refl
same_part-refl (Granted s) = eq-eqb s s refl

same_links-refl : (xs : List ℕ) → same_links xs xs ≡ true
same_links-refl [] = refl
same_links-refl (x ∷ xs) = and_from _ _ (eq-eqb x x refl) (same_links-refl xs)

same_flag-refl : (b : Bool) → same_flag b b ≡ true
same_flag-refl true = refl
same_flag-refl false = refl

pub same_path-refl : (x : Path) → same_path x x ≡ true
same_path-refl x =
    let a = and_from _ _ (eq-eqb x.peer x.peer refl) (eq-eqb x.plsp x.plsp refl) in
    let b = and_from _ _ (and_from _ _ a (same_part-refl x.part)) (same_tunnel-refl x.tunnel) in
    let c = and_from _ _ (and_from _ _ b (eq-eqb x.hold x.hold refl)) (eq-eqb x.bandwidth x.bandwidth refl) in
    and_from _ _ (and_from _ _ c (same_links-refl x.links)) (same_flag-refl x.fresh)

pub same_tunnel-eq : (s t : Tunnel) → same_tunnel s t ≡ true → s ≡ t
same_tunnel-eq (Signalled p e t x) (Signalled q f u y) h =
    let a = and_parts _ _ h in
    let b = and_parts _ _ a.0 in
    let c = and_parts _ _ b.0 in
    let is_p : p ≡ q = eqb-true p q c.0 in
    let is_e : e ≡ f = eqb-true e f c.1 in
    let is_t : t ≡ u = eqb-true t u b.1 in
    let is_x : x ≡ y = eqb-true x y a.1 in
    cc
same_tunnel-eq (Unsignalled p n) (Unsignalled q m) h =
    let a = and_parts _ _ h in
    let is_p : p ≡ q = eqb-true p q a.0 in
    let is_n : n ≡ m = eqb-true n m a.1 in
    cc
same_tunnel-eq (Asked p s) (Asked q t) h =
    let a = and_parts _ _ h in
    let is_p : p ≡ q = eqb-true p q a.0 in
    let is_s : s ≡ t = eqb-true s t a.1 in
    cc
same_tunnel-eq (Signalled p e t x) (Unsignalled q m) h = absurd (false≢true h)
same_tunnel-eq (Signalled p e t x) (Asked q s) h = absurd (false≢true h)
same_tunnel-eq (Unsignalled p n) (Signalled q f u y) h = absurd (false≢true h)
same_tunnel-eq (Unsignalled p n) (Asked q s) h = absurd (false≢true h)
same_tunnel-eq (Asked p s) (Signalled q f u y) h = absurd (false≢true h)
same_tunnel-eq (Asked p s) (Unsignalled q m) h = absurd (false≢true h)

pub same_part-eq : (x y : Part) → same_part x y ≡ true → x ≡ y
same_part-eq (Reported i) (Reported j) h = ap Reported (eqb-true i j h)
same_part-eq (Granted s) (Granted t) h = ap Granted (eqb-true s t h)
same_part-eq (Reported i) (Granted t) h = absurd (false≢true h)
same_part-eq (Granted s) (Reported j) h = absurd (false≢true h)

pub same_links-eq : (xs ys : List ℕ) → same_links xs ys ≡ true → xs ≡ ys
same_links-eq [] [] h = refl
same_links-eq (x ∷ xs) (y ∷ ys) h =
    let a = and_parts _ _ h in
    let is_x : x ≡ y = eqb-true x y a.0 in
    let is_xs : xs ≡ ys = same_links-eq xs ys a.1 in
    cc
same_links-eq [] (y ∷ ys) h = absurd (false≢true h)
same_links-eq (x ∷ xs) [] h = absurd (false≢true h)

same_flag-eq : (a b : Bool) → same_flag a b ≡ true → a ≡ b
same_flag-eq true true h = refl
same_flag-eq false false h = refl
same_flag-eq true false h = absurd (false≢true h)
same_flag-eq false true h = absurd (false≢true h)

path_of : ℕ → ℕ → Part → Tunnel → ℕ → ℕ → List ℕ → Bool → Path
path_of peer plsp part tunnel hold bandwidth links fresh = record { peer = peer; plsp = plsp; part = part; tunnel = tunnel; hold = hold; bandwidth = bandwidth; links = links; fresh = fresh }

-- the test tells paths apart
pub same_path-eq : (x y : Path) → same_path x y ≡ true → x ≡ y
unfolding path_of
same_path-eq x y h =
    let a = and_parts _ _ h in
    let b = and_parts _ _ a.0 in
    let c = and_parts _ _ b.0 in
    let d = and_parts _ _ c.0 in
    let e = and_parts _ _ d.0 in
    let f = and_parts _ _ e.0 in
    let g = and_parts _ _ f.0 in
    let is_peer : x.peer ≡ y.peer = eqb-true x.peer y.peer g.0 in
    let is_plsp : x.plsp ≡ y.plsp = eqb-true x.plsp y.plsp g.1 in
    let is_part : x.part ≡ y.part = same_part-eq x.part y.part f.1 in
    let is_tunnel : x.tunnel ≡ y.tunnel = same_tunnel-eq x.tunnel y.tunnel e.1 in
    let is_hold : x.hold ≡ y.hold = eqb-true x.hold y.hold d.1 in
    let is_bandwidth : x.bandwidth ≡ y.bandwidth = eqb-true x.bandwidth y.bandwidth c.1 in
    let is_links : x.links ≡ y.links = same_links-eq x.links y.links b.1 in
    let is_fresh : x.fresh ≡ y.fresh = same_flag-eq x.fresh y.fresh a.1 in
    ap (λ v. path_of v x.plsp x.part x.tunnel x.hold x.bandwidth x.links x.fresh) is_peer
    ∙ ap (λ v. path_of y.peer v x.part x.tunnel x.hold x.bandwidth x.links x.fresh) is_plsp
    ∙ ap (λ v. path_of y.peer y.plsp v x.tunnel x.hold x.bandwidth x.links x.fresh) is_part
    ∙ ap (λ v. path_of y.peer y.plsp y.part v x.hold x.bandwidth x.links x.fresh) is_tunnel
    ∙ ap (λ v. path_of y.peer y.plsp y.part y.tunnel v x.bandwidth x.links x.fresh) is_hold
    ∙ ap (λ v. path_of y.peer y.plsp y.part y.tunnel y.hold v x.links x.fresh) is_bandwidth
    ∙ ap (λ v. path_of y.peer y.plsp y.part y.tunnel y.hold y.bandwidth v x.fresh) is_links
    ∙ ap (λ v. path_of y.peer y.plsp y.part y.tunnel y.hold y.bandwidth y.links v) is_fresh

-- ---- how often a path is among others

-- the number of occurrences as a sum, which doesn't depend on the order
occurrences-sum : (x : Path) (ys : List Path) → occurrences x ys ≡ sum_by (λ y. cond (same_path y x) 1 0) ys
occurrences-sum x [] = refl
occurrences-sum x (y ∷ ys) = ap (λ n. cond (same_path y x) 1 0 + n) (occurrences-sum x ys) ∙ sym (sum_by-cons (λ z. cond (same_path z x) 1 0) y ys)

occurrences-append : (x : Path) (ys zs : List Path) → occurrences x (ys ++ zs) ≡ occurrences x ys + occurrences x zs
occurrences-append x ys zs =
    let test : Path → ℕ = λ y. cond (same_path y x) 1 0 in
    let all = occurrences-sum x (ys ++ zs) in
    let both = sum_by-append test ys zs in
    let left = occurrences-sum x ys in
    let right = occurrences-sum x zs in
    omega (arith, all, both, left, right)

pub occurrences-permuted : (x : Path) (ys zs : List Path) → IsPermutation ys zs → occurrences x zs ≡ occurrences x ys
occurrences-permuted x ys zs same = occurrences-sum x zs ∙ sum_by-IsPermutation (λ y. cond (same_path y x) 1 0) ys zs same ∙ sym (occurrences-sum x ys)

found_path : (d : Path) (xs : List Path) → 0 < occurrences d xs → find (λ x. same_path x d) xs ≡ Some d
found_path d [] n = absurd (omega (arith, n))
found_path d (x ∷ xs) n = by (same_path x d) refl n (found_path d xs)
  where
    by : (b : Bool) → same_path x d ≡ b → 0 < cond b 1 0 + occurrences d xs → (0 < occurrences d xs → find (λ y. same_path y d) xs ≡ Some d) → cond b (Some x) (find (λ y. same_path y d) xs) ≡ Some d
    by true is m rest = ap Some (same_path-eq x d is)
    by false is m rest = rest (omega (arith, m))

-- the path that went together with those that are left
pub without_path-permutes : (d : Path) (xs : List Path) → 0 < occurrences d xs → IsPermutation xs (d ∷ without_path d xs)
without_path-permutes d xs n = without_first-permutes (λ x. same_path x d) xs d (found_path d xs n)

-- two lists are the same up to order if each path occurs equally often in both
pub permutes_by_occurrences : (xs ys : List Path) → ((x : Path) → occurrences x xs ≡ occurrences x ys) → IsPermutation xs ys
permutes_by_occurrences [] [] same = IsPermutation-refl []
permutes_by_occurrences [] (y ∷ ys) same = let self = same_path-refl y in let h : 0 ≡ 1 + occurrences y ys = rw self at (same y) in absurd (omega (arith, h))
permutes_by_occurrences (x ∷ xs) ys same =
    let self = same_path-refl x in
    let here : 1 + occurrences x xs ≡ occurrences x ys = rw self at (same x) in
    let left = without_path-permutes x ys (omega (arith, here)) in
    let rest : (z : Path) → occurrences z xs ≡ occurrences z (without_path x ys) = λ z. (let a = occurrences-permuted z ys (x ∷ without_path x ys) left in omega (arith, a, same z)) in
    IsPermutation-trans _ _ _ (IsPermutation-cons x _ _ (permutes_by_occurrences xs (without_path x ys) rest)) (IsPermutation-sym _ _ left)

-- ---- a list that has all of the dropped paths

has_first : (paths ds : List Path) (d : Path) → HasAll paths (d ∷ ds) → 0 < occurrences d paths
has_first paths ds d has = let self = same_path-refl d in let h : 1 + occurrences d ds ≤ occurrences d paths = rw self at (has d) in omega (arith, h)

has_rest : (paths ds : List Path) (d : Path) → HasAll paths (d ∷ ds) → HasAll (without_path d paths) ds
has_rest paths ds d has y =
    let e = occurrences-permuted y paths (d ∷ without_path d paths) (without_path-permutes d paths (has_first paths ds d has)) in
    let h = has y in
    omega (arith, e, h)

-- the dropped paths together with those that are left
pub without-permutes : (paths dropped : List Path) → HasAll paths dropped → IsPermutation paths (dropped ++ without paths dropped)
without-permutes paths [] has = IsPermutation-refl paths
without-permutes paths (d ∷ ds) has =
    IsPermutation-trans _ _ _ (without_path-permutes d paths (has_first paths ds d has)) (IsPermutation-cons d _ _ (without-permutes (without_path d paths) ds (has_rest paths ds d has)))

-- the old paths and the added ones are the dropped ones and the new paths
pub paths_exchanged : (paths dropped added : List Path) → HasAll paths dropped → IsPermutation (paths ++ added) (dropped ++ (without paths dropped ++ added))
paths_exchanged paths dropped added has =
    subst (IsPermutation (paths ++ added)) (append_assoc dropped (without paths dropped) added) (IsPermutation-append_left added paths (dropped ++ without paths dropped) (without-permutes paths dropped has))

-- a list of paths has those of it that pass a test
pub has_filter : (test : Path → Bool) (paths : List Path) → HasAll paths (filter test paths)
has_filter test [] y = omega arith
has_filter test (x ∷ xs) y =
    let ih = has_filter test xs y in
    elim (cases_Bool (test x)) [
      | inl here ↦ rw here (omega (arith, ih))
      | inr other ↦ rw other (omega (arith, ih))
    ]

-- if the chosen paths go, the others stay
pub without-filter : (p : Path → Bool) (xs : List Path) → IsPermutation (filter (λ x. not (p x)) xs) (without xs (filter p xs))
without-filter p xs =
    let gone = filter p xs in
    let stay = filter (λ x. not (p x)) xs in
    let left = without xs gone in
    let both = IsPermutation-filter_both p (λ x. not (p x)) (λ x. refl) xs in
    let dropped = without-permutes xs gone (has_filter p xs) in
    permutes_by_occurrences stay left (λ z.
    let a = occurrences-permuted z xs (gone ++ stay) both in
    let b = occurrences-permuted z xs (gone ++ left) dropped in
    omega (arith, a, b, occurrences-append z gone stay, occurrences-append z gone left))

-- ---- effects

-- how many paths there are after some are dropped and others added
length-exchanged : (paths dropped added : List Path) → HasAll paths dropped → length (without paths dropped ++ added) + length dropped ≡ length paths + length added
length-exchanged paths dropped added has =
    let same = length_permutation paths (dropped ++ without paths dropped) (without-permutes paths dropped has) in
    let both = length-append dropped (without paths dropped) in
    let all = length-append (without paths dropped) added in
    omega (arith, same, both, all)

-- an effect that drops chosen paths keeps the limit if the numbers of paths allow it
pub IsWithinLimit-effect : (lsps : Lsps) (test : Path → Bool) (dropped added : List Path) (records : List RecordChange) (wants : Bool) → dropped ≡ filter test lsps.paths → length lsps.paths + length added ≤ 16384 + length dropped → IsWithinLimit lsps (effect_of dropped added records wants)
IsWithinLimit-effect lsps test dropped added records wants e h =
    let has : HasAll lsps.paths dropped = subst (HasAll lsps.paths) (sym e) (has_filter test lsps.paths) in
    let all = length-exchanged lsps.paths dropped added has in
    omega (arith, all, h)

-- the paths after such an effect
pub paths-changed : (lsps : Lsps) (peer : ℕ) (test : Path → Bool) (dropped added : List Path) (records : List RecordChange) (wants : Bool) → dropped ≡ filter test lsps.paths → IsPermutation (filter (λ x. not (test x)) lsps.paths ++ added) (changed lsps peer (effect_of dropped added records wants)).paths
unfolding changed
paths-changed lsps peer test dropped added records wants e =
    let stay = filter (λ x. not (test x)) lsps.paths in
    subst (λ d. IsPermutation (stay ++ added) (without lsps.paths d ++ added)) (sym e) (IsPermutation-append_left added stay (without lsps.paths (filter test lsps.paths)) (without-filter test lsps.paths))
