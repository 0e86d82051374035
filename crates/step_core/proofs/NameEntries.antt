-- Names as a map holds them, each under the key of its grant.
use Rattle.std.proofs.Common.{◌≡◌, ℕ, suc, ◌+◌, ◌-◌, ◌<◌, ◌&&◌, ◌||◌, Bool, true, false, true≢false, cond, not, List, [], ◌∷◌, ◌++◌, length, take, drop, get_or, swap_remove, position, find, Option, None, Some, IsPermutation, is_some, refl, sym, ap, subst, ◌∙◌, arith}
use Rattle.std.specs.Cmp.{nat_eq_equiv}
use Rattle.std.specs.List.{list_any, position_or_len}
use Rattle.std.specs.Map.{keys_of, lookup, values_of}
use Rattle.std.proofs.lemmas.List.{drop_more, drop_all, drop-map, map-append, take-map, take-append-drop}
use Rattle.std.proofs.lemmas.List.Elements.{All-from_recursion, recursion_from_All}
use Rattle.std.proofs.lemmas.List.Sorted.{All-permutation, IsPermutation-append_comm}
use Rattle.std.proofs.lemmas.Map.Entries.{length-values_of}
use Rattle.indexmap.specs.IndexMap.{insert_entry, swap_remove_entry}
use Rattle.indexmap.proofs.MapLemmas.{Found-position, Missing-position, swap_remove_entry-found, swap_remove_entry-missing}
use Rattle.lsp_base.specs.Lsps.{last_in_front, without_first}
use Rattle.step_core.specs.Names.{AreKeyed, is_of_grant, key_of, same_key}
use Rattle.step_core.specs.declared.names.AwaitedName.{AwaitedName}
use Rattle.step_core.specs.declared.names.GrantKey.{GrantKey}

-- a key passes exactly if the name's own numbers do
same_test : (k : GrantKey) (e : GrantKey × AwaitedName) → e.0 ≡ key_of e.1 → same_key k e.0 ≡ is_of_grant k.peer k.srp e.1
same_test k e h = ap (same_key k) h ∙ (λ j. nat_eq_equiv.symm k.peer e.1.peer j && nat_eq_equiv.symm k.srp e.1.srp j)

-- a grant has a name exactly if its key is found
pub is_there : (k : GrantKey) (es : List (GrantKey × AwaitedName)) → AreKeyed es → is_some (lookup (same_key k) es) ≡ list_any (is_of_grant k.peer k.srp) (values_of es)
is_there k [] h = refl
is_there k (e ∷ es) h = by (same_key k e.0) (is_there k es h.1) ∙ ap (λ b. b || list_any (is_of_grant k.peer k.srp) (values_of es)) (same_test k e h.0)
  where
    by : (b : Bool) → is_some (lookup (same_key k) es) ≡ list_any (is_of_grant k.peer k.srp) (values_of es)
        → is_some (cond b (Some e.1) (lookup (same_key k) es)) ≡ (b || list_any (is_of_grant k.peer k.srp) (values_of es))
    by true rest = refl
    by false rest = rest

-- the name under a grant's key is the first name of that grant
pub found : (k : GrantKey) (es : List (GrantKey × AwaitedName)) → AreKeyed es → lookup (same_key k) es ≡ find (is_of_grant k.peer k.srp) (values_of es)
found k [] h = refl
found k (e ∷ es) h = λ j. cond (same_test k e h.0 j) (Some e.1) (found k es h.1 j)

-- ---- a name that is put

-- the name of a grant that has none goes last
pub placed : (a : AwaitedName) (es : List (GrantKey × AwaitedName)) → AreKeyed es → list_any (is_of_grant a.peer a.srp) (values_of es) ≡ false
    → insert_entry same_key es (key_of a) a ≡ es ++ (key_of a, a) ∷ []
placed a [] h none = refl
placed a (e ∷ es) h none = by (same_key (key_of a) e.0) (same_test (key_of a) e h.0) none (placed a es h.1)
  where
    by : (b : Bool) → b ≡ is_of_grant a.peer a.srp e.1 → (is_of_grant a.peer a.srp e.1 || list_any (is_of_grant a.peer a.srp) (values_of es)) ≡ false
        → (list_any (is_of_grant a.peer a.srp) (values_of es) ≡ false → insert_entry same_key es (key_of a) a ≡ es ++ (key_of a, a) ∷ [])
        → cond b ((e.0, a) ∷ es) (e ∷ insert_entry same_key es (key_of a) a) ≡ e ∷ (es ++ (key_of a, a) ∷ [])
    by true is none rest = absurd (true≢false (ap (λ b. b || list_any (is_of_grant a.peer a.srp) (values_of es)) is ∙ none))
    by false is none rest = ap (λ l. e ∷ l) (rest (ap (λ b. b || list_any (is_of_grant a.peer a.srp) (values_of es)) is ∙ none))

pub placed_values : (a : AwaitedName) (es : List (GrantKey × AwaitedName)) → values_of (es ++ (key_of a, a) ∷ []) ≡ values_of es ++ a ∷ []
placed_values a [] = refl
placed_values a (e ∷ es) = ap (λ l. e.1 ∷ l) (placed_values a es)

pub keyed_placed : (a : AwaitedName) (es : List (GrantKey × AwaitedName)) → AreKeyed es → AreKeyed (es ++ (key_of a, a) ∷ [])
keyed_placed a [] h = (refl, tt)
keyed_placed a (e ∷ es) h = (h.0, keyed_placed a es h.1)

-- ---- a name that is removed

removed_head : {X : Type 0} (y x : X) (ys : List X) → swap_remove (y ∷ ys) 0 x ≡ last_in_front ys
removed_head y x [] = refl
removed_head y x (z ∷ zs) =
    let n = length zs in
    let e : suc (suc n) - 1 ≡ suc n = omega arith in
    let f : suc n - 1 ≡ n = omega arith in
    let last : drop n (z ∷ zs) ≡ get_or (z ∷ zs) n x ∷ [] = drop_more (z ∷ zs) n x (omega arith) ∙ ap (λ t. get_or (z ∷ zs) n x ∷ t) (drop_all (n + 1) (z ∷ zs) (omega arith)) in
    ap (λ k. take k (get_or (y ∷ z ∷ zs) k x ∷ z ∷ zs)) e ∙ sym (ap (λ k. drop k (z ∷ zs) ++ take k (z ∷ zs)) f ∙ ap (λ t. t ++ take n (z ∷ zs)) last)

removed_behind : {X : Type 0} (y z x : X) (zs : List X) (i : ℕ) → swap_remove (y ∷ z ∷ zs) (suc i) x ≡ y ∷ swap_remove (z ∷ zs) i x
removed_behind y z x zs i =
    let e : suc (suc (length zs)) - 1 ≡ suc (length zs) = omega arith in
    let f : suc (length zs) - 1 ≡ length zs = omega arith in
    rw (e, f) refl

module _ {K X : Type 0} (t : K → Bool) where
  swapped : (es : List (K × X)) (d : K × X) → position_or_len t (keys_of es) < length es → swap_remove es (position_or_len t (keys_of es)) d ≡ without_first (λ e. t e.0) es
  swapped [] d h = absurd (omega (arith, h))
  swapped (e ∷ []) d h = by (t e.0) h
    where
      by : (b : Bool) → cond (not b) (1 + 0) 0 < length (e ∷ []) → swap_remove (e ∷ []) (cond (not b) (1 + 0) 0) d ≡ cond b (last_in_front []) (e ∷ [])
      by true h = removed_head e d []
      by false h = absurd (omega (arith, h))
  swapped (e ∷ f ∷ fs) d h = by (t e.0) h (swapped (f ∷ fs) d)
    where
      n : ℕ
      n = position_or_len t (keys_of (f ∷ fs))

      by : (b : Bool) → cond (not b) (1 + n) 0 < length (e ∷ f ∷ fs) → (n < length (f ∷ fs) → swap_remove (f ∷ fs) n d ≡ without_first (λ e. t e.0) (f ∷ fs))
          → swap_remove (e ∷ f ∷ fs) (cond (not b) (1 + n) 0) d ≡ cond b (last_in_front (f ∷ fs)) (e ∷ without_first (λ e. t e.0) (f ∷ fs))
      by true h rest = removed_head e d (f ∷ fs)
      by false h rest =
          let next : 1 + n ≡ suc n = omega arith in
          ap (λ k. swap_remove (e ∷ f ∷ fs) k d) next ∙ removed_behind e f d fs n ∙ ap (λ l. e ∷ l) (rest (omega (arith, h)))

  stays : (es : List (K × X)) → position_or_len t (keys_of es) ≡ length es → es ≡ without_first (λ e. t e.0) es
  stays [] h = refl
  stays (e ∷ es) h = by (t e.0) h (stays es)
    where
      by : (b : Bool) → cond (not b) (1 + position_or_len t (keys_of es)) 0 ≡ length (e ∷ es) → (position_or_len t (keys_of es) ≡ length es → es ≡ without_first (λ e. t e.0) es)
          → e ∷ es ≡ cond b (last_in_front es) (e ∷ without_first (λ e. t e.0) es)
      by true h rest = absurd (omega (arith, h))
      by false h rest = ap (λ l. e ∷ l) (rest (omega (arith, h)))

  -- the last takes the place of the first that passes
  pub swap_remove-first : (es : List (K × X)) → swap_remove_entry t es ≡ without_first (λ e. t e.0) es
  swap_remove-first [] = refl
  swap_remove-first (e ∷ es) = by (position t (keys_of (e ∷ es))) refl
    where
      by : (o : Option ℕ) → position t (keys_of (e ∷ es)) ≡ o → swap_remove_entry t (e ∷ es) ≡ without_first (λ e. t e.0) (e ∷ es)
      by None is = swap_remove_entry-missing t (e ∷ es) is ∙ stays (e ∷ es) (Missing-position t (e ∷ es) is).or_len
      by (Some i) is =
          let f = Found-position t (e ∷ es) i is in
          swap_remove_entry-found t (e ∷ es) i e is ∙ ap (λ k. swap_remove (e ∷ es) k e) (sym f.or_len) ∙ swapped (e ∷ es) e (subst (λ k. k < length (e ∷ es)) (sym f.or_len) f.within)

last_values : (es : List (GrantKey × AwaitedName)) → values_of (last_in_front es) ≡ last_in_front (values_of es)
last_values es =
    let n = length es - 1 in
    map-append (λ e. e.1) (drop n es) (take n es) ∙ (λ j. sym (drop-map (λ e. e.1) n es) j ++ sym (take-map (λ e. e.1) n es) j) ∙ ap (λ k. drop (k - 1) (values_of es) ++ take (k - 1) (values_of es)) (sym (length-values_of es))

pub taken : (k : GrantKey) (es : List (GrantKey × AwaitedName)) → AreKeyed es → values_of (swap_remove_entry (same_key k) es) ≡ without_first (is_of_grant k.peer k.srp) (values_of es)
taken k es h = ap values_of (swap_remove-first (same_key k) es) ∙ go es h
  where
    go : (es : List (GrantKey × AwaitedName)) → AreKeyed es → values_of (without_first (λ e. same_key k e.0) es) ≡ without_first (is_of_grant k.peer k.srp) (values_of es)
    go [] h = refl
    go (e ∷ es) h = by (same_key k e.0) (go es h.1) ∙ ap (λ b. cond b (last_in_front (values_of es)) (e.1 ∷ without_first (is_of_grant k.peer k.srp) (values_of es))) (same_test k e h.0)
      where
        by : (b : Bool) → values_of (without_first (λ e. same_key k e.0) es) ≡ without_first (is_of_grant k.peer k.srp) (values_of es)
            → values_of (cond b (last_in_front es) (e ∷ without_first (λ e. same_key k e.0) es)) ≡ cond b (last_in_front (values_of es)) (e.1 ∷ without_first (is_of_grant k.peer k.srp) (values_of es))
        by true rest = last_values es
        by false rest = ap (λ l. e.1 ∷ l) rest

permutes : {X : Type 0} (xs : List X) → IsPermutation xs (last_in_front xs)
permutes xs =
    let n = length xs - 1 in
    subst (λ ys. IsPermutation ys (last_in_front xs)) (take-append-drop n xs) (IsPermutation-append_comm (take n xs) (drop n xs))

pub keyed_taken : (k : GrantKey) (es : List (GrantKey × AwaitedName)) → AreKeyed es → AreKeyed (swap_remove_entry (same_key k) es)
keyed_taken k es h = subst AreKeyed (sym (swap_remove-first (same_key k) es)) (go es h)
  where
    go : (es : List (GrantKey × AwaitedName)) → AreKeyed es → AreKeyed (without_first (λ e. same_key k e.0) es)
    go [] h = tt
    go (e ∷ es) h = by (same_key k e.0) (go es h.1)
      where
        by : (b : Bool) → AreKeyed (without_first (λ e. same_key k e.0) es) → AreKeyed (cond b (last_in_front es) (e ∷ without_first (λ e. same_key k e.0) es))
        by true rest =
            let all = All-from_recursion (λ e. e.0 ≡ key_of e.1) es h.1 in
            recursion_from_All (λ e. e.0 ≡ key_of e.1) (last_in_front es) (All-permutation (λ e. e.0 ≡ key_of e.1) es (last_in_front es) (permutes es) all)
        by false rest = (h.0, rest)

-- a test that nothing passes removes nothing
pub without_none : {A : Type 0} (test : A → Bool) → ((x : A) → test x ≡ false) → (xs : List A) → without_first test xs ≡ xs
without_none test none [] = refl
without_none test none (x ∷ xs) = ap (λ b. cond b (last_in_front xs) (x ∷ without_first test xs)) (none x) ∙ ap (λ ys. x ∷ ys) (without_none test none xs)

-- two tests that agree remove the same
pub without_agreeing : {A : Type 0} (test other : A → Bool) → ((x : A) → test x ≡ other x) → (xs : List A) → without_first test xs ≡ without_first other xs
without_agreeing test other same [] = refl
without_agreeing test other same (x ∷ xs) = λ j. cond (same x j) (last_in_front xs) (x ∷ without_agreeing test other same xs j)
