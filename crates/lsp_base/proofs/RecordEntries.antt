-- Records as a map holds them, each under its key.
use Rattle.std.proofs.Common.{◌≡◌, ℕ, ◌+◌, ◌-◌, ◌<◌, ◌&&◌, Bool, true, false, cond, not, List, [], ◌∷◌, ◌++◌, length, take, drop, position, Option, None, Some, option_map, find, refl, sym, ap, subst, ◌∙◌, arith, map, set, get_or, swap_remove, ◌≤◌, suc}
use Rattle.std.specs.Cmp.{nat_eq_equiv}
use Rattle.std.specs.Map.{keys_of, lookup, values_of}
use Rattle.std.proofs.lemmas.Bool.{and_parts, eqb-true}
use Rattle.std.specs.List.{position_or_len}
use Rattle.std.proofs.lemmas.List.{drop-map, length-map, length-set, map-append, map-set, take-map}
use Rattle.std.proofs.lemmas.List.Elements.{All-from_recursion, recursion_from_All}
use Rattle.std.proofs.lemmas.List.Sorted.{All-permutation}
use Rattle.std.proofs.lemmas.Map.Entries.{length-values_of}
use Rattle.indexmap.specs.IndexMap.{insert_entry, swap_remove_entry}
use Rattle.indexmap.proofs.MapLemmas.{Found-position, Missing-position, swap_remove-default, swap_remove_entry-found, swap_remove_entry-missing}
use Rattle.indexmap.proofs.SetLemmas.{map-swap_remove as swapped_values}
use Rattle.keyed_list.proofs.Finding.{map-swap_remove as swapped_buckets}
use Rattle.lsp_base.specs.Lsps.{is_record_of, last_in_front, lsp_at, put, taken_away, without_first}
use Rattle.lsp_base.specs.Tables.{AreKeyed, key_of, record_bucket, same_key}
use Rattle.lsp_base.specs.declared.effect.Record.{Record}
use Rattle.lsp_base.specs.declared.lsp.Lsp.{Lsp}
use Rattle.lsp_base.specs.declared.record_table.LspKey.{LspKey}
use Rattle.lsp_base.proofs.Swapped.{last_in_front-permutes, stays, swapped}

record_of : LspKey → Lsp → Record
record_of k lsp = record { peer = k.peer; plsp = k.plsp; lsp = lsp }

-- keys that pass the test are equal
same_key-eq : (a b : LspKey) → same_key a b ≡ true → a ≡ b
same_key-eq a b h =
    let p = and_parts _ _ h in
    λ j. record { peer = eqb-true a.peer b.peer p.0 j; plsp = eqb-true a.plsp b.plsp p.1 j }

-- a key passes exactly if the record's own numbers do
same_test : (k : LspKey) (e : LspKey × Record) → e.0 ≡ key_of e.1 → same_key k e.0 ≡ is_record_of k.peer k.plsp e.1
same_test k e h = ap (same_key k) h ∙ (λ j. nat_eq_equiv.symm k.peer e.1.peer j && nat_eq_equiv.symm k.plsp e.1.plsp j)

pub found : (k : LspKey) (es : List (LspKey × Record)) → AreKeyed es → option_map (λ r. r.lsp) (lookup (same_key k) es) ≡ lsp_at (values_of es) k.peer k.plsp
found k es h = ap (option_map (λ (r : Record). r.lsp)) (go es h)
  where
    go : (es : List (LspKey × Record)) → AreKeyed es → lookup (same_key k) es ≡ find (is_record_of k.peer k.plsp) (values_of es)
    go [] h = refl
    go (e ∷ es) h = λ j. cond (same_test k e h.0 j) (Some e.1) (go es h.1 j)

-- ---- a record that is set

pub placed : (k : LspKey) (lsp : Lsp) (es : List (LspKey × Record)) → AreKeyed es → values_of (insert_entry same_key es k (record { peer = k.peer; plsp = k.plsp; lsp = lsp })) ≡ put (values_of es) k.peer k.plsp lsp
placed k lsp [] h = refl
placed k lsp (e ∷ es) h = by (same_key k e.0) ∙ λ j. cond (same_test k e h.0 j) (r ∷ values_of es) (e.1 ∷ placed k lsp es h.1 j)
  where
    r : Record
    r = record { peer = k.peer; plsp = k.plsp; lsp = lsp }

    by : (b : Bool) → values_of (cond b ((e.0, r) ∷ es) (e ∷ insert_entry same_key es k r)) ≡ cond b (r ∷ values_of es) (e.1 ∷ values_of (insert_entry same_key es k r))
    by true = refl
    by false = refl

pub keyed_placed : (r : Record) (es : List (LspKey × Record)) → AreKeyed es → AreKeyed (insert_entry same_key es (key_of r) r)
keyed_placed r [] h = (refl, tt)
keyed_placed r (e ∷ es) h = by (same_key (key_of r) e.0) refl (keyed_placed r es h.1)
  where
    by : (b : Bool) → same_key (key_of r) e.0 ≡ b → AreKeyed (insert_entry same_key es (key_of r) r) → AreKeyed (cond b ((e.0, r) ∷ es) (e ∷ insert_entry same_key es (key_of r) r))
    by true is rest = (sym (same_key-eq (key_of r) e.0 is), h.1)
    by false is rest = (h.0, rest)

-- ---- a record is taken away

module _ {K X : Type 0} (t : K → Bool) where
  places : (es : List (K × X)) → position_or_len t (keys_of es) ≡ position_or_len (λ e. t e.0) es
  places [] = refl
  places (e ∷ es) = ap (λ n. cond (not (t e.0)) (1 + n) 0) (places es)

  -- the last takes the place of the first that passes
  pub swap_remove-first : (es : List (K × X)) → swap_remove_entry t es ≡ without_first (λ e. t e.0) es
  swap_remove-first [] = refl
  swap_remove-first (e ∷ es) = by (position t (keys_of (e ∷ es))) refl
    where
      by : (o : Option ℕ) → position t (keys_of (e ∷ es)) ≡ o → swap_remove_entry t (e ∷ es) ≡ without_first (λ e. t e.0) (e ∷ es)
      by None is =
          let at = sym (places (e ∷ es)) ∙ (Missing-position t (e ∷ es) is).or_len in
          swap_remove_entry-missing t (e ∷ es) is ∙ stays (λ e. t e.0) (e ∷ es) (omega (arith, at))
      by (Some i) is =
          let f = Found-position t (e ∷ es) i is in
          let at : position_or_len (λ e. t e.0) (e ∷ es) ≡ i = sym (places (e ∷ es)) ∙ f.or_len in
          swap_remove_entry-found t (e ∷ es) i e is ∙ ap (λ k. swap_remove (e ∷ es) k e) (sym at) ∙ swapped (λ e. t e.0) (e ∷ es) e (subst (λ k. k < length (e ∷ es)) (sym at) f.within)

last_values : (es : List (LspKey × Record)) → values_of (last_in_front es) ≡ last_in_front (values_of es)
last_values es =
    let n = length es - 1 in
    map-append (λ e. e.1) (drop n es) (take n es) ∙ (λ j. sym (drop-map (λ e. e.1) n es) j ++ sym (take-map (λ e. e.1) n es) j) ∙ ap (λ k. drop (k - 1) (values_of es) ++ take (k - 1) (values_of es)) (sym (length-values_of es))

pub taken : (k : LspKey) (es : List (LspKey × Record)) → AreKeyed es → values_of (swap_remove_entry (same_key k) es) ≡ taken_away (values_of es) k.peer k.plsp
taken k es h = ap values_of (swap_remove-first (same_key k) es) ∙ go es h
  where
    go : (es : List (LspKey × Record)) → AreKeyed es → values_of (without_first (λ e. same_key k e.0) es) ≡ taken_away (values_of es) k.peer k.plsp
    go [] h = refl
    go (e ∷ es) h = by (same_key k e.0) (go es h.1) ∙ ap (λ b. cond b (last_in_front (values_of es)) (e.1 ∷ taken_away (values_of es) k.peer k.plsp)) (same_test k e h.0)
      where
        by : (b : Bool) → values_of (without_first (λ e. same_key k e.0) es) ≡ taken_away (values_of es) k.peer k.plsp
            → values_of (cond b (last_in_front es) (e ∷ without_first (λ e. same_key k e.0) es)) ≡ cond b (last_in_front (values_of es)) (e.1 ∷ taken_away (values_of es) k.peer k.plsp)
        by true rest = last_values es
        by false rest = ap (λ l. e.1 ∷ l) rest

pub keyed_taken : (k : LspKey) (es : List (LspKey × Record)) → AreKeyed es → AreKeyed (swap_remove_entry (same_key k) es)
keyed_taken k es h = subst AreKeyed (sym (swap_remove-first (same_key k) es)) (go es h)
  where
    go : (es : List (LspKey × Record)) → AreKeyed es → AreKeyed (without_first (λ e. same_key k e.0) es)
    go [] h = tt
    go (e ∷ es) h = by (same_key k e.0) (go es h.1)
      where
        by : (b : Bool) → AreKeyed (without_first (λ e. same_key k e.0) es) → AreKeyed (cond b (last_in_front es) (e ∷ without_first (λ e. same_key k e.0) es))
        by true rest =
            let all = All-from_recursion (λ e. e.0 ≡ key_of e.1) es h.1 in
            recursion_from_All (λ e. e.0 ≡ key_of e.1) (last_in_front es) (All-permutation (λ e. e.0 ≡ key_of e.1) es (last_in_front es) (last_in_front-permutes es) all)
        by false rest = (h.0, rest)

-- ---- the buckets of names, at the places of records

module _ (k : LspKey) (r : Record) where
  set_values : (es : List (LspKey × Record)) → position_or_len (same_key k) (keys_of es) < length es → values_of (insert_entry same_key es k r) ≡ set (values_of es) (position_or_len (same_key k) (keys_of es)) r
  set_values [] h = absurd (omega (arith, h))
  set_values (e ∷ es) h = by (same_key k e.0) h (set_values es)
    where
      n : ℕ
      n = position_or_len (same_key k) (keys_of es)

      by : (b : Bool) → cond (not b) (1 + n) 0 < length (e ∷ es) → (n < length es → values_of (insert_entry same_key es k r) ≡ set (values_of es) n r)
          → values_of (cond b ((e.0, r) ∷ es) (e ∷ insert_entry same_key es k r)) ≡ set (e.1 ∷ values_of es) (cond (not b) (1 + n) 0) r
      by true h rest = refl
      by false h rest =
          let next : 1 + n ≡ suc n = omega arith in
          ap (λ vs. e.1 ∷ vs) (rest (omega (arith, h))) ∙ sym (ap (λ i. set (e.1 ∷ values_of es) i r) next)

  pushed_values : (es : List (LspKey × Record)) → length es ≤ position_or_len (same_key k) (keys_of es) → values_of (insert_entry same_key es k r) ≡ values_of es ++ r ∷ []
  pushed_values [] h = refl
  pushed_values (e ∷ es) h = by (same_key k e.0) h (pushed_values es)
    where
      n : ℕ
      n = position_or_len (same_key k) (keys_of es)

      by : (b : Bool) → length (e ∷ es) ≤ cond (not b) (1 + n) 0 → (length es ≤ n → values_of (insert_entry same_key es k r) ≡ values_of es ++ r ∷ [])
          → values_of (cond b ((e.0, r) ∷ es) (e ∷ insert_entry same_key es k r)) ≡ e.1 ∷ values_of es ++ r ∷ []
      by true h rest = absurd (omega (arith, h))
      by false h rest = ap (λ vs. e.1 ∷ vs) (rest (omega (arith, h)))

  pub buckets_set : (es new : List (LspKey × Record)) (buckets : List ℕ) (place : ℕ) → buckets ≡ map record_bucket (values_of es) → place ≡ position_or_len (same_key k) (keys_of es) → place < length es
      → new ≡ insert_entry same_key es k r → set buckets place (record_bucket r) ≡ map record_bucket (values_of new)
  buckets_set es new buckets place are at within is =
      ap (λ bs. set bs place (record_bucket r)) are ∙ sym (map-set record_bucket (values_of es) place r)
      ∙ ap (map record_bucket) (ap (λ i. set (values_of es) i r) at ∙ sym (set_values es (subst (λ i. i < length es) at within)) ∙ sym (ap values_of is))

  pub buckets_pushed : (es new : List (LspKey × Record)) (buckets : List ℕ) (place : ℕ) → buckets ≡ map record_bucket (values_of es) → place ≡ position_or_len (same_key k) (keys_of es) → length es ≤ place
      → new ≡ insert_entry same_key es k r → buckets ++ record_bucket r ∷ [] ≡ map record_bucket (values_of new)
  buckets_pushed es new buckets place are at beyond is =
      ap (λ bs. bs ++ record_bucket r ∷ []) are ∙ sym (map-append record_bucket (values_of es) (r ∷ []))
      ∙ ap (map record_bucket) (sym (pushed_values es (subst (λ i. length es ≤ i) at beyond)) ∙ sym (ap values_of is))

pub buckets_taken : (k : LspKey) (es new : List (LspKey × Record)) (buckets : List ℕ) (place : ℕ) (last : Record) → buckets ≡ map record_bucket (values_of es) → position (same_key k) (keys_of es) ≡ Some place
    → last ≡ get_or (values_of es) (length (values_of es) - 1) last → new ≡ swap_remove_entry (same_key k) es
    → take (length (set buckets place (record_bucket last)) - 1) (set buckets place (record_bucket last)) ≡ map record_bucket (values_of new)
buckets_taken k [] new buckets place last are at is gone = absurd cc
buckets_taken k (e ∷ es) new buckets place last are at is gone =
    let vs = values_of (e ∷ es) in
    let size : length (set buckets place (record_bucket last)) ≡ length vs = length-set buckets place (record_bucket last) ∙ ap length are ∙ length-map vs record_bucket in
    let left : values_of new ≡ swap_remove vs place e.1 = ap values_of (gone ∙ swap_remove_entry-found (same_key k) (e ∷ es) place e at) ∙ swapped_values (λ x. x.1) (e ∷ es) place e (omega arith) in
    (λ j. take (size j - 1) (set (are j) place (record_bucket last)))
    ∙ swapped_buckets record_bucket vs place last last (omega arith) (sym is)
    ∙ ap (map record_bucket) (swap_remove-default vs place last e.1 (omega arith) ∙ sym left)

pub missing_stays : (k : LspKey) (es : List (LspKey × Record)) → AreKeyed es → position (same_key k) (keys_of es) ≡ None → values_of es ≡ taken_away (values_of es) k.peer k.plsp
missing_stays k es h is = sym (ap values_of (unmoved es is)) ∙ taken k es h
  where
    unmoved : (es : List (LspKey × Record)) → position (same_key k) (keys_of es) ≡ None → swap_remove_entry (same_key k) es ≡ es
    unmoved [] is = refl
    unmoved (e ∷ es) is = swap_remove_entry-missing (same_key k) (e ∷ es) is
