-- After each effect, each record has a path of its LSP, and each LSP has at most one grant.
use Rattle.std.proofs.Common.{◌≡◌, ◌≤◌, ◌==◌, ◌&&◌, ◌||◌, ℕ, ◌+◌, Bool, true, false, cond, not, List, [], ◌∷◌, ◌++◌, length, map, filter, find, option_map, refl, sym, ap, ◌∙◌, subst, arith}
use Rattle.std.specs.Prelude.{Option, Some, None, is_some}
use Rattle.std.specs.List.{list_any}
use Rattle.std.proofs.lemmas.Bool.{and_from, and_parts, eqb-true, eq-eqb}
use Rattle.lsp_words.specs.declared.object.Capabilities.{Capabilities}
use Rattle.lsp_base.specs.Lsps.{Lsps, AreDistinct, changed, effect_of, dropping, has_none_left, is_path_of, is_record_of, lsp_at, no_effect, put, set_record, set_records, taking, without}
use Rattle.lsp_base.specs.Grants.{is_grant_of}
use Rattle.lsp_base.specs.declared.lsp.Lsp.{Lsp}
use Rattle.lsp_base.specs.declared.path.Path.{Path}
use Rattle.lsp_base.specs.declared.effect.Effect.{Effect}
use Rattle.lsp_base.specs.declared.effect.Record.{Record}
use Rattle.lsp_base.specs.declared.effect.RecordChange.{RecordChange}
use Rattle.lsp_base.proofs.Removal.{has_filter}
use Rattle.sync_rules.specs.Peers.{is_stale_of, is_of_peer, left_alone, marker_effect, up_effect, down_effect, expire_effect}
use Rattle.delegate_rules.specs.Effects.{one_record}
use Rattle.step_core.specs.Consistent.{asked_as, count}
use Rattle.step_core.proofs.Counts.{one, count-exchanged, count-filter, count-fewer, count-map, count-none, without_first-fewer}
use Rattle.step_core.proofs.Dropped.{has_none}
use Rattle.step_core.proofs.Others.{first_of_both}
use Rattle.step_core.proofs.RecordCounts.{AllTake, AllTake-map, put-more, record_set, taken_all}

-- what holds of the LSPs before the effect
pub record HasPaths (base : Lsps) : Type 0 where
  pub distinct : AreDistinct base.records
  pub asked : (m k : ℕ) → asked_as base m k ≤ 1
  pub grants : (m q : ℕ) → (q == 0) ≡ false → count (is_grant_of m q) base.paths ≤ 1
  pub kept : (m q : ℕ) → (q == 0) ≡ false → count (is_record_of m q) base.records ≤ count (is_path_of m q) base.paths

-- what an effect keeps of that
pub record KeepsPaths (base : Lsps) (n : ℕ) (e : Effect) : Type 0 where
  pub grants : (m q : ℕ) → (q == 0) ≡ false → count (is_grant_of m q) (changed base n e).paths ≤ 1
  pub kept : (m q : ℕ) → (q == 0) ≡ false → count (is_record_of m q) (changed base n e).records ≤ count (is_path_of m q) (changed base n e).paths

-- ---- lists

pub count-length : {X : Type 0} (p : X → Bool) (xs : List X) → length (filter p xs) ≡ count p xs
count-length p [] = refl
count-length {X} p (x ∷ xs) = by (p x) (count-length p xs)
  where
    by : (b : Bool) → length (filter p xs) ≡ count p xs → length (cond b (x ∷ filter p xs) (filter p xs)) ≡ one b + count p xs
    by true rest = omega (arith, rest)
    by false rest = omega (arith, rest)

pub count-split : {X : Type 0} (p t : X → Bool) (xs : List X) → count p xs ≡ count p (filter t xs) + count (λ x. not (t x) && p x) xs
count-split p t [] = refl
count-split {X} p t (x ∷ xs) = by (t x) (count-split p t xs)
  where
    by : (b : Bool) → count p xs ≡ count p (filter t xs) + count (λ y. not (t y) && p y) xs → one (p x) + count p xs ≡ count p (cond b (x ∷ filter t xs) (filter t xs)) + (one (not b && p x) + count (λ y. not (t y) && p y) xs)
    by true rest = omega (arith, rest)
    by false rest = omega (arith, rest)

pub some_of : {X : Type 0} (p : X → Bool) (xs : List X) → list_any p xs ≡ true → 1 ≤ count p xs
some_of p [] any = absurd (cc (any))
some_of {X} p (x ∷ xs) any = by (p x) any (some_of p xs)
  where
    by : (b : Bool) → (b || list_any p xs) ≡ true → (list_any p xs ≡ true → 1 ≤ count p xs) → 1 ≤ one b + count p xs
    by true any rest = omega arith
    by false any rest = let more = rest any in omega (arith, more)

pub once : (base : Lsps) → AreDistinct base.records → (m q : ℕ) → count (is_record_of m q) base.records ≤ 1
once base distinct m q = let few = distinct m q in let same = count-length (is_record_of m q) base.records in omega (arith, few, same)

-- ---- records

pub take-fewer : (n m q : ℕ) (rs : List Record) (cs : List RecordChange) → AllTake cs → count (is_record_of m q) (set_records n rs cs) ≤ count (is_record_of m q) rs
take-fewer n m q rs [] take = omega arith
take-fewer n m q rs (c ∷ cs) take =
    let fewer = without_first-fewer (is_record_of m q) (is_record_of n c.plsp) rs in
    let rest = take-fewer n m q (set_record n rs c.plsp None) cs take.1 in
    let same = ap (λ (o : Option Lsp). count (is_record_of m q) (set_records n (set_record n rs c.plsp o) cs)) take.0 in
    omega (arith, fewer, rest, same)

-- setting a record of another LSP
pub put-apart : (n plsp m q : ℕ) (lsp : Lsp) (rs : List Record) → (n == m && plsp == q) ≡ false → count (is_record_of m q) (put rs n plsp lsp) ≤ count (is_record_of m q) rs
put-apart n plsp m q lsp rs apart = let more = put-more (is_record_of m q) n plsp lsp rs in let e = ap one apart in omega (arith, more, e)

same_record : (n plsp m q : ℕ) (r : Record) → is_record_of n plsp r ≡ true → (n == m && plsp == q) ≡ is_record_of m q r
same_record n plsp m q r is =
    let both = and_parts (r.peer == n) (r.plsp == plsp) is in
    sym (ap (λ (k : ℕ). k == m && r.plsp == q) (eqb-true r.peer n both.0) ∙ ap (λ (k : ℕ). n == m && k == q) (eqb-true r.plsp plsp both.1))

-- a record that exists is set in its place
put-there : (n plsp m q : ℕ) (lsp : Lsp) (rs : List Record) → 1 ≤ count (is_record_of n plsp) rs → count (is_record_of m q) (put rs n plsp lsp) ≡ count (is_record_of m q) rs
put-there n plsp m q lsp [] there = absurd (omega (arith, there))
put-there n plsp m q lsp (r ∷ rs) there = by (is_record_of n plsp r) refl there (put-there n plsp m q lsp rs)
  where
    by : (b : Bool) → is_record_of n plsp r ≡ b → 1 ≤ one b + count (is_record_of n plsp) rs → (1 ≤ count (is_record_of n plsp) rs → count (is_record_of m q) (put rs n plsp lsp) ≡ count (is_record_of m q) rs)
        → count (is_record_of m q) (cond b (record_set n plsp lsp ∷ rs) (r ∷ put rs n plsp lsp)) ≡ one (is_record_of m q r) + count (is_record_of m q) rs
    by true is there rest = let e = ap one (same_record n plsp m q r is) in omega (arith, e)
    by false is there rest = let same = rest (omega (arith, there)) in omega (arith, same)

-- each change sets a record that exists
abbrev pub AllThere : ℕ → List Record → List RecordChange → Type 0
AllThere n rs [] = Unit {0}
AllThere n rs (c ∷ cs) = (is_some c.lsp ≡ true) × (1 ≤ count (is_record_of n c.plsp) rs) × AllThere n rs cs

there-moved : (n : ℕ) (rs ss : List Record) → ((q : ℕ) → count (is_record_of n q) ss ≡ count (is_record_of n q) rs) → (cs : List RecordChange) → AllThere n rs cs → AllThere n ss cs
there-moved n rs ss same [] there = tt
there-moved n rs ss same (c ∷ cs) there = let e = same c.plsp in let here = there.1 in (there.0, omega (arith, e, here), there-moved n rs ss same cs there.2)

there-fewer : (n m q : ℕ) (rs : List Record) (cs : List RecordChange) → AllThere n rs cs → count (is_record_of m q) (set_records n rs cs) ≤ count (is_record_of m q) rs
there-fewer n m q rs [] there = omega arith
there-fewer n m q rs (c ∷ cs) there = by c.lsp there.0 (λ lsp. there-fewer n m q (put rs n c.plsp lsp) cs (there-moved n rs (put rs n c.plsp lsp) (λ k. put-there n c.plsp n k lsp rs there.1) cs there.2))
  where
    by : (o : Option Lsp) → is_some o ≡ true → ((lsp : Lsp) → count (is_record_of m q) (set_records n (put rs n c.plsp lsp) cs) ≤ count (is_record_of m q) (put rs n c.plsp lsp)) → count (is_record_of m q) (set_records n (set_record n rs c.plsp o) cs) ≤ count (is_record_of m q) rs
    by None is rest = absurd (cc (is))
    by (Some lsp) is rest = let more = rest lsp in let same = put-there n c.plsp m q lsp rs there.1 in omega (arith, more, same)

-- changes of existing records
pub chosen-there : (n : ℕ) (f : Record → RecordChange) (test : Record → Bool) (all xs : List Record) → ((r : Record) → test r ≡ true → (r.peer == n) ≡ true) → ((r : Record) → (f r).plsp ≡ r.plsp) → ((r : Record) → is_some (f r).lsp ≡ true)
    → ((q : ℕ) → count (is_record_of n q) xs ≤ count (is_record_of n q) all) → AllThere n all (map f (filter test xs))
chosen-there n f test all [] own same sets part = tt
chosen-there n f test all (r ∷ rs) own same sets part = by (test r) refl (chosen-there n f test all rs own same sets (λ q. let h = part q in omega (arith, h)))
  where
    by : (b : Bool) → test r ≡ b → AllThere n all (map f (filter test rs)) → AllThere n all (map f (cond b (r ∷ filter test rs) (filter test rs)))
    by true is rest =
        let here : is_record_of n r.plsp r ≡ true = and_from (r.peer == n) (r.plsp == r.plsp) (own r is) (eq-eqb r.plsp r.plsp refl) in
        let e = ap one here in
        let h = part r.plsp in
        let there : 1 ≤ count (is_record_of n r.plsp) all = omega (arith, e, h) in
        (sets r, subst (λ (k : ℕ). 1 ≤ count (is_record_of n k) all) (sym (same r)) there, rest)
    by false is rest = rest

pub known_there : (n plsp : ℕ) (lsp : Lsp) (rs : List Record) → lsp_at rs n plsp ≡ Some lsp → 1 ≤ count (is_record_of n plsp) rs
known_there n plsp lsp [] known = absurd (cc (known))
known_there n plsp lsp (r ∷ rs) known = by (is_record_of n plsp r) known (known_there n plsp lsp rs)
  where
    by : (b : Bool) → option_map (λ (q : Record). q.lsp) (cond b (Some r) (find (is_record_of n plsp) rs)) ≡ Some lsp → (lsp_at rs n plsp ≡ Some lsp → 1 ≤ count (is_record_of n plsp) rs) → 1 ≤ one b + count (is_record_of n plsp) rs
    by true here rest = omega arith
    by false later rest = let more = rest later in omega (arith, more)

-- ---- effects that leave the paths, and set existing records

same_paths : (base : Lsps) (n : ℕ) (cs : List RecordChange) (p : Path → Bool) → count p (without base.paths [] ++ []) ≡ count p base.paths
same_paths base n cs p = let paths = count-exchanged p base.paths [] [] (has_none base.paths) in omega (arith, paths)

pub sets-keep : (base : Lsps) (n : ℕ) (cs : List RecordChange) → HasPaths base → AllThere n base.records cs → KeepsPaths base n (effect_of [] [] cs false)
unfolding changed
sets-keep base n cs h there = record {
  grants = λ m q bound. (let same = same_paths base n cs (is_grant_of m q) in let few = h.grants m q bound in omega (arith, same, few));
  kept = λ m q bound. (
      let same = same_paths base n cs (is_path_of m q) in
      let fewer = there-fewer n m q base.records cs there in
      let before = h.kept m q bound in
      omega (arith, same, fewer, before));
}

pub no_effect-keeps : (base : Lsps) (n : ℕ) → HasPaths base → KeepsPaths base n no_effect
no_effect-keeps base n h = sets-keep base n [] h tt

pub one_record-keeps : (base : Lsps) (n plsp : ℕ) (old new : Lsp) → HasPaths base → lsp_at base.records n plsp ≡ Some old → KeepsPaths base n (effect_of [] [] (one_record plsp new) false)
one_record-keeps base n plsp old new h known = sets-keep base n (one_record plsp new) h (refl, known_there n plsp old base.records known, tt)

pub down-keeps : (base : Lsps) (n : ℕ) → HasPaths base → KeepsPaths base n (down_effect base n)
unfolding down_effect
down-keeps base n h = sets-keep base n (map left_alone (filter (λ r. r.peer == n) base.records)) h (chosen-there n left_alone (λ r. r.peer == n) base.records base.records (λ r is. is) (λ r. refl) (λ r. refl) (λ q. omega arith))

-- ---- paths that are dropped, and the records that then have none

-- a record of which no path stays is removed
each_goes : (base : Lsps) (n q : ℕ) (test : Path → Bool) → list_any (λ x. not (test x) && is_path_of n q x) base.paths ≡ false → count (is_record_of n q) base.records ≤ count (λ c. c.plsp == q) (map taking (filter (has_none_left test n base.paths) base.records))
each_goes base n q test none =
    let mapped = count-map (λ (c : RecordChange). c.plsp == q) taking (filter (has_none_left test n base.paths) base.records) in
    let chosen = count-filter (λ (r : Record). r.plsp == q) (has_none_left test n base.paths) base.records in
    let fewer = count-fewer (is_record_of n q) (λ (r : Record). has_none_left test n base.paths r && r.plsp == q) (λ r is. goes r is) base.records in
    omega (arith, mapped, chosen, fewer)
  where
    goes : (r : Record) → is_record_of n q r ≡ true → (has_none_left test n base.paths r && r.plsp == q) ≡ true
    goes r is =
        let parts = and_parts (r.peer == n) (r.plsp == q) is in
        let same = ap (λ (k : ℕ). list_any (λ x. not (test x) && is_path_of n k x) base.paths) (eqb-true r.plsp q parts.1) ∙ none in
        and_from (has_none_left test n base.paths r) (r.plsp == q) (and_from (r.peer == n) _ parts.0 (ap not same)) parts.1

-- no path of another LSP passes
pub none_chosen : (p t : Path → Bool) → ((x : Path) → t x ≡ true → p x ≡ false) → (xs : List Path) → count p (filter t xs) ≡ 0
none_chosen p t apart xs = count-filter p t xs ∙ count-none (λ (x : Path). t x && p x) (λ x. by x (t x) refl) xs
  where
    by : (x : Path) (b : Bool) → t x ≡ b → (b && p x) ≡ false
    by x true is = apart x is
    by x false is = refl

pub not_of : (m n q : ℕ) (x : Path) → (n == m) ≡ false → (x.peer == n) ≡ true → is_path_of m q x ≡ false
not_of m n q x other own = ap (λ (k : ℕ). k == m && x.plsp == q) (eqb-true x.peer n own) ∙ ap (λ (b : Bool). b && x.plsp == q) other

dropping-keeps : (base : Lsps) (n : ℕ) (test : Path → Bool) → ((x : Path) → test x ≡ true → (x.peer == n) ≡ true) → HasPaths base → KeepsPaths base n (dropping base n test)
unfolding changed dropping
dropping-keeps base n test own h = record {
  grants = λ m q bound. (let paths = left (is_grant_of m q) in let few = h.grants m q bound in omega (arith, paths, few));
  kept = λ m q bound. by_peer m q bound (n == m) refl;
}
  where
    left : (p : Path → Bool) → count p base.paths + 0 ≡ count p (filter test base.paths) + count p (without base.paths (filter test base.paths) ++ [])
    left p = count-exchanged p base.paths (filter test base.paths) [] (has_filter test base.paths)

    by_path : (q : ℕ) (b : Bool) → list_any (λ x. not (test x) && is_path_of n q x) base.paths ≡ b → count (is_record_of n q) (set_records n base.records (map taking (filter (has_none_left test n base.paths) base.records))) ≤ count (is_path_of n q) (without base.paths (filter test base.paths) ++ [])
    by_path q true stays =
        let some = some_of (λ (x : Path). not (test x) && is_path_of n q x) base.paths stays in
        let split = count-split (is_path_of n q) test base.paths in
        let paths = left (is_path_of n q) in
        let fewer = take-fewer n n q base.records (map taking (filter (has_none_left test n base.paths) base.records)) (AllTake-map (filter (has_none_left test n base.paths) base.records)) in
        let few = once base h.distinct n q in
        omega (arith, some, split, paths, fewer, few)
    by_path q false none =
        let gone = taken_all n q base.records (map taking (filter (has_none_left test n base.paths) base.records)) (AllTake-map (filter (has_none_left test n base.paths) base.records)) (once base h.distinct n q) (each_goes base n q test none) in
        omega (arith, gone)

    by_peer : (m q : ℕ) → (q == 0) ≡ false → (b : Bool) → (n == m) ≡ b → count (is_record_of m q) (set_records n base.records (map taking (filter (has_none_left test n base.paths) base.records))) ≤ count (is_path_of m q) (without base.paths (filter test base.paths) ++ [])
    by_peer m q bound true is = subst (λ (k : ℕ). count (is_record_of k q) (set_records n base.records (map taking (filter (has_none_left test n base.paths) base.records))) ≤ count (is_path_of k q) (without base.paths (filter test base.paths) ++ [])) (eqb-true n m is) (by_path q _ refl)
    by_peer m q bound false other =
        let paths = left (is_path_of m q) in
        let none = none_chosen (is_path_of m q) test (λ x is. not_of m n q x other (own x is)) base.paths in
        let fewer = take-fewer n m q base.records (map taking (filter (has_none_left test n base.paths) base.records)) (AllTake-map (filter (has_none_left test n base.paths) base.records)) in
        let before = h.kept m q bound in
        omega (arith, paths, none, fewer, before)

pub marker-keeps : (base : Lsps) (n : ℕ) → HasPaths base → KeepsPaths base n (marker_effect base n)
unfolding marker_effect
marker-keeps base n h = dropping-keeps base n (is_stale_of n) (λ x is. first_of_both (x.peer == n) (not x.fresh) is) h

pub expire-keeps : (base : Lsps) (n : ℕ) → HasPaths base → KeepsPaths base n (expire_effect base n)
unfolding expire_effect
expire-keeps base n h = dropping-keeps base n (is_of_peer n) (λ x is. is) h

pub up-keeps : (base : Lsps) (n : ℕ) (sent : Option Capabilities) → HasPaths base → KeepsPaths base n (up_effect base n sent)
unfolding up_effect
up-keeps base n None h = marker-keeps base n h
up-keeps base n (Some c) h = no_effect-keeps base n h
