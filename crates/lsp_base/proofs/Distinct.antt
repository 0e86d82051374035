-- Each LSP has at most one record, and a change of one peer's records leaves what is known of other peers' LSPs.
use Rattle.std.proofs.Common.{◌≡◌, ◌≤◌, ◌==◌, ◌&&◌, ℕ, ◌-◌, Bool, true, false, cond, List, [], ◌∷◌, ◌++◌, length, take, drop, filter, find, option_map, Option, Some, None, refl, sym, ◌∙◌, ap, arith, length-append}
use Rattle.std.proofs.lemmas.Bool.{and_parts, eqb-true, eqb-false, ne_eqb, both_ways, false_from_ne_true, and_left}
use Rattle.std.proofs.lemmas.List.{take-append-drop}
use Rattle.std.proofs.lemmas.List.Elements.{filter-append}
use Rattle.std.proofs.lemmas.List.Sorted.{length_permutation}
use Rattle.lsp_base.specs.Lsps.{last_in_front, without_first, is_record_of, lsp_at, put, set_record, set_records, AreDistinct}
use Rattle.lsp_base.specs.declared.lsp.Lsp.{Lsp}
use Rattle.lsp_base.specs.declared.effect.Record.{Record}
use Rattle.lsp_base.specs.declared.effect.RecordChange.{RecordChange}
use Rattle.lsp_base.proofs.Swapped.{filter-last_in_front}

-- ---- the first that passes, if at most one does

or_else : {X : Type 0} → Option X → Option X → Option X
or_else (Some x) o = Some x
or_else None o = o

find-append : {X : Type 0} (p : X → Bool) (xs ys : List X) → find p (xs ++ ys) ≡ or_else (find p xs) (find p ys)
unfolding or_else
find-append p [] ys = refl
find-append {X} p (x ∷ xs) ys = by (p x) (find-append p xs ys)
  where
    by : (b : Bool) → find p (xs ++ ys) ≡ or_else (find p xs) (find p ys) → cond b (Some x) (find p (xs ++ ys)) ≡ or_else (cond b (Some x) (find p xs)) (find p ys)
    by true rest = refl
    by false rest = rest

found_counts : {X : Type 0} (p : X → Bool) (xs : List X) (x : X) → find p xs ≡ Some x → 1 ≤ length (filter p xs)
found_counts p [] x found = absurd (cc (found))
found_counts {X} p (y ∷ ys) x found = by (p y) found (found_counts p ys x)
  where
    by : (b : Bool) → cond b (Some y) (find p ys) ≡ Some x → (find p ys ≡ Some x → 1 ≤ length (filter p ys)) → 1 ≤ length (cond b (y ∷ filter p ys) (filter p ys))
    by true here rest = omega arith
    by false later rest = rest later

find-last_in_front : {X : Type 0} (p : X → Bool) (xs : List X) → length (filter p xs) ≤ 1 → find p (last_in_front xs) ≡ find p xs
unfolding or_else
find-last_in_front {X} p xs few =
    let n = length xs - 1 in
    let whole = ap (find p) (take-append-drop n xs) in
    find-append p (drop n xs) (take n xs) ∙ by (find p (take n xs)) (find p (drop n xs)) refl refl ∙ sym (find-append p (take n xs) (drop n xs)) ∙ whole
  where
    by : (u v : Option X) → find p (take (length xs - 1) xs) ≡ u → find p (drop (length xs - 1) xs) ≡ v → or_else v u ≡ or_else u v
    by None None e f = refl
    by None (Some y) e f = refl
    by (Some x) None e f = refl
    by (Some x) (Some y) e f =
        let a = found_counts p (take (length xs - 1) xs) x e in
        let b = found_counts p (drop (length xs - 1) xs) y f in
        let both = ap length (filter-append p (take (length xs - 1) xs) (drop (length xs - 1) xs)) in
        let sum = length-append (filter p (take (length xs - 1) xs)) (filter p (drop (length xs - 1) xs)) in
        let whole = ap (λ ys. length (filter p ys)) (take-append-drop (length xs - 1) xs) in
        absurd (omega (arith, a, b, both, sum, whole, few))

find-without_first : {X : Type 0} (p test : X → Bool) → ((x : X) → test x ≡ true → p x ≡ false) → (xs : List X) → length (filter p xs) ≤ 1 → find p (without_first test xs) ≡ find p xs
find-without_first p test apart [] few = refl
find-without_first {X} p test apart (y ∷ ys) few = by (test y) (p y) refl refl few (find-without_first p test apart ys)
  where
    by : (t b : Bool) → test y ≡ t → p y ≡ b → length (cond b (y ∷ filter p ys) (filter p ys)) ≤ 1 → (length (filter p ys) ≤ 1 → find p (without_first test ys) ≡ find p ys) → find p (cond t (last_in_front ys) (y ∷ without_first test ys)) ≡ cond b (Some y) (find p ys)
    by true true is passes one rest = absurd (both_ways (p y) (apart y is) passes)
    by true false is passes one rest = find-last_in_front p ys one
    by false true is passes one rest = ap (λ b. cond b (Some y) (find p (without_first test ys))) passes
    by false false is passes one rest = ap (λ b. cond b (Some y) (find p (without_first test ys))) passes ∙ rest one

-- ---- no more pass than before

without_first-fewer : {X : Type 0} (p test : X → Bool) (xs : List X) → length (filter p (without_first test xs)) ≤ length (filter p xs)
without_first-fewer p test [] = omega arith
without_first-fewer {X} p test (y ∷ ys) = by (test y) (p y) refl (without_first-fewer p test ys)
  where
    by : (t b : Bool) → p y ≡ b → length (filter p (without_first test ys)) ≤ length (filter p ys) → length (filter p (cond t (last_in_front ys) (y ∷ without_first test ys))) ≤ length (cond b (y ∷ filter p ys) (filter p ys))
    by true true is rest = let e = length_permutation _ _ (filter-last_in_front p ys) in omega (arith, e)
    by true false is rest = let e = length_permutation _ _ (filter-last_in_front p ys) in omega (arith, e)
    by false true is rest = let e = ap (λ b. length (cond b (y ∷ filter p (without_first test ys)) (filter p (without_first test ys)))) is in omega (arith, e, rest)
    by false false is rest = let e = ap (λ b. length (cond b (y ∷ filter p (without_first test ys)) (filter p (without_first test ys)))) is in omega (arith, e, rest)

-- ---- a record is set

abbrev set_one : ℕ → ℕ → Lsp → Record
set_one n plsp lsp = record { peer = n; plsp = plsp; lsp = lsp }

-- the record that is written over is of the same LSP
same_place : (m q n plsp : ℕ) (lsp : Lsp) (r : Record) → is_record_of n plsp r ≡ true → is_record_of m q (set_one n plsp lsp) ≡ is_record_of m q r
same_place m q n plsp lsp r is =
    let both = and_parts (r.peer == n) (r.plsp == plsp) is in
    let peer : r.peer ≡ n = eqb-true r.peer n both.0 in
    let number : r.plsp ≡ plsp = eqb-true r.plsp plsp both.1 in
    sym (ap (λ v. v == m && r.plsp == q) peer ∙ ap (λ v. n == m && v == q) number)

-- a record of one LSP is not of another
other_place : (m q n plsp : ℕ) (lsp : Lsp) (r : Record) → is_record_of n plsp r ≡ false → is_record_of m q r ≡ true → is_record_of m q (set_one n plsp lsp) ≡ false
other_place m q n plsp lsp r other is = false_from_ne_true _ (λ same.
    let both = and_parts (n == m) (plsp == q) same in
    let peer : n ≡ m = eqb-true n m both.0 in
    let number : plsp ≡ q = eqb-true plsp q both.1 in
    both_ways (is_record_of n plsp r) other (ap (λ v. r.peer == v && r.plsp == plsp) peer ∙ ap (λ v. r.peer == m && r.plsp == v) number ∙ is))

put-others : (m q n plsp : ℕ) (lsp : Lsp) → is_record_of m q (set_one n plsp lsp) ≡ false → (rs : List Record) → filter (is_record_of m q) (put rs n plsp lsp) ≡ filter (is_record_of m q) rs
put-others m q n plsp lsp apart [] = ap (λ b. cond b (set_one n plsp lsp ∷ []) []) apart
put-others m q n plsp lsp apart (r ∷ rs) = by (is_record_of n plsp r) refl (put-others m q n plsp lsp apart rs)
  where
    test : Record → Bool
    test = is_record_of m q

    by : (b : Bool) → is_record_of n plsp r ≡ b → filter (is_record_of m q) (put rs n plsp lsp) ≡ filter (is_record_of m q) rs → filter (is_record_of m q) (cond b (set_one n plsp lsp ∷ rs) (r ∷ put rs n plsp lsp)) ≡ filter (is_record_of m q) (r ∷ rs)
    by true is rest = ap (λ b. cond b (set_one n plsp lsp ∷ filter (is_record_of m q) rs) (filter (is_record_of m q) rs)) apart ∙ sym (ap (λ b. cond b (r ∷ filter (is_record_of m q) rs) (filter (is_record_of m q) rs)) (sym (same_place m q n plsp lsp r is) ∙ apart))
    by false is rest = ap (λ t. cond (is_record_of m q r) (r ∷ t) t) rest

put-most : (m q n plsp : ℕ) (lsp : Lsp) (rs : List Record) → length (filter (is_record_of m q) rs) ≤ 1 → length (filter (is_record_of m q) (put rs n plsp lsp)) ≤ 1
put-most m q n plsp lsp [] few = by (is_record_of m q (set_one n plsp lsp))
  where
    by : (b : Bool) → length (cond b (set_one n plsp lsp ∷ []) []) ≤ 1
    by true = omega arith
    by false = omega arith
put-most m q n plsp lsp (r ∷ rs) few = by (is_record_of n plsp r) (is_record_of m q r) refl refl few (put-most m q n plsp lsp rs)
  where
    by : (t b : Bool) → is_record_of n plsp r ≡ t → is_record_of m q r ≡ b → length (cond b (r ∷ filter (is_record_of m q) rs) (filter (is_record_of m q) rs)) ≤ 1 → (length (filter (is_record_of m q) rs) ≤ 1 → length (filter (is_record_of m q) (put rs n plsp lsp)) ≤ 1) → length (filter (is_record_of m q) (cond t (set_one n plsp lsp ∷ rs) (r ∷ put rs n plsp lsp))) ≤ 1
    by true true is passes one rest = let e = ap (λ b. length (cond b (set_one n plsp lsp ∷ filter (is_record_of m q) rs) (filter (is_record_of m q) rs))) (same_place m q n plsp lsp r is ∙ passes) in omega (arith, e, one)
    by true false is passes one rest = let e = ap (λ b. length (cond b (set_one n plsp lsp ∷ filter (is_record_of m q) rs) (filter (is_record_of m q) rs))) (same_place m q n plsp lsp r is ∙ passes) in omega (arith, e, one)
    by false true is passes one rest =
        let same = ap length (put-others m q n plsp lsp (other_place m q n plsp lsp r is passes) rs) in
        let e = ap (λ b. length (cond b (r ∷ filter (is_record_of m q) (put rs n plsp lsp)) (filter (is_record_of m q) (put rs n plsp lsp)))) passes in
        omega (arith, e, same, one)
    by false false is passes one rest = let e = ap (λ b. length (cond b (r ∷ filter (is_record_of m q) (put rs n plsp lsp)) (filter (is_record_of m q) (put rs n plsp lsp)))) passes in omega (arith, e, rest one)

-- ---- all changes of an effect

set_record-distinct : (n : ℕ) (rs : List Record) (plsp : ℕ) (lsp : Option Lsp) → AreDistinct rs → AreDistinct (set_record n rs plsp lsp)
set_record-distinct n rs plsp None distinct m q = omega (arith, without_first-fewer (is_record_of m q) (is_record_of n plsp) rs, distinct m q)
set_record-distinct n rs plsp (Some lsp) distinct m q = put-most m q n plsp lsp rs (distinct m q)

pub set_records_distinct : (n : ℕ) (rs : List Record) (cs : List RecordChange) → AreDistinct rs → AreDistinct (set_records n rs cs)
set_records_distinct n rs [] distinct = distinct
set_records_distinct n rs (c ∷ cs) distinct = set_records_distinct n (set_record n rs c.plsp c.lsp) cs (set_record-distinct n rs c.plsp c.lsp distinct)

find-put : (m q n plsp : ℕ) (lsp : Lsp) → is_record_of m q (set_one n plsp lsp) ≡ false → (rs : List Record) → find (is_record_of m q) (put rs n plsp lsp) ≡ find (is_record_of m q) rs
find-put m q n plsp lsp apart [] = ap (λ b. cond b (Some (set_one n plsp lsp)) None) apart
find-put m q n plsp lsp apart (r ∷ rs) = by (is_record_of n plsp r) refl (find-put m q n plsp lsp apart rs)
  where
    by : (b : Bool) → is_record_of n plsp r ≡ b → find (is_record_of m q) (put rs n plsp lsp) ≡ find (is_record_of m q) rs → find (is_record_of m q) (cond b (set_one n plsp lsp ∷ rs) (r ∷ put rs n plsp lsp)) ≡ find (is_record_of m q) (r ∷ rs)
    by true is rest = ap (λ b. cond b (Some (set_one n plsp lsp)) (find (is_record_of m q) rs)) apart ∙ sym (ap (λ b. cond b (Some r) (find (is_record_of m q) rs)) (sym (same_place m q n plsp lsp r is) ∙ apart))
    by false is rest = ap (λ t. cond (is_record_of m q r) (Some r) t) rest

not_own : (m n : ℕ) → (m == n) ≡ false → (q plsp : ℕ) (r : Record) → is_record_of n plsp r ≡ true → is_record_of m q r ≡ false
not_own m n other q plsp r is =
    let both = and_parts (r.peer == n) (r.plsp == plsp) is in
    let peer : r.peer ≡ n = eqb-true r.peer n both.0 in
    and_left (r.peer == m) (r.plsp == q) (ne_eqb r.peer m (λ e. eqb-false m n other (sym e ∙ peer)))

not_set : (m n : ℕ) → (m == n) ≡ false → (q plsp : ℕ) (lsp : Lsp) → is_record_of m q (set_one n plsp lsp) ≡ false
not_set m n other q plsp lsp = and_left (n == m) (plsp == q) (ne_eqb n m (λ e. eqb-false m n other (sym e)))

set_record-known : (m n : ℕ) → (m == n) ≡ false → (q : ℕ) (rs : List Record) (plsp : ℕ) (lsp : Option Lsp) → AreDistinct rs → lsp_at (set_record n rs plsp lsp) m q ≡ lsp_at rs m q
set_record-known m n other q rs plsp None distinct = ap (option_map (λ r. r.lsp)) (find-without_first (is_record_of m q) (is_record_of n plsp) (not_own m n other q plsp) rs (distinct m q))
set_record-known m n other q rs plsp (Some lsp) distinct = ap (option_map (λ r. r.lsp)) (find-put m q n plsp lsp (not_set m n other q plsp lsp) rs)

-- what is known of another peer's LSP
pub set_records_known : (m n : ℕ) → (m == n) ≡ false → (q : ℕ) (rs : List Record) (cs : List RecordChange) → AreDistinct rs → lsp_at (set_records n rs cs) m q ≡ lsp_at rs m q
set_records_known m n other q rs [] distinct = refl
set_records_known m n other q rs (c ∷ cs) distinct =
    set_records_known m n other q (set_record n rs c.plsp c.lsp) cs (set_record-distinct n rs c.plsp c.lsp distinct) ∙ set_record-known m n other q rs c.plsp c.lsp distinct
