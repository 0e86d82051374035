-- The paths, records and names after an effect don't depend on their order before it.
use Rattle.std.proofs.Common.{◌≡◌, ◌≤◌, ◌==◌, ◌&&◌, ◌||◌, ℕ, ◌+◌, ◌-◌, Bool, true, false, cond, List, [], ◌∷◌, ◌++◌, map, filter, find, IsPermutation, refl, sym, ap, ◌∙◌, subst, arith}
use Rattle.std.specs.Prelude.{Option, Some, None, option_map, if◌then◌else◌}
use Rattle.std.specs.List.{list_any}
use Rattle.std.proofs.lemmas.Bool.{and_from, and_parts, and_right, eqb-true}
use Rattle.std.proofs.lemmas.List.Sorted.{IsPermutation-sym, length_permutation}
use Rattle.lsp_base.specs.Lsps.{AreDistinct, HasAll, is_record_of, lsp_at, put, set_record, set_records, taken_away, without, without_first}
use Rattle.lsp_base.specs.Grants.{is_unbound_grant}
use Rattle.lsp_base.specs.Same.{same_path}
use Rattle.lsp_base.specs.declared.effect.Record.{Record}
use Rattle.lsp_base.specs.declared.effect.RecordChange.{RecordChange}
use Rattle.lsp_base.specs.declared.lsp.Lsp.{Lsp}
use Rattle.lsp_base.specs.declared.path.Path.{Path}
use Rattle.lsp_base.proofs.Distinct.{set_records_distinct, set_records_known}
use Rattle.lsp_base.proofs.Removal.{occurrences-permuted, same_path-eq, same_path-refl}
use Rattle.step_core.specs.Consistent.{count}
use Rattle.step_core.specs.Names.{is_of_grant}
use Rattle.step_core.specs.States.{is_empty, is_grant_of_name, names_without}
use Rattle.step_core.specs.declared.names.AwaitedName.{AwaitedName}
use Rattle.step_core.proofs.Counts.{one, count-exchanged, count-fewer, count-filter, count-map, count-permuted, without_first-fewer, without_first-one}
use Rattle.step_core.proofs.Kept.{count-length}
use Rattle.step_core.proofs.NameCounts.{names_without-count, other_name}
use Rattle.step_core.proofs.Others.{same_number}
use Rattle.step_core.proofs.Permuted.{any-permuted, find-permuted, find-without, found_none, permutes_by_counts, permutes_by_keys}

-- ---- what is known of an LSP

few_records : (rs : List Record) → AreDistinct rs → (m q : ℕ) → count (is_record_of m q) rs ≤ 1
few_records rs distinct m q = let same = count-length (is_record_of m q) rs in let few = distinct m q in omega (arith, same, few)

pub distinct-permuted : (rs ss : List Record) → IsPermutation rs ss → AreDistinct rs → AreDistinct ss
distinct-permuted rs ss same distinct m q =
    let few = few_records rs distinct m q in
    let as_many = count-permuted (is_record_of m q) rs ss same in
    let is = count-length (is_record_of m q) ss in
    omega (arith, few, as_many, is)

pub lsp_at-permuted : (rs ss : List Record) → AreDistinct rs → IsPermutation rs ss → (m q : ℕ) → lsp_at ss m q ≡ lsp_at rs m q
lsp_at-permuted rs ss distinct same m q = ap (option_map (λ r. r.lsp)) (find-permuted (is_record_of m q) rs ss (few_records rs distinct m q) same)

abbrev record_with : ℕ → ℕ → Lsp → Record
record_with m q lsp = record { peer = m; plsp = q; lsp = lsp }

found_record : (m q : ℕ) (rs : List Record) → find (is_record_of m q) rs ≡ option_map (record_with m q) (lsp_at rs m q)
found_record m q [] = refl
found_record m q (r ∷ rs) = by (is_record_of m q r) refl (found_record m q rs)
  where
    by : (b : Bool) → is_record_of m q r ≡ b → find (is_record_of m q) rs ≡ option_map (record_with m q) (lsp_at rs m q)
        → cond b (Some r) (find (is_record_of m q) rs) ≡ option_map (record_with m q) (option_map (λ x. x.lsp) (cond b (Some r) (find (is_record_of m q) rs)))
    by true is rest =
        let parts = and_parts (r.peer == m) (r.plsp == q) is in
        ap (λ (k : ℕ). Some (record_with k r.plsp r.lsp)) (eqb-true r.peer m parts.0) ∙ ap (λ (k : ℕ). Some (record_with m k r.lsp)) (eqb-true r.plsp q parts.1)
    by false other rest = rest

-- two lists of records are the same up to order if each LSP has at most one record, and the same is known about each
-- LSP
records_permute : (rs ss : List Record) → AreDistinct rs → AreDistinct ss → ((m q : ℕ) → lsp_at rs m q ≡ lsp_at ss m q) → IsPermutation rs ss
records_permute rs ss distinct_rs distinct_ss known =
    permutes_by_keys (λ (r : Record). r.peer) (λ (r : Record). r.plsp) rs ss (few_records rs distinct_rs) (few_records ss distinct_ss)
    (λ m q. found_record m q rs ∙ ap (option_map (record_with m q)) (known m q) ∙ sym (found_record m q ss))

-- ---- records that are set

-- what is known about one of the peer's LSPs after the changes
abbrev pub set_at : List RecordChange → ℕ → Option Lsp → Option Lsp
set_at [] q o = o
set_at (c ∷ cs) q o = set_at cs q (if c.plsp == q then c.lsp else o)

-- a record of one LSP is not of another
other_lsp : (n plsp q : ℕ) → (plsp == q) ≡ false → (r : Record) → is_record_of n plsp r ≡ true → is_record_of n q r ≡ false
other_lsp n plsp q apart r is =
    let parts = and_parts (r.peer == n) (r.plsp == plsp) is in
    and_right (r.peer == n) (r.plsp == q) (ap (λ (k : ℕ). k == q) (eqb-true r.plsp plsp parts.1) ∙ apart)

same_lsp : (n plsp q : ℕ) → (plsp == q) ≡ true → (r : Record) → is_record_of n plsp r ≡ is_record_of n q r
same_lsp n plsp q is r = ap (λ (k : ℕ). r.peer == n && r.plsp == k) (eqb-true plsp q is)

known_taken : (n : ℕ) (rs : List Record) (plsp q : ℕ) (b : Bool) → (plsp == q) ≡ b → AreDistinct rs → lsp_at (taken_away rs n plsp) n q ≡ cond b None (lsp_at rs n q)
known_taken n rs plsp q true is distinct =
    let less = without_first-one (is_record_of n q) (is_record_of n plsp) (same_lsp n plsp q is) rs in
    let few = few_records rs distinct n q in
    ap (option_map (λ (r : Record). r.lsp)) (found_none (is_record_of n q) (taken_away rs n plsp) (omega (arith, less, few)))
known_taken n rs plsp q false apart distinct = ap (option_map (λ (r : Record). r.lsp)) (find-without (is_record_of n q) (is_record_of n plsp) (other_lsp n plsp q apart) rs (few_records rs distinct n q))

known_put : (n : ℕ) (rs : List Record) (plsp q : ℕ) (lsp : Lsp) (b : Bool) → (plsp == q) ≡ b → lsp_at (put rs n plsp lsp) n q ≡ cond b (Some lsp) (lsp_at rs n q)
known_put n [] plsp q lsp b is = (λ i. option_map (λ (r : Record). r.lsp) (cond (same_number n i && is i) (Some (record_with n plsp lsp)) None)) ∙ set b
  where
    set : (b : Bool) → option_map (λ (r : Record). r.lsp) (cond b (Some (record_with n plsp lsp)) None) ≡ cond b (Some lsp) None
    set true = refl
    set false = refl
known_put n (r ∷ rs) plsp q lsp b is = by (is_record_of n plsp r) b refl is (known_put n rs plsp q lsp b is)
  where
    first : (t b : Bool) → t ≡ b → (o : Option Record) (x : Record) → option_map (λ (s : Record). s.lsp) (cond t (Some x) o) ≡ cond b (Some x.lsp) (option_map (λ (s : Record). s.lsp) o)
    first true b e o x = ap (λ c. cond c (Some x.lsp) (option_map (λ (s : Record). s.lsp) o)) e
    first false b e o x = ap (λ c. cond c (Some x.lsp) (option_map (λ (s : Record). s.lsp) o)) e

    by : (t b : Bool) → is_record_of n plsp r ≡ t → (plsp == q) ≡ b → lsp_at (put rs n plsp lsp) n q ≡ cond b (Some lsp) (lsp_at rs n q)
        → lsp_at (cond t (record_with n plsp lsp ∷ rs) (r ∷ put rs n plsp lsp)) n q ≡ cond b (Some lsp) (lsp_at (r ∷ rs) n q)
    by true true here is rest = first (is_record_of n q (record_with n plsp lsp)) true (and_from (n == n) (plsp == q) (same_number n) is) (find (is_record_of n q) rs) (record_with n plsp lsp)
    by true false here apart rest = first (is_record_of n q (record_with n plsp lsp)) false (and_right (n == n) (plsp == q) apart) (find (is_record_of n q) rs) (record_with n plsp lsp)
        ∙ sym (first (is_record_of n q r) false (other_lsp n plsp q apart r here) (find (is_record_of n q) rs) r)
    by false true other is rest = first (is_record_of n q r) false (sym (same_lsp n plsp q is r) ∙ other) (find (is_record_of n q) (put rs n plsp lsp)) r ∙ rest
    by false false other apart rest = first (is_record_of n q r) (is_record_of n q r) refl (find (is_record_of n q) (put rs n plsp lsp)) r
        ∙ ap (cond (is_record_of n q r) (Some r.lsp)) rest ∙ sym (first (is_record_of n q r) (is_record_of n q r) refl (find (is_record_of n q) rs) r)

known_set : (n : ℕ) (rs : List Record) (plsp q : ℕ) (o : Option Lsp) → AreDistinct rs → lsp_at (set_record n rs plsp o) n q ≡ cond (plsp == q) o (lsp_at rs n q)
known_set n rs plsp q None distinct = known_taken n rs plsp q (plsp == q) refl distinct
known_set n rs plsp q (Some lsp) distinct = known_put n rs plsp q lsp (plsp == q) refl

known_all : (n : ℕ) (rs : List Record) (cs : List RecordChange) (q : ℕ) → AreDistinct rs → lsp_at (set_records n rs cs) n q ≡ set_at cs q (lsp_at rs n q)
known_all n rs [] q distinct = refl
known_all n rs (c ∷ cs) q distinct = known_all n (set_record n rs c.plsp c.lsp) cs q (set_records_distinct n rs (c ∷ []) distinct) ∙ ap (set_at cs q) (known_set n rs c.plsp q c.lsp distinct)

-- changes that do the same to each LSP leave the same records
pub records-permuted : (n : ℕ) (rs ss : List Record) (cs ds : List RecordChange) → AreDistinct rs → IsPermutation rs ss → ((q : ℕ) (o : Option Lsp) → set_at cs q o ≡ set_at ds q o) → IsPermutation (set_records n rs cs) (set_records n ss ds)
records-permuted n rs ss cs ds distinct same alike =
    let distinct_ss = distinct-permuted rs ss same distinct in
    records_permute (set_records n rs cs) (set_records n ss ds) (set_records_distinct n rs cs distinct) (set_records_distinct n ss ds distinct_ss) (λ m q. by m q (m == n) refl)
  where
    by : (m q : ℕ) (b : Bool) → (m == n) ≡ b → lsp_at (set_records n rs cs) m q ≡ lsp_at (set_records n ss ds) m q
    by m q true is = subst (λ (k : ℕ). lsp_at (set_records n rs cs) k q ≡ lsp_at (set_records n ss ds) k q) (sym (eqb-true m n is))
        (known_all n rs cs q distinct ∙ alike q (lsp_at rs n q) ∙ ap (set_at ds q) (sym (lsp_at-permuted rs ss distinct same n q)) ∙ sym (known_all n ss ds q (distinct-permuted rs ss same distinct)))
    by m q false other = set_records_known m n other q rs cs distinct ∙ sym (lsp_at-permuted rs ss distinct same m q) ∙ sym (set_records_known m n other q ss ds (distinct-permuted rs ss same distinct))

-- ---- changes of chosen records

set_by : Option RecordChange → Option Lsp → Option Lsp
set_by None o = o
set_by (Some c) o = c.lsp

set_once : (cs : List RecordChange) (q : ℕ) (o : Option Lsp) → count (λ c. c.plsp == q) cs ≤ 1 → set_at cs q o ≡ set_by (find (λ c. c.plsp == q) cs) o
unfolding set_by
set_once [] q o few = refl
set_once (c ∷ cs) q o few = by (c.plsp == q) few (λ p. set_once cs q p)
  where
    by : (b : Bool) → one b + count (λ d. d.plsp == q) cs ≤ 1 → ((p : Option Lsp) → count (λ d. d.plsp == q) cs ≤ 1 → set_at cs q p ≡ set_by (find (λ d. d.plsp == q) cs) p)
        → set_at cs q (cond b c.lsp o) ≡ set_by (cond b (Some c) (find (λ d. d.plsp == q) cs)) o
    by true few rest = rest c.lsp (omega (arith, few)) ∙ ap (λ (f : Option RecordChange). set_by f c.lsp) (found_none (λ (d : RecordChange). d.plsp == q) cs (omega (arith, few)))
    by false few rest = rest o (omega (arith, few))

find-map : {X Y : Type 0} (p : Y → Bool) (f : X → Y) (xs : List X) → find p (map f xs) ≡ option_map f (find (λ x. p (f x)) xs)
find-map p f [] = refl
find-map {X} {Y} p f (x ∷ xs) = by (p (f x)) (find-map p f xs)
  where
    by : (b : Bool) → find p (map f xs) ≡ option_map f (find (λ y. p (f y)) xs) → cond b (Some (f x)) (find p (map f xs)) ≡ option_map f (cond b (Some x) (find (λ y. p (f y)) xs))
    by true rest = refl
    by false rest = rest

find-filter : {X : Type 0} (p q : X → Bool) (xs : List X) → find p (filter q xs) ≡ find (λ x. q x && p x) xs
find-filter p q [] = refl
find-filter {X} p q (x ∷ xs) = by (q x) (find-filter p q xs)
  where
    by : (b : Bool) → find p (filter q xs) ≡ find (λ y. q y && p y) xs → find p (cond b (x ∷ filter q xs) (filter q xs)) ≡ cond (b && p x) (Some x) (find (λ y. q y && p y) xs)
    by true rest = ap (cond (p x) (Some x)) rest
    by false rest = rest

-- changes of those of the peer's records that pass a test
pub chosen-permuted : (f : Record → RecordChange) → ((r : Record) → (f r).plsp ≡ r.plsp) → (n : ℕ) (test : Record → Bool) → ((r : Record) → test r ≡ true → (r.peer == n) ≡ true) → (rs ss : List Record) → AreDistinct rs → IsPermutation rs ss
    → (q : ℕ) (o : Option Lsp) → set_at (map f (filter test rs)) q o ≡ set_at (map f (filter test ss)) q o
chosen-permuted f keeps n test own rs ss distinct same q o =
    set_once (map f (filter test rs)) q o (few rs distinct) ∙ ap (λ (found : Option RecordChange). set_by found o) (found_in rs ∙ ap (option_map f) (sym (find-permuted (λ r. test r && (f r).plsp == q) rs ss (few_chosen rs distinct) same)) ∙ sym (found_in ss))
    ∙ sym (set_once (map f (filter test ss)) q o (few ss (distinct-permuted rs ss same distinct)))
  where
    found_in : (xs : List Record) → find (λ c. c.plsp == q) (map f (filter test xs)) ≡ option_map f (find (λ r. test r && (f r).plsp == q) xs)
    found_in xs = find-map (λ c. c.plsp == q) f (filter test xs) ∙ ap (option_map f) (find-filter (λ r. (f r).plsp == q) test xs)

    few_chosen : (xs : List Record) → AreDistinct xs → count (λ r. test r && (f r).plsp == q) xs ≤ 1
    few_chosen xs distinct =
        let fewer = count-fewer (λ (r : Record). test r && (f r).plsp == q) (is_record_of n q) (λ r is.
        let parts = and_parts (test r) ((f r).plsp == q) is in
        and_from (r.peer == n) (r.plsp == q) (own r parts.0) (ap (λ (k : ℕ). k == q) (sym (keeps r)) ∙ parts.1)) xs in
        let once = few_records xs distinct n q in
        omega (arith, fewer, once)

    few : (xs : List Record) → AreDistinct xs → count (λ c. c.plsp == q) (map f (filter test xs)) ≤ 1
    few xs distinct =
        let mapped = count-map (λ (c : RecordChange). c.plsp == q) f (filter test xs) in
        let chosen = count-filter (λ (r : Record). (f r).plsp == q) test xs in
        let once = few_chosen xs distinct in
        omega (arith, mapped, chosen, once)

-- ---- names of grants that are dropped

names_left : (m k : ℕ) (names : List AwaitedName) (gone : List Path) → count (is_of_grant m k) names ≤ 1 → find (is_of_grant m k) (names_without names gone) ≡ cond (list_any (is_unbound_grant m (Some k)) gone) None (find (is_of_grant m k) names)
names_left m k names [] few = refl
names_left m k names (x ∷ gone) few =
    let fewer = without_first-fewer (is_of_grant m k) (λ (a : AwaitedName). is_grant_of_name a x) names in
    names_left m k (without_first (λ a. is_grant_of_name a x) names) gone (omega (arith, fewer, few)) ∙ by (is_unbound_grant m (Some k) x) refl
  where
    rest : List AwaitedName
    rest = without_first (λ a. is_grant_of_name a x) names

    none : (c : Bool) → find (is_of_grant m k) (without_first (λ a. is_grant_of_name a x) names) ≡ None → cond c None (find (is_of_grant m k) (without_first (λ a. is_grant_of_name a x) names)) ≡ None
    none true is = refl
    none false is = is

    by : (b : Bool) → is_unbound_grant m (Some k) x ≡ b → cond (list_any (is_unbound_grant m (Some k)) gone) None (find (is_of_grant m k) (without_first (λ a. is_grant_of_name a x) names)) ≡ cond (b || list_any (is_unbound_grant m (Some k)) gone) None (find (is_of_grant m k) names)
    by true is =
        let less = names_without-count m k names (x ∷ []) in
        let own = ap one is in
        none (list_any (is_unbound_grant m (Some k)) gone) (found_none (is_of_grant m k) (without_first (λ (a : AwaitedName). is_grant_of_name a x) names) (omega (arith, less, own, few)))
    by false other = ap (cond (list_any (is_unbound_grant m (Some k)) gone) None) (find-without (is_of_grant m k) (λ a. is_grant_of_name a x) (λ a. other_name m k x a other) names few)

pub names-permuted : (ns ms : List AwaitedName) (gone left : List Path) → ((m k : ℕ) → count (is_of_grant m k) ns ≤ 1) → IsPermutation ns ms → IsPermutation gone left → IsPermutation (names_without ns gone) (names_without ms left)
names-permuted ns ms gone left few same go = permutes_by_keys (λ (a : AwaitedName). a.peer) (λ (a : AwaitedName). a.srp) (names_without ns gone) (names_without ms left)
    (λ m k. let less = names_without-count m k ns gone in let once = few m k in omega (arith, less, once))
    (λ m k. let less = names_without-count m k ms left in let once = few_ms m k in omega (arith, less, once))
    (λ m k. names_left m k ns gone (few m k)
    ∙ (λ i. cond (any-permuted (is_unbound_grant m (Some k)) left gone (IsPermutation-sym gone left go) i) None (find-permuted (is_of_grant m k) ms ns (few_ms m k) (IsPermutation-sym ns ms same) i))
    ∙ sym (names_left m k ms left (few_ms m k)))
  where
    few_ms : (m k : ℕ) → count (is_of_grant m k) ms ≤ 1
    few_ms m k = let as_many = count-permuted (is_of_grant m k) ns ms same in let once = few m k in omega (arith, as_many, once)

-- ---- paths

pub has-permuted : (xs ys gone left : List Path) → IsPermutation xs ys → IsPermutation gone left → HasAll xs gone → HasAll ys left
has-permuted xs ys gone left same go has z =
    let all = occurrences-permuted z xs ys same in
    let some = occurrences-permuted z gone left go in
    let h = has z in
    omega (arith, all, some, h)

pub paths-permuted : (xs ys gone left come add : List Path) → HasAll xs gone → IsPermutation xs ys → IsPermutation gone left → IsPermutation come add → IsPermutation (without xs gone ++ come) (without ys left ++ add)
paths-permuted xs ys gone left come add has same go more = permutes_by_counts same_path same_path-refl same_path-eq (without xs gone ++ come) (without ys left ++ add) (λ z.
    let first = count-exchanged (λ (y : Path). same_path y z) xs gone come has in
    let second = count-exchanged (λ (y : Path). same_path y z) ys left add (has-permuted xs ys gone left same go has) in
    let all = count-permuted (λ (y : Path). same_path y z) xs ys same in
    let some = count-permuted (λ (y : Path). same_path y z) gone left go in
    let new = count-permuted (λ (y : Path). same_path y z) come add more in
    omega (arith, first, second, all, some, new))

pub empty-permuted : (xs ys : List Path) → IsPermutation xs ys → is_empty ys ≡ is_empty xs
empty-permuted [] [] same = refl
empty-permuted [] (y ∷ ys) same = let long = length_permutation [] (y ∷ ys) same in absurd (omega (arith, long))
empty-permuted (x ∷ xs) [] same = let long = length_permutation (x ∷ xs) [] same in absurd (omega (arith, long))
empty-permuted (x ∷ xs) (y ∷ ys) same = refl

pub filter-permuted : (p : Path → Bool) (xs ys : List Path) → IsPermutation xs ys → IsPermutation (filter p xs) (filter p ys)
filter-permuted p xs ys same = permutes_by_counts same_path same_path-refl same_path-eq (filter p xs) (filter p ys) (λ z.
    let first = count-filter (λ (y : Path). same_path y z) p xs in
    let second = count-filter (λ (y : Path). same_path y z) p ys in
    let all = count-permuted (λ (y : Path). p y && same_path y z) xs ys same in
    omega (arith, first, second, all))
