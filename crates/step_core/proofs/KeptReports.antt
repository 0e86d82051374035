-- After each report, each record has a path of its LSP, and each LSP has at most one grant.
use Rattle.std.proofs.Common.{◌≡◌, ◌≤◌, ◌==◌, ◌&&◌, ◌||◌, ℕ, ◌+◌, Bool, true, false, cond, not, List, [], ◌∷◌, ◌++◌, map, filter, refl, sym, ap, ◌∙◌, subst, arith, ◌⊎◌, inl, inr}
use Rattle.std.specs.Prelude.{Option, Some, None, Ok, Err, if◌then◌else◌}
use Rattle.std.specs.List.{list_any}
use Rattle.std.proofs.lemmas.Bool.{and_from, and_parts, both_ways, eqb-true, eq-eqb, false_from_ne_true, or_cases}
use Rattle.pcep_messages.specs.declared.message.StateReport.{StateReport}
use Rattle.te_base.specs.Ted.{Ted}
use Rattle.lsp_base.specs.Lsps.{Lsps, changed, is_path_of, is_record_of, lsp_at, put, set_records, without}
use Rattle.lsp_base.specs.Grants.{has_grant, has_srp, is_grant_of, is_unbound_grant}
use Rattle.lsp_base.specs.Pending.{is_grant_as}
use Rattle.lsp_base.specs.Same.{is_reported}
use Rattle.lsp_base.specs.declared.lsp.Lsp.{Lsp}
use Rattle.lsp_base.specs.declared.path.Path.{Path}
use Rattle.lsp_base.specs.declared.tunnel.Part.{Part}
use Rattle.lsp_base.specs.declared.tunnel.Part.TheVariants.{Reported, Granted}
use Rattle.lsp_base.specs.declared.effect.Effect.{Effect}
use Rattle.lsp_base.specs.declared.effect.RecordChange.{RecordChange}
use Rattle.lsp_base.specs.declared.why.Why.TheVariants.{BadReport, TooManyPaths}
use Rattle.lsp_base.proofs.Distinct.{set_records_distinct}
use Rattle.lsp_base.proofs.Removal.{has_filter}
use Rattle.delegate_rules.specs.Reports.{are_zero, identifiers_of, reported_lsp, reported_path}
use Rattle.delegate_rules.specs.Grants.{bound_grant, is_grant_bound, is_grant_kept, is_grant_met, is_grant_settled, moved_grant}
use Rattle.delegate_rules.specs.Effects.{allowed, bound_grants, goes_by_removal, goes_by_report, is_nil, is_removed, is_replaced, is_too_many, one_record, records_left, removal_effect_by, report_effect_by, report_result, reported_effect}
use Rattle.step_core.specs.Consistent.{asked_as, count}
use Rattle.step_core.proofs.Counts.{one, count-exchanged, count-filter, count-filtered, count-fewer, count-map, count-none, count_of_none}
use Rattle.step_core.proofs.Kept.{HasPaths, KeepsPaths, count-split, none_chosen, once, put-apart, some_of, take-fewer}
use Rattle.step_core.proofs.Others.{first_of_both}
use Rattle.step_core.proofs.RecordCounts.{AllTake, taken_all}

-- ---- one LSP and all others

-- a path of the LSP, or one that is bound to none, is of no other LSP
apart_from : (n plsp m q : ℕ) (x : Path) → (n == m && plsp == q) ≡ false → (q == 0) ≡ false → (is_path_of n plsp x ≡ true) ⊎ ((x.plsp == 0) ≡ true) → is_path_of m q x ≡ false
apart_from n plsp m q x other bound (inl of) = false_from_ne_true _ (λ also.
    let first = and_parts (x.peer == n) (x.plsp == plsp) of in
    let second = and_parts (x.peer == m) (x.plsp == q) also in
    both_ways (n == m && plsp == q) other (and_from (n == m) (plsp == q) (ap (λ (k : ℕ). k == m) (sym (eqb-true x.peer n first.0)) ∙ second.0) (ap (λ (k : ℕ). k == q) (sym (eqb-true x.plsp plsp first.1)) ∙ second.1)))
apart_from n plsp m q x other bound (inr zero) = false_from_ne_true _ (λ also.
    let second = and_parts (x.peer == m) (x.plsp == q) also in
    both_ways (q == 0) bound (ap (λ (k : ℕ). k == 0) (sym (eqb-true x.plsp q second.1)) ∙ zero))

-- the grant that is met belongs to the LSP, or is bound to none
met_where : (granted : Bool) (n : ℕ) (r : StateReport) (x : Path) → is_grant_met granted n r x ≡ true → (is_path_of n r.plsp x ≡ true) ⊎ ((x.plsp == 0) ≡ true)
met_where true n r x is = inl (and_parts (is_path_of n r.plsp x) (not (is_reported x.part)) is).0
met_where false n r x is = inr (and_parts (x.peer == n) (x.plsp == 0) (and_parts (x.peer == n && x.plsp == 0) (has_srp r.srp x.part) is).0).1

met_own : (granted : Bool) (n : ℕ) (r : StateReport) (x : Path) → is_grant_met granted n r x ≡ true → (x.peer == n) ≡ true
met_own true n r x is = (and_parts (x.peer == n) (x.plsp == r.plsp) (and_parts (is_path_of n r.plsp x) (not (is_reported x.part)) is).0).0
met_own false n r x is = (and_parts (x.peer == n) (x.plsp == 0) (and_parts (x.peer == n && x.plsp == 0) (has_srp r.srp x.part) is).0).0

-- at most one grant is met
unbound_few : (base : Lsps) (n : ℕ) (srp : Option ℕ) → ((m k : ℕ) → asked_as base m k ≤ 1) → count (is_unbound_grant n srp) base.paths ≤ 1
unbound_few base n None asked = let none = count-none (is_unbound_grant n None) (λ x. no x.part (x.peer == n && x.plsp == 0)) base.paths in omega (arith, none)
  where
    no : (p : Part) (b : Bool) → (b && has_srp None p) ≡ false
    no (Reported i) true = refl
    no (Granted s) true = refl
    no p false = refl
unbound_few base n (Some k) asked =
    let fewer = count-fewer (is_unbound_grant n (Some k)) (is_grant_as n k) (λ x is. bound x is) base.paths in
    let few = asked n k in
    omega (arith, fewer, few)
  where
    bound : (x : Path) → is_unbound_grant n (Some k) x ≡ true → is_grant_as n k x ≡ true
    bound x is =
        let parts = and_parts (x.peer == n && x.plsp == 0) (has_srp (Some k) x.part) is in
        and_from (x.peer == n) (has_srp (Some k) x.part) (and_parts (x.peer == n) (x.plsp == 0) parts.0).0 parts.1

met_few : (granted : Bool) (base : Lsps) (n : ℕ) (r : StateReport) → (r.plsp == 0) ≡ false → HasPaths base → count (is_grant_met granted n r) base.paths ≤ 1
met_few true base n r bound h = h.grants n r.plsp bound
met_few false base n r bound h = unbound_few base n r.srp h.asked

-- of the kept grants, no more belong to one LSP than are met
kept_few : (granted : Bool) (base : Lsps) (n : ℕ) (r : StateReport) (p : Path → Bool) (f : Path → Path) (t : Path → Bool) → ((x : Path) → t x ≡ true → is_grant_met granted n r x ≡ true) → (r.plsp == 0) ≡ false → HasPaths base → count p (map f (filter t base.paths)) ≤ 1
kept_few granted base n r p f t met bound h =
    let mapped = count-map p f (filter t base.paths) in
    let chosen = count-filter (λ (x : Path). p (f x)) t base.paths in
    let fewer = count-fewer (λ (x : Path). t x && p (f x)) (is_grant_met granted n r) (λ x is. met x (and_parts (t x) (p (f x)) is).0) base.paths in
    let few = met_few granted base n r bound h in
    omega (arith, mapped, chosen, fewer, few)

-- a grant that is moved or bound is of the report's LSP
moved_apart : (n plsp m q : ℕ) (f : Path → Path) (t : Path → Bool) (xs : List Path) → ((x : Path) → (f x).peer ≡ x.peer) → ((x : Path) → (f x).plsp ≡ plsp) → ((x : Path) → t x ≡ true → (x.peer == n) ≡ true) → (n == m && plsp == q) ≡ false → count (is_grant_of m q) (map f (filter t xs)) ≡ 0
moved_apart n plsp m q f t xs peer lsp own other = count-map (is_grant_of m q) f (filter t xs) ∙ none_chosen (λ (x : Path). is_grant_of m q (f x)) t (λ x is. by x (own x is)) xs
  where
    by : (x : Path) → (x.peer == n) ≡ true → is_grant_of m q (f x) ≡ false
    by x is = ap (λ (b : Bool). b && not (is_reported (f x).part)) (ap (λ (k : ℕ). k == m && (f x).plsp == q) (peer x ∙ eqb-true x.peer n is) ∙ ap (λ (k : ℕ). n == m && k == q) (lsp x) ∙ other)

-- ---- a report that stands

goes_where : (granted : Bool) (n : ℕ) (r : StateReport) (x : Path) → goes_by_report granted n r x ≡ true → (is_path_of n r.plsp x ≡ true) ⊎ ((x.plsp == 0) ≡ true)
goes_where granted n r x is = by (or_cases (is_replaced n r x) (is_grant_met granted n r x) is)
  where
    by : (is_replaced n r x ≡ true) ⊎ (is_grant_met granted n r x ≡ true) → (is_path_of n r.plsp x ≡ true) ⊎ ((x.plsp == 0) ≡ true)
    by (inl replaced) = inl (first_of_both (is_path_of n r.plsp x) _ replaced)
    by (inr met) = met_where granted n r x met

kept_met : (granted : Bool) (n : ℕ) (r : StateReport) (x : Path) → is_grant_kept granted n r x ≡ true → is_grant_met granted n r x ≡ true
kept_met granted n r x is = (and_parts (is_grant_met granted n r x) (not (is_grant_settled r x)) is).0

or_right : (a b : Bool) → b ≡ true → (a || b) ≡ true
or_right true b is = refl
or_right false b is = is

-- no grant of the LSP stays except for those that are moved
none_beside : (granted : Bool) (base : Lsps) (n : ℕ) (r : StateReport) → has_grant base.paths n r.plsp ≡ granted → count (is_grant_of n r.plsp) base.paths ≤ count (is_grant_of n r.plsp) (filter (goes_by_report granted n r) base.paths)
none_beside true base n r is =
    let chosen = count-filter (is_grant_of n r.plsp) (goes_by_report true n r) base.paths in
    let fewer = count-fewer (is_grant_of n r.plsp) (λ (x : Path). goes_by_report true n r x && is_grant_of n r.plsp x) (λ x here. and_from (goes_by_report true n r x) (is_grant_of n r.plsp x) (or_right (is_replaced n r x) (is_grant_of n r.plsp x) here) here) base.paths in
    omega (arith, chosen, fewer)
none_beside false base n r is = let none = count_of_none (is_grant_of n r.plsp) base.paths is in omega (arith, none)

both_are : (n m plsp q : ℕ) (P : ℕ → ℕ → Type 0) → (n == m && plsp == q) ≡ true → P n plsp → P m q
both_are n m plsp q P is here =
    let parts = and_parts (n == m) (plsp == q) is in
    subst (λ (k : ℕ). P k q) (eqb-true n m parts.0) (subst (λ (k : ℕ). P n k) (eqb-true plsp q parts.1) here)

-- the reported path is no grant, and a path of the LSP
reported_no_grant : (te : Ted) (n : ℕ) (r : StateReport) (m q : ℕ) → is_grant_of m q (reported_path te n r) ≡ false
unfolding reported_path
reported_no_grant te n r m q = by (n == m && r.plsp == q)
  where
    by : (b : Bool) → (b && false) ≡ false
    by true = refl
    by false = refl

reported_path_of : (te : Ted) (n : ℕ) (r : StateReport) → is_path_of n r.plsp (reported_path te n r) ≡ true
unfolding reported_path
reported_path_of te n r = and_from (n == n) (r.plsp == r.plsp) (eq-eqb n n refl) (eq-eqb r.plsp r.plsp refl)

report_by-keeps : (granted : Bool) (base : Lsps) (te : Ted) (n : ℕ) (r : StateReport) → has_grant base.paths n r.plsp ≡ granted → (r.plsp == 0) ≡ false → HasPaths base → KeepsPaths base n (report_effect_by granted (lsp_at base.records n r.plsp) base.paths te n r)
unfolding changed report_effect_by
report_by-keeps granted base te n r has bound h = record {
  grants = λ m q q_bound. grants_by m q q_bound (n == m && r.plsp == q) refl;
  kept = λ m q q_bound. kept_by m q q_bound (n == m && r.plsp == q) refl;
}
  where
    dropped : List Path
    dropped = filter (goes_by_report granted n r) base.paths

    added : List Path
    added = reported_path te n r ∷ map (moved_grant n r) (filter (is_grant_kept granted n r) base.paths)

    lsp : Lsp
    lsp = reported_lsp n r (lsp_at base.records n r.plsp)

    left : (p : Path → Bool) → count p base.paths + count p added ≡ count p dropped + count p (without base.paths dropped ++ added)
    left p = count-exchanged p base.paths dropped added (has_filter (goes_by_report granted n r) base.paths)

    fewer_added : (m q : ℕ) → count (is_grant_of m q) added ≤ 1
    fewer_added m q =
        let first = ap one (reported_no_grant te n r m q) in
        let few = kept_few granted base n r (is_grant_of m q) (moved_grant n r) (is_grant_kept granted n r) (kept_met granted n r) bound h in
        omega (arith, first, few)

    grants_by : (m q : ℕ) → (q == 0) ≡ false → (b : Bool) → (n == m && r.plsp == q) ≡ b → count (is_grant_of m q) (without base.paths dropped ++ added) ≤ 1
    grants_by m q q_bound true is = both_are n m r.plsp q (λ i j. count (is_grant_of i j) (without base.paths dropped ++ added) ≤ 1) is (
        let paths = left (is_grant_of n r.plsp) in
        let none = none_beside granted base n r has in
        let few = fewer_added n r.plsp in
        omega (arith, paths, none, few))
    grants_by m q q_bound false other =
        let paths = left (is_grant_of m q) in
        let first = ap one (reported_no_grant te n r m q) in
        let none = moved_apart n r.plsp m q (moved_grant n r) (is_grant_kept granted n r) base.paths (λ x. refl) (λ x. refl) (λ x is. met_own granted n r x (kept_met granted n r x is)) other in
        let few = h.grants m q q_bound in
        omega (arith, paths, first, none, few)

    kept_by : (m q : ℕ) → (q == 0) ≡ false → (b : Bool) → (n == m && r.plsp == q) ≡ b → count (is_record_of m q) (put base.records n r.plsp lsp) ≤ count (is_path_of m q) (without base.paths dropped ++ added)
    kept_by m q q_bound true is = both_are n m r.plsp q (λ i j. count (is_record_of i j) (put base.records n r.plsp lsp) ≤ count (is_path_of i j) (without base.paths dropped ++ added)) is (
        let paths = left (is_path_of n r.plsp) in
        let here = ap one (reported_path_of te n r) in
        let fewer = count-filtered (is_path_of n r.plsp) (goes_by_report granted n r) base.paths in
        let few = once (record base { records = put base.records n r.plsp lsp }) (set_records_distinct n base.records (one_record r.plsp lsp) h.distinct) n r.plsp in
        omega (arith, paths, here, fewer, few))
    kept_by m q q_bound false other =
        let paths = left (is_path_of m q) in
        let none = none_chosen (is_path_of m q) (goes_by_report granted n r) (λ x is. apart_from n r.plsp m q x other q_bound (goes_where granted n r x is)) base.paths in
        let fewer = put-apart n r.plsp m q lsp base.records other in
        let before = h.kept m q q_bound in
        omega (arith, paths, none, fewer, before)

-- ---- a removal

removed_where : (granted : Bool) (n : ℕ) (r : StateReport) (x : Path) → goes_by_removal granted n r x ≡ true → (is_path_of n r.plsp x ≡ true) ⊎ ((x.plsp == 0) ≡ true)
removed_where granted n r x is = by (or_cases (is_removed n r x) (is_grant_met granted n r x && (is_grant_settled r x || x.plsp == 0)) is)
  where
    by : (is_removed n r x ≡ true) ⊎ ((is_grant_met granted n r x && (is_grant_settled r x || x.plsp == 0)) ≡ true) → (is_path_of n r.plsp x ≡ true) ⊎ ((x.plsp == 0) ≡ true)
    by (inl removed) = inl (first_of_both (is_path_of n r.plsp x) _ removed)
    by (inr met) = met_where granted n r x (first_of_both (is_grant_met granted n r x) _ met)

bound_met : (granted : Bool) (n : ℕ) (r : StateReport) (x : Path) → is_grant_bound granted n r x ≡ true → is_grant_met granted n r x ≡ true
bound_met granted n r x is = kept_met granted n r x (and_parts (is_grant_kept granted n r x) (x.plsp == 0) is).0

-- if the LSP has a grant, none is bound
none_bound : (n : ℕ) (r : StateReport) (x : Path) → (r.plsp == 0) ≡ false → is_grant_bound true n r x ≡ false
none_bound n r x bound = false_from_ne_true _ (λ is.
    let zero = (and_parts (is_grant_kept true n r x) (x.plsp == 0) is).1 in
    let of = and_parts (x.peer == n) (x.plsp == r.plsp) (and_parts (is_path_of n r.plsp x) (not (is_reported x.part)) (bound_met true n r x is)).0 in
    both_ways (r.plsp == 0) bound (ap (λ (k : ℕ). k == 0) (sym (eqb-true x.plsp r.plsp of.1)) ∙ zero))

-- what a removal adds
record Binds (base : Lsps) (n : ℕ) (r : StateReport) (added : List Path) : Type 0 where
  few : (m q : ℕ) → (q == 0) ≡ false → count (is_grant_of m q) base.paths + count (is_grant_of m q) added ≤ 1
  here : is_nil added ≡ false → 1 ≤ count (is_path_of n r.plsp) added

first_passes : (t : Path → Bool) (f : Path → Path) (p : Path → Bool) (xs : List Path) → ((x : Path) → t x ≡ true → p (f x) ≡ true) → is_nil (map f (filter t xs)) ≡ false → 1 ≤ count p (map f (filter t xs))
first_passes t f p [] passes some = absurd (cc (some))
first_passes t f p (x ∷ xs) passes some = by (t x) refl some (first_passes t f p xs passes)
  where
    by : (b : Bool) → t x ≡ b → is_nil (map f (cond b (x ∷ filter t xs) (filter t xs))) ≡ false → (is_nil (map f (filter t xs)) ≡ false → 1 ≤ count p (map f (filter t xs))) → 1 ≤ count p (map f (cond b (x ∷ filter t xs) (filter t xs)))
    by true is some rest = let e = ap one (passes x is) in omega (arith, e)
    by false is some rest = rest some

binds_few : (granted : Bool) (base : Lsps) (n : ℕ) (r : StateReport) → has_grant base.paths n r.plsp ≡ granted → (r.plsp == 0) ≡ false → HasPaths base → (m q : ℕ) → (q == 0) ≡ false → count (is_grant_of m q) base.paths + count (is_grant_of m q) (map (bound_grant r) (filter (is_grant_bound granted n r) base.paths)) ≤ 1
binds_few true base n r has bound h m q q_bound =
    let mapped = count-map (is_grant_of m q) (bound_grant r) (filter (is_grant_bound true n r) base.paths) in
    let none = none_chosen (λ (x : Path). is_grant_of m q (bound_grant r x)) (is_grant_bound true n r) (λ x is. absurd (both_ways (is_grant_bound true n r x) (none_bound n r x bound) is)) base.paths in
    let few = h.grants m q q_bound in
    omega (arith, mapped, none, few)
binds_few false base n r has bound h m q q_bound = by (n == m && r.plsp == q) refl
  where
    added : List Path
    added = map (bound_grant r) (filter (is_grant_bound false n r) base.paths)

    by : (b : Bool) → (n == m && r.plsp == q) ≡ b → count (is_grant_of m q) base.paths + count (is_grant_of m q) added ≤ 1
    by true is = both_are n m r.plsp q (λ i j. count (is_grant_of i j) base.paths + count (is_grant_of i j) added ≤ 1) is (
        let none = count_of_none (is_grant_of n r.plsp) base.paths has in
        let few = kept_few false base n r (is_grant_of n r.plsp) (bound_grant r) (is_grant_bound false n r) (bound_met false n r) bound h in
        omega (arith, none, few))
    by false other =
        let none = moved_apart n r.plsp m q (bound_grant r) (is_grant_bound false n r) base.paths (λ x. refl) (λ x. refl) (λ x is. met_own false n r x (bound_met false n r x is)) other in
        let few = h.grants m q q_bound in
        omega (arith, none, few)

binds : (zero : Bool) (granted : Bool) (base : Lsps) (n : ℕ) (r : StateReport) → has_grant base.paths n r.plsp ≡ granted → (r.plsp == 0) ≡ false → HasPaths base → Binds base n r (if zero then [] else map (bound_grant r) (filter (is_grant_bound granted n r) base.paths))
binds true granted base n r has bound h = record { few = λ m q q_bound. (let few = h.grants m q q_bound in omega (arith, few)); here = λ some. absurd (cc (some)) }
binds false granted base n r has bound h = record {
  few = binds_few granted base n r has bound h;
  here = first_passes (is_grant_bound granted n r) (bound_grant r) (is_path_of n r.plsp) base.paths (λ x is. and_from (x.peer == n) (r.plsp == r.plsp) (met_own granted n r x (bound_met granted n r x is)) (eq-eqb r.plsp r.plsp refl));
}

-- the record of the LSP is removed if no path of it stays
module _ (base : Lsps) (n : ℕ) (r : StateReport) (goes : Path → Bool) (h : HasPaths base) (where_goes : (x : Path) → goes x ≡ true → (is_path_of n r.plsp x ≡ true) ⊎ ((x.plsp == 0) ≡ true)) where
  left_own : (added : List Path) (nil stays : Bool) → is_nil added ≡ nil → (nil ≡ false → 1 ≤ count (is_path_of n r.plsp) added) → list_any (λ x. not (goes x) && is_path_of n r.plsp x) base.paths ≡ stays
      → count (is_record_of n r.plsp) (set_records n base.records (if nil then (if stays then [] else record { plsp = r.plsp; lsp = None } ∷ []) else [])) ≤ count (is_path_of n r.plsp) (without base.paths (filter goes base.paths) ++ added)
  left_own added true true is here stays =
      let some = some_of (λ (x : Path). not (goes x) && is_path_of n r.plsp x) base.paths stays in
      let split = count-split (is_path_of n r.plsp) goes base.paths in
      let paths = count-exchanged (is_path_of n r.plsp) base.paths (filter goes base.paths) added (has_filter goes base.paths) in
      let few = once base h.distinct n r.plsp in
      omega (arith, some, split, paths, few)
  left_own added true false is here stays =
      let one_is = ap one (eq-eqb r.plsp r.plsp refl) in
      let few = once base h.distinct n r.plsp in
      let gone = taken_all n r.plsp base.records (record { plsp = r.plsp; lsp = None } ∷ []) (refl, tt) few (omega (arith, few, one_is)) in
      omega (arith, gone)
  left_own added false stays is here stays_is =
      let more = here refl in
      let paths = count-exchanged (is_path_of n r.plsp) base.paths (filter goes base.paths) added (has_filter goes base.paths) in
      let fewer = count-filtered (is_path_of n r.plsp) goes base.paths in
      let few = once base h.distinct n r.plsp in
      omega (arith, more, paths, fewer, few)

  left_takes : (nil stays : Bool) → AllTake (if nil then (if stays then [] else record { plsp = r.plsp; lsp = None } ∷ []) else [])
  left_takes true true = tt
  left_takes true false = (refl, tt)
  left_takes false stays = tt

  left_others : (added : List Path) (cs : List RecordChange) → AllTake cs → (m q : ℕ) → (q == 0) ≡ false → (n == m && r.plsp == q) ≡ false → count (is_record_of m q) (set_records n base.records cs) ≤ count (is_path_of m q) (without base.paths (filter goes base.paths) ++ added)
  left_others added cs take m q q_bound other =
      let paths = count-exchanged (is_path_of m q) base.paths (filter goes base.paths) added (has_filter goes base.paths) in
      let none = none_chosen (is_path_of m q) goes (λ x is. apart_from n r.plsp m q x other q_bound (where_goes x is)) base.paths in
      let fewer = take-fewer n m q base.records cs take in
      let before = h.kept m q q_bound in
      omega (arith, paths, none, fewer, before)

removal_by-keeps : (granted : Bool) (base : Lsps) (n : ℕ) (r : StateReport) → has_grant base.paths n r.plsp ≡ granted → (r.plsp == 0) ≡ false → HasPaths base → KeepsPaths base n (removal_effect_by granted base n r)
unfolding changed removal_effect_by
removal_by-keeps granted base n r has bound h = record {
  grants = λ m q q_bound. (
      let paths = count-exchanged (is_grant_of m q) base.paths (filter (goes_by_removal granted n r) base.paths) (bound_grants granted base.paths n r) (has_filter (goes_by_removal granted n r) base.paths) in
      let few = adds.few m q q_bound in
      omega (arith, paths, few));
  kept = λ m q q_bound. by m q q_bound (n == m && r.plsp == q) refl;
}
  where
    adds : Binds base n r (bound_grants granted base.paths n r)
    adds = binds (are_zero (identifiers_of r)) granted base n r has bound h

    cs : List RecordChange
    cs = records_left base.paths n r.plsp (goes_by_removal granted n r) (bound_grants granted base.paths n r)

    by : (m q : ℕ) → (q == 0) ≡ false → (b : Bool) → (n == m && r.plsp == q) ≡ b → count (is_record_of m q) (set_records n base.records cs) ≤ count (is_path_of m q) (without base.paths (filter (goes_by_removal granted n r) base.paths) ++ bound_grants granted base.paths n r)
    by m q q_bound true is = both_are n m r.plsp q (λ i j. count (is_record_of i j) (set_records n base.records cs) ≤ count (is_path_of i j) (without base.paths (filter (goes_by_removal granted n r) base.paths) ++ bound_grants granted base.paths n r)) is
        (left_own base n r (goes_by_removal granted n r) h (removed_where granted n r) (bound_grants granted base.paths n r) (is_nil (bound_grants granted base.paths n r)) _ refl adds.here refl)
    by m q q_bound false other = left_others base n r (goes_by_removal granted n r) h (removed_where granted n r) (bound_grants granted base.paths n r) cs (left_takes base n r (goes_by_removal granted n r) h (removed_where granted n r) (is_nil (bound_grants granted base.paths n r)) _) m q q_bound other

-- ---- any report

either-of : (base : Lsps) (n : ℕ) (removes : Bool) (removal report : Effect) → KeepsPaths base n removal → KeepsPaths base n report → KeepsPaths base n (if removes then removal else report)
either-of base n true removal report a b = a
either-of base n false removal report a b = b

reported-keeps : (base : Lsps) (te : Ted) (n : ℕ) (r : StateReport) → (r.plsp == 0) ≡ false → HasPaths base → KeepsPaths base n (reported_effect base te n r)
unfolding reported_effect
reported-keeps base te n r bound h = either-of base n r.remove _ _ (removal_by-keeps (has_grant base.paths n r.plsp) base n r refl bound h) (report_by-keeps (has_grant base.paths n r.plsp) base te n r refl bound h)

allowed-keeps : (base : Lsps) (n : ℕ) (e given : Effect) (many : Bool) → KeepsPaths base n given → (if many then Err TooManyPaths else Ok given) ≡ Ok e → KeepsPaths base n e
allowed-keeps base n e given true keeps is = absurd (cc (is))
allowed-keeps base n e given false keeps is = let same : given ≡ e = cc in subst (KeepsPaths base n) same keeps

result-keeps : (base : Lsps) (n : ℕ) (e given : Effect) (zero last : Bool) → (zero ≡ false → KeepsPaths base n given) → (if zero || last then Err BadReport else allowed base given) ≡ Ok e → KeepsPaths base n e
result-keeps base n e given true last keeps is = absurd (cc (is))
result-keeps base n e given false true keeps is = absurd (cc (is))
result-keeps base n e given false false keeps is = allowed-keeps base n e given (is_too_many base given) (keeps refl) is

pub report-keeps : (base : Lsps) (te : Ted) (n : ℕ) (r : StateReport) (e : Effect) → HasPaths base → report_result base te n r ≡ Ok e → KeepsPaths base n e
unfolding report_result
report-keeps base te n r e h is = result-keeps base n e (reported_effect base te n r) (r.plsp == 0) (r.plsp == 0xFFFFF) (λ bound. reported-keeps base te n r bound h) is
