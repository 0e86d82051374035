-- After a peer refused something, each record still has a path.
use Rattle.std.proofs.Common.{◌≡◌, ◌≤◌, ◌==◌, ◌&&◌, ℕ, ◌+◌, Bool, true, false, cond, not, List, [], ◌∷◌, ◌++◌, map, filter, find, option_map, refl, sym, ap, ◌∙◌, subst, arith}
use Rattle.std.specs.Prelude.{Some, None, is_some, if◌then◌else◌}
use Rattle.std.specs.List.{list_any}
use Rattle.std.proofs.lemmas.Bool.{and_from, and_parts, eqb-true, eq-eqb}
use Rattle.lsp_base.specs.Lsps.{Lsps, HasAll, changed, is_path_of, is_record_of, lsp_at, set_records, without}
use Rattle.lsp_base.specs.Grants.{is_grant_of}
use Rattle.lsp_base.specs.Pending.{is_grant_as, is_removed_as}
use Rattle.lsp_base.specs.declared.path.Path.{Path}
use Rattle.lsp_base.specs.declared.effect.Record.{Record}
use Rattle.lsp_base.specs.declared.effect.RecordChange.{RecordChange}
use Rattle.lsp_base.proofs.Removal.{has_filter}
use Rattle.delegate_rules.specs.Refusals.{has_no_other, record_ended, records_ended, refused_by, refused_effect, removal_cleared}
use Rattle.step_core.specs.Consistent.{count}
use Rattle.step_core.proofs.Counts.{one, count-append, count-exchanged, count_of_none}
use Rattle.step_core.proofs.Kept.{HasPaths, KeepsPaths, chosen-there, count-split, none_chosen, not_of, once, sets-keep, some_of, take-fewer}
use Rattle.step_core.proofs.Others.{first_of_both}
use Rattle.step_core.proofs.RecordCounts.{AllTake, taken_all}

-- ---- a refusal

known_some : (n q : ℕ) (rs : List Record) → 1 ≤ count (is_record_of n q) rs → is_some (lsp_at rs n q) ≡ true
known_some n q [] there = absurd (omega (arith, there))
known_some n q (r ∷ rs) there = by (is_record_of n q r) there (known_some n q rs)
  where
    by : (b : Bool) → 1 ≤ one b + count (is_record_of n q) rs → (1 ≤ count (is_record_of n q) rs → is_some (lsp_at rs n q) ≡ true) → is_some (option_map (λ (k : Record). k.lsp) (cond b (Some r) (find (is_record_of n q) rs))) ≡ true
    by true there rest = refl
    by false there rest = rest (omega (arith, there))

ended-takes : (base : Lsps) (n srp : ℕ) (grants : List Path) → AllTake (records_ended base n srp grants)
ended-takes base n srp [] = tt
ended-takes base n srp (g ∷ grants) = by (is_some (lsp_at base.records n g.plsp) && has_no_other base.paths n srp g.plsp) (ended-takes base n srp grants)
  where
    by : (b : Bool) → AllTake (records_ended base n srp grants) → AllTake ((if b then record { plsp = g.plsp; lsp = None } ∷ [] else []) ++ records_ended base n srp grants)
    by true rest = (refl, rest)
    by false rest = rest

-- the record of an LSP whose last paths are dropped is removed
ended-each : (base : Lsps) (n srp q : ℕ) (grants : List Path) → is_some (lsp_at base.records n q) ≡ true → has_no_other base.paths n srp q ≡ true → 1 ≤ count (is_path_of n q) grants → 1 ≤ count (λ c. c.plsp == q) (records_ended base n srp grants)
ended-each base n srp q [] known none some = absurd (omega (arith, some))
ended-each base n srp q (g ∷ grants) known none some = by (is_path_of n q g) refl some (ended-each base n srp q grants known none)
  where
    by : (b : Bool) → is_path_of n q g ≡ b → 1 ≤ one b + count (is_path_of n q) grants → (1 ≤ count (is_path_of n q) grants → 1 ≤ count (λ c. c.plsp == q) (records_ended base n srp grants)) → 1 ≤ count (λ c. c.plsp == q) (record_ended base n srp g ++ records_ended base n srp grants)
    by true is some rest =
        let same : g.plsp ≡ q = eqb-true g.plsp q (and_parts (g.peer == n) (g.plsp == q) is).1 in
        let both : (is_some (lsp_at base.records n g.plsp) && has_no_other base.paths n srp g.plsp) ≡ true = subst (λ (k : ℕ). (is_some (lsp_at base.records n k) && has_no_other base.paths n srp k) ≡ true) (sym same) (and_from _ _ known none) in
        let ended = ap (λ (b : Bool). count (λ (c : RecordChange). c.plsp == q) ((if b then record { plsp = g.plsp; lsp = None } ∷ [] else []) ++ records_ended base n srp grants)) both in
        let here = ap one (ap (λ (k : ℕ). k == q) same ∙ eq-eqb q q refl) in
        omega (arith, ended, here)
    by false is some rest =
        let more = rest (omega (arith, some)) in
        let parts = count-append (λ (c : RecordChange). c.plsp == q) (record_ended base n srp g) (records_ended base n srp grants) in
        omega (arith, more, parts)

refused_by-keeps : (base : Lsps) (n srp : ℕ) (grants : List Path) → filter (is_grant_as n srp) base.paths ≡ grants → HasPaths base → KeepsPaths base n (refused_by base n srp grants)
unfolding changed
refused_by-keeps base n srp [] is h = sets-keep base n (map removal_cleared (filter (is_removed_as n srp) base.records)) h (chosen-there n removal_cleared (is_removed_as n srp) base.records base.records (λ r own. first_of_both (r.peer == n) _ own) (λ r. refl) (λ r. refl) (λ q. omega arith))
refused_by-keeps base n srp (g ∷ gs) is h = record {
  grants = λ m q bound. (let paths = left (is_grant_of m q) in let few = h.grants m q bound in omega (arith, paths, few));
  kept = λ m q bound. by_peer m q bound (n == m) refl;
}
  where
    cs : List RecordChange
    cs = records_ended base n srp (g ∷ gs)

    has : HasAll base.paths (g ∷ gs)
    has = subst (λ (ds : List Path). HasAll base.paths ds) is (has_filter (is_grant_as n srp) base.paths)

    left : (p : Path → Bool) → count p base.paths + 0 ≡ count p (g ∷ gs) + count p (without base.paths (g ∷ gs) ++ [])
    left p = count-exchanged p base.paths (g ∷ gs) [] has

    by_path : (q : ℕ) → (q == 0) ≡ false → (b : Bool) → list_any (λ x. not (is_grant_as n srp x) && is_path_of n q x) base.paths ≡ b → count (is_record_of n q) (set_records n base.records cs) ≤ count (is_path_of n q) (without base.paths (g ∷ gs) ++ [])
    by_path q bound true stays =
        let some = some_of (λ (x : Path). not (is_grant_as n srp x) && is_path_of n q x) base.paths stays in
        let split = count-split (is_path_of n q) (is_grant_as n srp) base.paths in
        let same = ap (count (is_path_of n q)) is in
        let paths = left (is_path_of n q) in
        let fewer = take-fewer n n q base.records cs (ended-takes base n srp (g ∷ gs)) in
        let few = once base h.distinct n q in
        omega (arith, some, split, same, paths, fewer, few)
    by_path q bound false none =
        let stays = count_of_none (λ (x : Path). not (is_grant_as n srp x) && is_path_of n q x) base.paths none in
        let split = count-split (is_path_of n q) (is_grant_as n srp) base.paths in
        let same = ap (count (is_path_of n q)) is in
        let before = h.kept n q bound in
        let few = once base h.distinct n q in
        let each : count (is_record_of n q) base.records ≤ count (λ c. c.plsp == q) cs = known (list_any (is_record_of n q) base.records) refl (λ some. ended-each base n srp q (g ∷ gs) (known_some n q base.records some) (ap not none) (omega (arith, stays, split, same, before, some))) few in
        let gone = taken_all n q base.records cs (ended-takes base n srp (g ∷ gs)) few each in
        omega (arith, gone)
      where
        known : (b : Bool) → list_any (is_record_of n q) base.records ≡ b → (1 ≤ count (is_record_of n q) base.records → 1 ≤ count (λ c. c.plsp == q) cs) → count (is_record_of n q) base.records ≤ 1 → count (is_record_of n q) base.records ≤ count (λ c. c.plsp == q) cs
        known true any more few = let some = more (some_of (is_record_of n q) base.records any) in omega (arith, some, few)
        known false any more few = let none = count_of_none (is_record_of n q) base.records any in omega (arith, none)

    by_peer : (m q : ℕ) → (q == 0) ≡ false → (b : Bool) → (n == m) ≡ b → count (is_record_of m q) (set_records n base.records cs) ≤ count (is_path_of m q) (without base.paths (g ∷ gs) ++ [])
    by_peer m q bound true same = subst (λ (k : ℕ). count (is_record_of k q) (set_records n base.records cs) ≤ count (is_path_of k q) (without base.paths (g ∷ gs) ++ [])) (eqb-true n m same) (by_path q bound _ refl)
    by_peer m q bound false other =
        let paths = left (is_path_of m q) in
        let none = none_chosen (is_path_of m q) (is_grant_as n srp) (λ x of. not_of m n q x other (first_of_both (x.peer == n) _ of)) base.paths in
        let same = ap (count (is_path_of m q)) is in
        let fewer = take-fewer n m q base.records cs (ended-takes base n srp (g ∷ gs)) in
        let before = h.kept m q bound in
        omega (arith, paths, none, same, fewer, before)

pub refused-keeps : (base : Lsps) (n srp : ℕ) → HasPaths base → KeepsPaths base n (refused_effect base n srp)
unfolding refused_effect
refused-keeps base n srp h = refused_by-keeps base n srp _ refl h
