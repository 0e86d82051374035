-- How many records pass a test when some are set and removed.
use Rattle.std.proofs.Common.{◌≡◌, ◌≤◌, ◌==◌, ◌&&◌, ℕ, ◌+◌, Bool, true, false, cond, List, [], ◌∷◌, map, find, option_map, Option, Some, None, refl, sym, ap, ◌∙◌, arith}
use Rattle.std.specs.Prelude.{IfSome, is_some}
use Rattle.std.proofs.lemmas.Bool.{and_from, and_parts, both_ways, eq-eqb, eqb-true, false_from_ne_true}
use Rattle.lsp_base.specs.Lsps.{is_record_of, lsp_at, put, set_record, set_records, taking, without_first}
use Rattle.lsp_base.specs.Grants.{is_number}
use Rattle.lsp_base.specs.Pending.{is_removed_as}
use Rattle.lsp_base.specs.declared.lsp.Lsp.{Lsp}
use Rattle.lsp_base.specs.declared.effect.Record.{Record}
use Rattle.lsp_base.specs.declared.effect.RecordChange.{RecordChange}
use Rattle.delegate_rules.specs.Reports.{old_removing}
use Rattle.step_core.specs.Consistent.{count}
use Rattle.step_core.proofs.Counts.{one, without_first-fewer, without_first-one, without_first-other}

abbrev pub record_set : ℕ → ℕ → Lsp → Record
record_set n plsp lsp = record { peer = n; plsp = plsp; lsp = lsp }

-- setting a record adds at most one
pub put-more : (p : Record → Bool) (n plsp : ℕ) (lsp : Lsp) (rs : List Record) → count p (put rs n plsp lsp) ≤ count p rs + one (p (record_set n plsp lsp))
put-more p n plsp lsp [] = omega arith
put-more p n plsp lsp (r ∷ rs) = by (is_record_of n plsp r) (put-more p n plsp lsp rs)
  where
    by : (b : Bool) → count p (put rs n plsp lsp) ≤ count p rs + one (p (record_set n plsp lsp)) → count p (cond b (record_set n plsp lsp ∷ rs) (r ∷ put rs n plsp lsp)) ≤ one (p r) + count p rs + one (p (record_set n plsp lsp))
    by true rest = omega arith
    by false rest = omega (arith, rest)

-- setting a record that awaits the same removal as before adds none
pub put-same : (m srp n plsp : ℕ) (lsp : Lsp) (rs : List Record) → old_removing (lsp_at rs n plsp) ≡ lsp.removing → count (is_removed_as m srp) (put rs n plsp lsp) ≤ count (is_removed_as m srp) rs
put-same m srp n plsp lsp [] same = by (n == m) (lsp.removing) same
  where
    by : (b : Bool) (o : Option ℕ) → None ≡ o → one (b && is_number o srp) + 0 ≤ 0
    by true None is = omega arith
    by false None is = omega arith
    by b (Some k) is = absurd (cc (is))
put-same m srp n plsp lsp (r ∷ rs) same = by (is_record_of n plsp r) refl same (put-same m srp n plsp lsp rs)
  where
    p : Record → Bool
    p = is_removed_as m srp

    by : (b : Bool) → is_record_of n plsp r ≡ b → old_removing (option_map (λ (q : Record). q.lsp) (cond b (Some r) (find (is_record_of n plsp) rs))) ≡ lsp.removing
        → (old_removing (lsp_at rs n plsp) ≡ lsp.removing → count (is_removed_as m srp) (put rs n plsp lsp) ≤ count (is_removed_as m srp) rs)
        → count (is_removed_as m srp) (cond b (record_set n plsp lsp ∷ rs) (r ∷ put rs n plsp lsp)) ≤ one (is_removed_as m srp r) + count (is_removed_as m srp) rs
    by true is known rest =
        let peer : r.peer ≡ n = eqb-true r.peer n (and_parts (r.peer == n) (r.plsp == plsp) is).0 in
        let here : is_removed_as m srp (record_set n plsp lsp) ≡ is_removed_as m srp r = sym (ap (λ (k : ℕ). k == m && is_number (r.lsp).removing srp) peer ∙ ap (λ (o : Option ℕ). n == m && is_number o srp) known) in
        let e = ap one here in
        omega (arith, e)
    by false is known rest = let more = rest known in omega (arith, more)

-- none of the changes awaits a removal
abbrev pub AwaitNone : List RecordChange → Type 0
AwaitNone [] = Unit {0}
AwaitNone (c ∷ cs) = IfSome c.lsp (λ lsp. lsp.removing ≡ None) × AwaitNone cs

set-awaiting : (m srp n : ℕ) (rs : List Record) (plsp : ℕ) (lsp : Option Lsp) → IfSome lsp (λ l. l.removing ≡ None) → count (is_removed_as m srp) (set_record n rs plsp lsp) ≤ count (is_removed_as m srp) rs
set-awaiting m srp n rs plsp None is = without_first-fewer (is_removed_as m srp) (is_record_of n plsp) rs
set-awaiting m srp n rs plsp (Some l) is =
    let more = put-more (is_removed_as m srp) n plsp l rs in
    let none : is_removed_as m srp (record_set n plsp l) ≡ false = ap (λ (o : Option ℕ). n == m && is_number o srp) is ∙ no (n == m) in
    let e = ap one none in
    omega (arith, more, e)
  where
    no : (b : Bool) → (b && false) ≡ false
    no true = refl
    no false = refl

pub set_awaiting_none : (m srp n : ℕ) (rs : List Record) (cs : List RecordChange) → AwaitNone cs → count (is_removed_as m srp) (set_records n rs cs) ≤ count (is_removed_as m srp) rs
set_awaiting_none m srp n rs [] none = omega arith
set_awaiting_none m srp n rs (c ∷ cs) none =
    let here = set-awaiting m srp n rs c.plsp c.lsp none.0 in
    let rest = set_awaiting_none m srp n (set_record n rs c.plsp c.lsp) cs none.1 in
    omega (arith, here, rest)

pub AwaitNone-map : {X : Type 0} (f : X → RecordChange) → ((x : X) → IfSome (f x).lsp (λ lsp. lsp.removing ≡ None)) → (xs : List X) → AwaitNone (map f xs)
AwaitNone-map f none [] = tt
AwaitNone-map f none (x ∷ xs) = (none x, AwaitNone-map f none xs)

-- the change sets a record of PLSP-ID 0
abbrev pub sets_none : RecordChange → Bool
sets_none c = is_some c.lsp && c.plsp == 0

-- only a change that sets a record of PLSP-ID 0 adds one
pub set-numbered : (n : ℕ) (rs : List Record) (cs : List RecordChange) → count (λ r. r.plsp == 0) (set_records n rs cs) ≤ count (λ r. r.plsp == 0) rs + count sets_none cs
set-numbered n rs [] = omega arith
set-numbered n rs (c ∷ cs) =
    let here = by c.lsp in
    let rest = set-numbered n (set_record n rs c.plsp c.lsp) cs in
    omega (arith, here, rest)
  where
    by : (lsp : Option Lsp) → count (λ r. r.plsp == 0) (set_record n rs c.plsp lsp) ≤ count (λ r. r.plsp == 0) rs + one (is_some lsp && c.plsp == 0)
    by None = let fewer = without_first-fewer (λ (r : Record). r.plsp == 0) (is_record_of n c.plsp) rs in omega (arith, fewer)
    by (Some l) = put-more (λ r. r.plsp == 0) n c.plsp l rs

-- ---- records that are removed

-- each change removes a record
abbrev pub AllTake : List RecordChange → Type 0
AllTake [] = Unit {0}
AllTake (c ∷ cs) = (c.lsp ≡ None) × AllTake cs

pub AllTake-map : (rs : List Record) → AllTake (map taking rs)
AllTake-map [] = tt
AllTake-map (r ∷ rs) = (refl, AllTake-map rs)

same_lsp : (n plsp q : ℕ) → (plsp == q) ≡ true → (r : Record) → is_record_of n plsp r ≡ is_record_of n q r
same_lsp n plsp q is r = ap (λ (k : ℕ). is_record_of n k r) (eqb-true plsp q is)

other_lsp : (n plsp q : ℕ) → (plsp == q) ≡ false → (r : Record) → is_record_of n plsp r ≡ true → is_record_of n q r ≡ false
other_lsp n plsp q other r is = false_from_ne_true _ (λ also.
    let first : r.plsp ≡ plsp = eqb-true r.plsp plsp (and_parts (r.peer == n) (r.plsp == plsp) is).1 in
    let second = (and_parts (r.peer == n) (r.plsp == q) also).1 in
    both_ways (plsp == q) other (ap (λ (k : ℕ). k == q) (sym first) ∙ second))

-- an LSP's record is removed by a change of the LSP
pub taken_all : (n q : ℕ) (rs : List Record) (cs : List RecordChange) → AllTake cs → count (is_record_of n q) rs ≤ 1 → count (is_record_of n q) rs ≤ count (λ c. c.plsp == q) cs → count (is_record_of n q) (set_records n rs cs) ≡ 0
taken_all n q rs [] take few each = omega arith
taken_all n q rs (c ∷ cs) take few each =
    let fewer = without_first-fewer (is_record_of n q) (is_record_of n c.plsp) rs in
    let left = by (c.plsp == q) refl each in
    let step : set_record n rs c.plsp c.lsp ≡ set_record n rs c.plsp None = ap (λ (o : Option Lsp). set_record n rs c.plsp o) take.0 in
    ap (λ (xs : List Record). count (is_record_of n q) (set_records n xs cs)) step ∙ taken_all n q (set_record n rs c.plsp None) cs take.1 (omega (arith, fewer, few)) left
  where
    by : (b : Bool) → (c.plsp == q) ≡ b → count (is_record_of n q) rs ≤ one b + count (λ d. d.plsp == q) cs → count (is_record_of n q) (without_first (is_record_of n c.plsp) rs) ≤ count (λ d. d.plsp == q) cs
    by true is each = let less = without_first-one (is_record_of n q) (is_record_of n c.plsp) (same_lsp n c.plsp q is) rs in omega (arith, less, few, each)
    by false is each = let same = without_first-other (is_record_of n q) (is_record_of n c.plsp) (other_lsp n c.plsp q is) rs in omega (arith, same, each)

-- if no LSP of the peer has a record, no removal of it is awaited
pub none_awaited : (n srp : ℕ) (rs : List Record) → ((q : ℕ) → count (is_record_of n q) rs ≡ 0) → count (is_removed_as n srp) rs ≡ 0
none_awaited n srp [] none = refl
none_awaited n srp (r ∷ rs) none = by (is_removed_as n srp r) refl (none_awaited n srp rs (λ q. let h = none q in omega (arith, h)))
  where
    by : (b : Bool) → is_removed_as n srp r ≡ b → count (is_removed_as n srp) rs ≡ 0 → one b + count (is_removed_as n srp) rs ≡ 0
    by true is rest =
        let here : is_record_of n r.plsp r ≡ true = and_from (r.peer == n) (r.plsp == r.plsp) (and_parts (r.peer == n) (is_number (r.lsp).removing srp) is).0 (eq-eqb r.plsp r.plsp refl) in
        let e = ap one here in
        let h = none r.plsp in
        absurd (omega (arith, e, h))
    by false is rest = omega (arith, rest)

-- what is known has a PLSP-ID that isn't 0
pub known_numbered : (n plsp : ℕ) (lsp : Lsp) (rs : List Record) → count (λ r. r.plsp == 0) rs ≡ 0 → lsp_at rs n plsp ≡ Some lsp → (plsp == 0) ≡ false
known_numbered n plsp lsp [] numbered known = absurd (cc (known))
known_numbered n plsp lsp (r ∷ rs) numbered known = by (is_record_of n plsp r) refl known (known_numbered n plsp lsp rs (omega (arith, numbered)))
  where
    by : (b : Bool) → is_record_of n plsp r ≡ b → option_map (λ (q : Record). q.lsp) (cond b (Some r) (find (is_record_of n plsp) rs)) ≡ Some lsp → (lsp_at rs n plsp ≡ Some lsp → (plsp == 0) ≡ false) → (plsp == 0) ≡ false
    by true is here rest = false_from_ne_true _ (λ zero.
        let same : r.plsp ≡ plsp = eqb-true r.plsp plsp (and_parts (r.peer == n) (r.plsp == plsp) is).1 in
        let e = ap one (ap (λ (k : ℕ). k == 0) same ∙ zero) in
        absurd (omega (arith, e, numbered)))
    by false is later rest = rest later

-- setting a record that awaits a removal adds one of its SRP-ID
pub put_awaiting : (m k n plsp srp : ℕ) (lsp : Lsp) (rs : List Record) → lsp.removing ≡ Some srp → count (is_removed_as m k) (put rs n plsp lsp) ≤ count (is_removed_as m k) rs + one (n == m && srp == k)
put_awaiting m k n plsp srp lsp rs is =
    let more = put-more (is_removed_as m k) n plsp lsp rs in
    let e = ap one (ap (λ (o : Option ℕ). n == m && is_number o k) is) in
    omega (arith, more, e)
