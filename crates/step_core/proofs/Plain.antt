-- Effects of events that ask a peer for nothing: they add no grant, no awaited removal, and no record of PLSP-ID 0.
use Rattle.std.proofs.Common.{◌≡◌, ◌≤◌, ◌==◌, ◌&&◌, ◌||◌, ℕ, ◌+◌, Bool, true, false, not, List, [], ◌∷◌, ◌++◌, map, filter, refl, ap, ◌∙◌, subst, arith}
use Rattle.std.specs.Prelude.{Option, Some, None, Ok, Err, is_some, if◌then◌else◌}
use Rattle.std.proofs.lemmas.Bool.{and_parts}
use Rattle.lsp_words.specs.declared.object.Capabilities.{Capabilities}
use Rattle.pcep_messages.specs.declared.message.StateReport.{StateReport}
use Rattle.te_base.specs.Ted.{Ted}
use Rattle.lsp_base.specs.Lsps.{Lsps, HasAll, ended_records, dropping, lsp_at, no_effect, set_records, taking}
use Rattle.lsp_base.specs.Grants.{has_grant, has_srp, is_unbound_grant}
use Rattle.lsp_base.specs.Pending.{is_grant_as, is_removed_as}
use Rattle.lsp_base.specs.declared.lsp.Lsp.{Lsp}
use Rattle.lsp_base.specs.declared.path.Path.{Path}
use Rattle.lsp_base.specs.declared.effect.Effect.{Effect}
use Rattle.lsp_base.specs.declared.effect.Record.{Record}
use Rattle.lsp_base.specs.declared.effect.RecordChange.{RecordChange}
use Rattle.lsp_base.specs.declared.why.Why.TheVariants.{BadReport, TooManyPaths}
use Rattle.lsp_base.proofs.Removal.{has_filter}
use Rattle.sync_rules.specs.Peers.{is_stale_of, is_of_peer, left_alone, marker_effect, up_effect, down_effect, expire_effect}
use Rattle.delegate_rules.specs.Reports.{are_zero, identifiers_of, reported_lsp, reported_path}
use Rattle.delegate_rules.specs.Grants.{is_grant_met, is_grant_kept, is_grant_settled, is_grant_bound, moved_grant, bound_grant}
use Rattle.delegate_rules.specs.Effects.{is_replaced, is_removed, is_nil, goes_by_report, report_effect_by, goes_by_removal, removal_effect_by, bound_grants, reported_effect, is_too_many, allowed, one_record, report_result}
use Rattle.delegate_rules.specs.Refusals.{has_no_other, records_ended, removal_cleared, refused_by, refused_effect}
use Rattle.step_core.specs.Consistent.{count}
use Rattle.step_core.proofs.Counts.{one, count-filtered, count-map, count-none, count-part}
use Rattle.step_core.proofs.RecordCounts.{AwaitNone, AwaitNone-map, put-same, set_awaiting_none, sets_none}

-- what holds of the effect of an event that asks its peer for nothing
pub record IsPlain (base : Lsps) (n : ℕ) (e : Effect) : Type 0 where
  pub has : HasAll base.paths e.change.dropped
  pub grants : (m srp : ℕ) → count (is_grant_as m srp) e.change.added ≤ count (is_grant_as m srp) e.change.dropped
  pub unbound : (m srp : ℕ) → count (is_unbound_grant m (Some srp)) e.change.added ≡ 0
  pub removals : (m srp : ℕ) → count (is_removed_as m srp) (set_records n base.records e.records) ≤ count (is_removed_as m srp) base.records
  pub numbered : count sets_none e.records ≡ 0

-- no record of the list has PLSP-ID 0
abbrev pub AreNumbered : List Record → Type 0
AreNumbered rs = count (λ r. r.plsp == 0) rs ≡ 0

-- changes of existing records set none of PLSP-ID 0
no_more : (f : Record → RecordChange) → ((r : Record) → (f r).plsp ≡ r.plsp) → (test : Record → Bool) (rs : List Record) → AreNumbered rs → count sets_none (map f (filter test rs)) ≡ 0
no_more f same test rs none =
    let mapped = count-map sets_none f (filter test rs) in
    let fewer = fewer_both (filter test rs) in
    let part = count-filtered (λ (r : Record). r.plsp == 0) test rs in
    omega (arith, mapped, fewer, part, none)
  where
    by : (a b c : Bool) → b ≡ c → one (a && b) ≤ one c
    by true true c is = let e = ap one is in omega (arith, e)
    by true false c is = omega arith
    by false b c is = omega arith

    fewer_both : (xs : List Record) → count (λ x. sets_none (f x)) xs ≤ count (λ r. r.plsp == 0) xs
    fewer_both [] = omega arith
    fewer_both (x ∷ xs) = let here = by (is_some (f x).lsp) ((f x).plsp == 0) (x.plsp == 0) (ap (λ (k : ℕ). k == 0) (same x)) in let rest = fewer_both xs in omega (arith, here, rest)

has_none : (paths : List Path) → HasAll paths []
has_none paths x = omega arith

-- ---- the life of a session

dropping-plain : (base : Lsps) (n : ℕ) (test : Path → Bool) → AreNumbered base.records → IsPlain base n (dropping base n test)
unfolding dropping
dropping-plain base n test numbered = record {
  has = has_filter test base.paths;
  grants = λ m srp. omega arith;
  unbound = λ m srp. refl;
  removals = λ m srp. set_awaiting_none m srp n base.records (ended_records base n test) (AwaitNone-map taking (λ r. tt) _);
  numbered = no_more taking (λ r. refl) _ base.records numbered;
}

pub marker-plain : (base : Lsps) (n : ℕ) → AreNumbered base.records → IsPlain base n (marker_effect base n)
unfolding marker_effect
marker-plain base n numbered = dropping-plain base n (is_stale_of n) numbered

pub expire-plain : (base : Lsps) (n : ℕ) → AreNumbered base.records → IsPlain base n (expire_effect base n)
unfolding expire_effect
expire-plain base n numbered = dropping-plain base n (is_of_peer n) numbered

pub no_effect-plain : (base : Lsps) (n : ℕ) → IsPlain base n no_effect
no_effect-plain base n = record { has = has_none base.paths; grants = λ m srp. omega arith; unbound = λ m srp. refl; removals = λ m srp. omega arith; numbered = refl }

pub up-plain : (base : Lsps) (n : ℕ) (sent : Option Capabilities) → AreNumbered base.records → IsPlain base n (up_effect base n sent)
unfolding up_effect
up-plain base n None numbered = marker-plain base n numbered
up-plain base n (Some c) numbered = no_effect-plain base n

pub down-plain : (base : Lsps) (n : ℕ) → AreNumbered base.records → IsPlain base n (down_effect base n)
unfolding down_effect
down-plain base n numbered = record {
  has = has_none base.paths;
  grants = λ m srp. omega arith;
  unbound = λ m srp. refl;
  removals = λ m srp. set_awaiting_none m srp n base.records (map left_alone (filter (λ r. r.peer == n) base.records)) (AwaitNone-map left_alone (λ r. refl) _);
  numbered = no_more left_alone (λ r. refl) (λ r. r.peer == n) base.records numbered;
}

-- ---- reports

or_right : (a b : Bool) → b ≡ true → (a || b) ≡ true
or_right true b is = refl
or_right false b is = is

or_left : (a b : Bool) → a ≡ true → (a || b) ≡ true
or_left true b is = refl
or_left false b is = absurd (cc (is))

and_false : (b : Bool) → (b && false) ≡ false
and_false true = refl
and_false false = refl

-- the reported path is no grant
not_a_grant : (te : Ted) (m srp n : ℕ) (r : StateReport) → is_grant_as m srp (reported_path te n r) ≡ false
unfolding reported_path
not_a_grant te m srp n r = and_false (n == m)

not_unbound : (te : Ted) (m srp n : ℕ) (r : StateReport) → is_unbound_grant m (Some srp) (reported_path te n r) ≡ false
unfolding reported_path
not_unbound te m srp n r = and_false (n == m && r.plsp == 0)

-- a grant that a report binds isn't unbound any more
bound_one : (m srp plsp : ℕ) (x y : Path) → y.plsp ≡ plsp → (plsp == 0) ≡ false → is_unbound_grant m (Some srp) y ≡ false
bound_one m srp plsp x y is bound = ap (λ (k : ℕ). y.peer == m && k == 0 && has_srp (Some srp) y.part) is ∙ ap (λ (b : Bool). y.peer == m && b && has_srp (Some srp) y.part) bound ∙ by (y.peer == m) (has_srp (Some srp) y.part)
  where
    by : (a b : Bool) → (a && false && b) ≡ false
    by true b = refl
    by false b = refl

pub sets_numbered : (plsp : ℕ) (lsp : Lsp) → (plsp == 0) ≡ false → count sets_none (one_record plsp lsp) ≡ 0
sets_numbered plsp lsp is = let e = ap one is in omega (arith, e)

kept_goes : (granted : Bool) (n : ℕ) (r : StateReport) (x : Path) → is_grant_kept granted n r x ≡ true → goes_by_report granted n r x ≡ true
kept_goes granted n r x is = or_right (is_replaced n r x) (is_grant_met granted n r x) (and_parts (is_grant_met granted n r x) (not (is_grant_settled r x)) is).0

report_by-plain : (granted : Bool) (base : Lsps) (te : Ted) (n : ℕ) (r : StateReport) → (r.plsp == 0) ≡ false → IsPlain base n (report_effect_by granted (lsp_at base.records n r.plsp) base.paths te n r)
unfolding report_effect_by reported_lsp
report_by-plain granted base te n r bound = record {
  has = has_filter (goes_by_report granted n r) base.paths;
  grants = λ m srp. (
      let first = ap one (not_a_grant te m srp n r) in
      let moved = count-map (is_grant_as m srp) (moved_grant n r) (filter (is_grant_kept granted n r) base.paths) in
      let part = count-part (is_grant_as m srp) (is_grant_kept granted n r) (goes_by_report granted n r) (kept_goes granted n r) base.paths in
      omega (arith, first, moved, part));
  unbound = λ m srp. (
      let first = ap one (not_unbound te m srp n r) in
      let moved = count-map (is_unbound_grant m (Some srp)) (moved_grant n r) (filter (is_grant_kept granted n r) base.paths) in
      let none = count-none (λ (x : Path). is_unbound_grant m (Some srp) (moved_grant n r x)) (λ x. bound_one m srp r.plsp x (moved_grant n r x) refl bound) (filter (is_grant_kept granted n r) base.paths) in
      omega (arith, first, moved, none));
  removals = λ m srp. put-same m srp n r.plsp (reported_lsp n r (lsp_at base.records n r.plsp)) base.records refl;
  numbered = sets_numbered r.plsp (reported_lsp n r (lsp_at base.records n r.plsp)) bound;
}

-- ---- removals

bound_goes : (granted : Bool) (n : ℕ) (r : StateReport) (x : Path) → is_grant_bound granted n r x ≡ true → goes_by_removal granted n r x ≡ true
bound_goes granted n r x is =
    let both = and_parts (is_grant_kept granted n r x) (x.plsp == 0) is in
    let met = (and_parts (is_grant_met granted n r x) (not (is_grant_settled r x)) both.0).0 in
    or_right (is_removed n r x) _ (ap (λ (b : Bool). b && (is_grant_settled r x || x.plsp == 0)) met ∙ or_right (is_grant_settled r x) (x.plsp == 0) both.1)

record BindsOwn (base : Lsps) (granted : Bool) (n : ℕ) (r : StateReport) (added : List Path) : Type 0 where
  grants : (m srp : ℕ) → count (is_grant_as m srp) added ≤ count (is_grant_as m srp) (filter (goes_by_removal granted n r) base.paths)
  unbound : (m srp : ℕ) → count (is_unbound_grant m (Some srp)) added ≡ 0

binds_own : (zero : Bool) (granted : Bool) (base : Lsps) (n : ℕ) (r : StateReport) → (r.plsp == 0) ≡ false → BindsOwn base granted n r (if zero then [] else map (bound_grant r) (filter (is_grant_bound granted n r) base.paths))
binds_own true granted base n r bound = record { grants = λ m srp. omega arith; unbound = λ m srp. refl }
binds_own false granted base n r bound = record {
  grants = λ m srp. (
      let moved = count-map (is_grant_as m srp) (bound_grant r) (filter (is_grant_bound granted n r) base.paths) in
      let part = count-part (is_grant_as m srp) (is_grant_bound granted n r) (goes_by_removal granted n r) (bound_goes granted n r) base.paths in
      omega (arith, moved, part));
  unbound = λ m srp. count-map (is_unbound_grant m (Some srp)) (bound_grant r) (filter (is_grant_bound granted n r) base.paths) ∙ count-none (λ (x : Path). is_unbound_grant m (Some srp) (bound_grant r x)) (λ x. bound_one m srp r.plsp x (bound_grant r x) refl bound) (filter (is_grant_bound granted n r) base.paths);
}

-- records that are removed
record Takes (cs : List RecordChange) : Type 0 where
  none : AwaitNone cs
  numbered : count sets_none cs ≡ 0

ended-takes : (stays : Bool) (plsp : ℕ) → Takes (if stays then [] else record { plsp = plsp; lsp = None } ∷ [])
ended-takes true plsp = record { none = tt; numbered = refl }
ended-takes false plsp = record { none = (tt, tt); numbered = refl }

left-takes : (nil : Bool) (stays : Bool) (plsp : ℕ) → Takes (if nil then (if stays then [] else record { plsp = plsp; lsp = None } ∷ []) else [])
left-takes true stays plsp = ended-takes stays plsp
left-takes false stays plsp = record { none = tt; numbered = refl }

removal_by-plain : (granted : Bool) (base : Lsps) (n : ℕ) (r : StateReport) → (r.plsp == 0) ≡ false → IsPlain base n (removal_effect_by granted base n r)
unfolding removal_effect_by
removal_by-plain granted base n r bound =
    let own = binds_own (are_zero (identifiers_of r)) granted base n r bound in
    let takes = left-takes (is_nil (bound_grants granted base.paths n r)) _ r.plsp in
    record {
      has = has_filter (goes_by_removal granted n r) base.paths;
      grants = own.grants;
      unbound = own.unbound;
      removals = λ m srp. set_awaiting_none m srp n base.records _ takes.none;
      numbered = takes.numbered;
    }

either-of : (base : Lsps) (n : ℕ) (removes : Bool) (removal report : Effect) → IsPlain base n removal → IsPlain base n report → IsPlain base n (if removes then removal else report)
either-of base n true removal report a b = a
either-of base n false removal report a b = b

reported-plain : (base : Lsps) (te : Ted) (n : ℕ) (r : StateReport) → (r.plsp == 0) ≡ false → IsPlain base n (reported_effect base te n r)
unfolding reported_effect
reported-plain base te n r bound = either-of base n r.remove _ _ (removal_by-plain (has_grant base.paths n r.plsp) base n r bound) (report_by-plain (has_grant base.paths n r.plsp) base te n r bound)

allowed-plain : (base : Lsps) (n : ℕ) (e given : Effect) (many : Bool) → IsPlain base n given → (if many then Err TooManyPaths else Ok given) ≡ Ok e → IsPlain base n e
allowed-plain base n e given true plain is = absurd (cc (is))
allowed-plain base n e given false plain is = let same : given ≡ e = cc in subst (IsPlain base n) same plain

result-plain : (base : Lsps) (n : ℕ) (e given : Effect) (zero last : Bool) → (zero ≡ false → IsPlain base n given) → (if zero || last then Err BadReport else allowed base given) ≡ Ok e → IsPlain base n e
result-plain base n e given true last plain is = absurd (cc (is))
result-plain base n e given false true plain is = absurd (cc (is))
result-plain base n e given false false plain is = allowed-plain base n e given (is_too_many base given) (plain refl) is

pub report-plain : (base : Lsps) (te : Ted) (n : ℕ) (r : StateReport) (e : Effect) → report_result base te n r ≡ Ok e → IsPlain base n e
unfolding report_result
report-plain base te n r e is = result-plain base n e (reported_effect base te n r) (r.plsp == 0) (r.plsp == 0xFFFFF) (λ bound. reported-plain base te n r bound) is

-- ---- what a peer refuses, and what is given back to it

record_ended-takes : (base : Lsps) (n srp : ℕ) (grants : List Path) → Takes (records_ended base n srp grants)
record_ended-takes base n srp [] = record { none = tt; numbered = refl }
record_ended-takes base n srp (g ∷ grants) = by (is_some (lsp_at base.records n g.plsp) && has_no_other base.paths n srp g.plsp) (record_ended-takes base n srp grants)
  where
    by : (b : Bool) → Takes (records_ended base n srp grants) → Takes ((if b then record { plsp = g.plsp; lsp = None } ∷ [] else []) ++ records_ended base n srp grants)
    by true rest = record { none = (tt, rest.none); numbered = (let more = rest.numbered in omega (arith, more)) }
    by false rest = rest

refused_by-plain : (base : Lsps) (n srp : ℕ) (grants : List Path) → HasAll base.paths grants → AreNumbered base.records → IsPlain base n (refused_by base n srp grants)
refused_by-plain base n srp [] has numbered = record {
  has = has_none base.paths;
  grants = λ m k. omega arith;
  unbound = λ m k. refl;
  removals = λ m k. set_awaiting_none m k n base.records (map removal_cleared (filter (is_removed_as n srp) base.records)) (AwaitNone-map removal_cleared (λ r. refl) _);
  numbered = no_more removal_cleared (λ r. refl) (is_removed_as n srp) base.records numbered;
}
refused_by-plain base n srp (g ∷ grants) has numbered =
    let takes = record_ended-takes base n srp (g ∷ grants) in
    record {
      has = has;
      grants = λ m k. omega arith;
      unbound = λ m k. refl;
      removals = λ m k. set_awaiting_none m k n base.records (records_ended base n srp (g ∷ grants)) takes.none;
      numbered = takes.numbered;
    }

pub refused-plain : (base : Lsps) (n srp : ℕ) → AreNumbered base.records → IsPlain base n (refused_effect base n srp)
unfolding refused_effect
refused-plain base n srp numbered = refused_by-plain base n srp _ (has_filter (is_grant_as n srp) base.paths) numbered
