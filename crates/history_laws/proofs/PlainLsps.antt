-- What events do to paths and records, and the tests of these, don't depend on local protection.
use Rattle.std.proofs.Common.{◌≡◌, ◌∙◌, ◌==◌, ◌&&◌, ◌||◌, ◌++◌, ℕ, Bool, true, false, cond, not, List, [], ◌∷◌, map, filter, find, refl, ap}
use Rattle.std.specs.Prelude.{Option, Some, None, Result, Ok, Err, is_some, option_map, if◌then◌else◌}
use Rattle.std.specs.List.{list_any}
use Rattle.lsp_words.specs.declared.object.Capabilities.{Capabilities}
use Rattle.pcep_messages.specs.declared.message.StateReport.{StateReport}
use Rattle.te_base.specs.Ted.{Ted}
use Rattle.lsp_base.specs.Grants.{has_grant}
use Rattle.lsp_base.specs.Lsps.{Lsps, changed, dropping, effect_of, has_none_left, is_path_of, is_record_of, lsp_at, put, set_record, set_records, taking, with_stale, without}
use Rattle.lsp_base.specs.Pending.{is_created, is_delegated, is_grant_as, is_removed_as, is_removing}
use Rattle.lsp_base.specs.Refusals.{unless, ◌⨟◌}
use Rattle.lsp_base.specs.declared.effect.Effect.{Effect}
use Rattle.lsp_base.specs.declared.effect.Record.{Record}
use Rattle.lsp_base.specs.declared.effect.RecordChange.{RecordChange}
use Rattle.lsp_base.specs.declared.lsp.Lsp.{Lsp}
use Rattle.lsp_base.specs.declared.path.Path.{Path}
use Rattle.lsp_base.specs.declared.why.Why.{Why}
use Rattle.lsp_base.specs.declared.why.Why.TheVariants.{BadReport, NotCreatedHere, NotDelegated, Pending, TooManyPaths, UnknownLsp}
use Rattle.sync_rules.specs.Peers.{down_effect, expire_effect, is_of_peer, is_stale_of, left_alone, marker_effect, up_effect}
use Rattle.delegate_rules.specs.Effects.{allowed, bound_grants, goes_by_removal, is_nil, is_reserved, is_too_many, records_left, removal_effect, removal_effect_by, report_effect, report_effect_by, report_result, reported_effect}
use Rattle.delegate_rules.specs.Refusals.{has_no_other, record_ended, refused_by, refused_effect, removal_cleared}
use Rattle.delegate_rules.specs.Reports.{reported_constraints, reported_lsp, reported_path}
use Rattle.delegate_rules.specs.Returns.{given_back, must_be_held}
use Rattle.initiate_rules.specs.Checks.{may_be_deleted}
use Rattle.initiate_rules.specs.Numbers.{is_srp_used}
use Rattle.history_laws.specs.Plain.{plain_lsp, plain_lsps, plain_record, plain_report}
use Rattle.history_laws.proofs.Mapped.{any-map, chosen-map, each-map, find-map, some-map, without_first-map}

abbrev pub plain_change : RecordChange → RecordChange
plain_change c = record c { lsp = option_map plain_lsp c.lsp }

abbrev pub plain_effect : Effect → Effect
plain_effect e = record e { records = map plain_change e.records }

-- ---- what is known of an LSP

pub lsp_plain : (rs : List Record) (n plsp : ℕ) → lsp_at (map plain_record rs) n plsp ≡ option_map plain_lsp (lsp_at rs n plsp)
lsp_plain rs n plsp = ap (option_map (λ (r : Record). r.lsp)) (find-map plain_record (is_record_of n plsp) (λ r. refl) rs) ∙ by (find (is_record_of n plsp) rs)
  where
    by : (o : Option Record) → option_map (λ (r : Record). r.lsp) (option_map plain_record o) ≡ option_map plain_lsp (option_map (λ (r : Record). r.lsp) o)
    by None = refl
    by (Some r) = refl

abbrev held_if : Bool → Option Lsp → Option Why
held_if granted lsp = unless (is_some lsp) UnknownLsp ⨟ unless (is_delegated lsp) NotDelegated ⨟ unless (not (granted || is_removing lsp)) Pending

held_if_plain : (granted : Bool) (lsp : Option Lsp) → held_if granted (option_map plain_lsp lsp) ≡ held_if granted lsp
held_if_plain granted None = refl
held_if_plain granted (Some lsp) = refl

pub held_plain : (b : Lsps) (n plsp : ℕ) → must_be_held (plain_lsps b) n plsp ≡ must_be_held b n plsp
held_plain b n plsp = let granted = has_grant b.paths n plsp in ap (held_if granted) (lsp_plain b.records n plsp) ∙ held_if_plain granted (lsp_at b.records n plsp)

abbrev deleted_if : Bool → Option Lsp → Option Why
deleted_if granted lsp = unless (is_some lsp) UnknownLsp ⨟ unless (is_created lsp) NotCreatedHere ⨟ unless (is_delegated lsp) NotDelegated ⨟ unless (not (granted || is_removing lsp)) Pending

deleted_if_plain : (granted : Bool) (lsp : Option Lsp) → deleted_if granted (option_map plain_lsp lsp) ≡ deleted_if granted lsp
deleted_if_plain granted None = refl
deleted_if_plain granted (Some lsp) = refl

pub deletable_plain : (b : Lsps) (n plsp : ℕ) → may_be_deleted (plain_lsps b) n plsp ≡ may_be_deleted b n plsp
deletable_plain b n plsp = let granted = has_grant b.paths n plsp in ap (deleted_if granted) (lsp_plain b.records n plsp) ∙ deleted_if_plain granted (lsp_at b.records n plsp)

pub used_plain : (b : Lsps) (n srp : ℕ) → is_srp_used (plain_lsps b) n srp ≡ is_srp_used b n srp
used_plain b n srp = ap (λ x. list_any (is_grant_as n srp) b.paths || x) (any-map plain_record (is_removed_as n srp) (λ r. refl) b.records)

-- ---- an effect

put_plain : (rs : List Record) (n plsp : ℕ) (lsp : Lsp) → put (map plain_record rs) n plsp (plain_lsp lsp) ≡ map plain_record (put rs n plsp lsp)
put_plain [] n plsp lsp = refl
put_plain (r ∷ rs) n plsp lsp = by (is_record_of n plsp r) (put_plain rs n plsp lsp)
  where
    new : Record
    new = record { peer = n; plsp = plsp; lsp = lsp }

    by : (b : Bool) → put (map plain_record rs) n plsp (plain_lsp lsp) ≡ map plain_record (put rs n plsp lsp)
        → cond b (plain_record new ∷ map plain_record rs) (plain_record r ∷ put (map plain_record rs) n plsp (plain_lsp lsp)) ≡ map plain_record (cond b (new ∷ rs) (r ∷ put rs n plsp lsp))
    by true rest = refl
    by false rest = ap (λ ys. plain_record r ∷ ys) rest

set_plain : (n : ℕ) (rs : List Record) (plsp : ℕ) (lsp : Option Lsp) → set_record n (map plain_record rs) plsp (option_map plain_lsp lsp) ≡ map plain_record (set_record n rs plsp lsp)
set_plain n rs plsp None = without_first-map plain_record (is_record_of n plsp) (λ r. refl) rs
set_plain n rs plsp (Some lsp) = put_plain rs n plsp lsp

sets_plain : (n : ℕ) (rs : List Record) (cs : List RecordChange) → set_records n (map plain_record rs) (map plain_change cs) ≡ map plain_record (set_records n rs cs)
sets_plain n rs [] = refl
sets_plain n rs (c ∷ cs) = ap (λ xs. set_records n xs (map plain_change cs)) (set_plain n rs c.plsp c.lsp) ∙ sets_plain n (set_record n rs c.plsp c.lsp) cs

abbrev lsps_of : List Path → List Record → Lsps
lsps_of paths records = record { paths = paths; records = records }

pub changed_plain : (b : Lsps) (n : ℕ) (e : Effect) → changed (plain_lsps b) n (plain_effect e) ≡ plain_lsps (changed b n e)
unfolding changed
changed_plain b n e = ap (lsps_of (without b.paths e.change.dropped ++ e.change.added)) (sets_plain n b.records e.records)

pub stale_plain : (b : Lsps) (n : ℕ) → with_stale (plain_lsps b) n ≡ plain_lsps (with_stale b n)
unfolding with_stale
stale_plain b n = refl

-- ---- the life of a session

dropping_plain : (b : Lsps) (n : ℕ) (test : Path → Bool) → dropping (plain_lsps b) n test ≡ plain_effect (dropping b n test)
unfolding dropping
dropping_plain b n test = ap (λ cs. effect_of (filter test b.paths) [] cs false) (chosen-map plain_record plain_change taking (has_none_left test n b.paths) (λ r. refl) (λ r. refl) b.records)

pub marker_plain : (b : Lsps) (n : ℕ) → marker_effect (plain_lsps b) n ≡ plain_effect (marker_effect b n)
unfolding marker_effect
marker_plain b n = dropping_plain b n (is_stale_of n)

pub up_plain : (b : Lsps) (n : ℕ) (sent : Option Capabilities) → up_effect (plain_lsps b) n sent ≡ plain_effect (up_effect b n sent)
unfolding up_effect
up_plain b n None = marker_plain b n
up_plain b n (Some capabilities) = refl

pub down_plain : (b : Lsps) (n : ℕ) → down_effect (plain_lsps b) n ≡ plain_effect (down_effect b n)
unfolding down_effect
down_plain b n = ap (λ cs. effect_of [] [] cs false) (chosen-map plain_record plain_change left_alone (λ (r : Record). r.peer == n) (λ r. refl) (λ r. refl) b.records)

pub expire_plain : (b : Lsps) (n : ℕ) → expire_effect (plain_lsps b) n ≡ plain_effect (expire_effect b n)
unfolding expire_effect
expire_plain b n = dropping_plain b n (is_of_peer n)

-- ---- a report

by_old : (granted : Bool) (old : Option Lsp) (paths : List Path) (te : Ted) (n : ℕ) (r : StateReport) → report_effect_by granted (option_map plain_lsp old) paths te n (plain_report r) ≡ plain_effect (report_effect_by granted old paths te n r)
unfolding report_effect_by reported_path reported_lsp reported_constraints
by_old granted None paths te n r = refl
by_old granted (Some lsp) paths te n r = refl

standing_plain : (b : Lsps) (te : Ted) (n : ℕ) (r : StateReport) → report_effect (plain_lsps b) te n (plain_report r) ≡ plain_effect (report_effect b te n r)
standing_plain b te n r =
    let granted = has_grant b.paths n r.plsp in
    ap (λ old. report_effect_by granted old b.paths te n (plain_report r)) (lsp_plain b.records n r.plsp) ∙ by_old granted (lsp_at b.records n r.plsp) b.paths te n r

-- records that are removed, while none is set
left_plain : (paths : List Path) (n plsp : ℕ) (goes : Path → Bool) (bound : List Path) → records_left paths n plsp goes bound ≡ map plain_change (records_left paths n plsp goes bound)
left_plain paths n plsp goes bound = by (is_nil bound) (list_any (λ x. not (goes x) && is_path_of n plsp x) paths)
  where
    gone : RecordChange
    gone = record { plsp = plsp; lsp = None }

    by : (nil any : Bool) → cond nil (cond any [] (gone ∷ [])) [] ≡ map plain_change (cond nil (cond any [] (gone ∷ [])) [])
    by true true = refl
    by true false = refl
    by false any = refl

removal_plain : (b : Lsps) (n : ℕ) (r : StateReport) → removal_effect (plain_lsps b) n (plain_report r) ≡ plain_effect (removal_effect b n r)
unfolding removal_effect_by
removal_plain b n r =
    let granted = has_grant b.paths n r.plsp in
    let goes = goes_by_removal granted n r in
    let bound = bound_grants granted b.paths n r in
    ap (λ cs. effect_of (filter goes b.paths) bound cs false) (left_plain b.paths n r.plsp goes bound)

any_plain : (b : Lsps) (te : Ted) (n : ℕ) (r : StateReport) → reported_effect (plain_lsps b) te n (plain_report r) ≡ plain_effect (reported_effect b te n r)
unfolding reported_effect
any_plain b te n r = by r.remove
  where
    by : (remove : Bool) → (if remove then removal_effect (plain_lsps b) n (plain_report r) else report_effect (plain_lsps b) te n (plain_report r)) ≡ plain_effect (if remove then removal_effect b n r else report_effect b te n r)
    by true = removal_plain b n r
    by false = standing_plain b te n r

abbrev pub plain_result : Result Effect Why → Result Effect Why
plain_result (Ok e) = Ok (plain_effect e)
plain_result (Err why) = Err why

allowed_plain : (b : Lsps) (e : Effect) → allowed (plain_lsps b) (plain_effect e) ≡ plain_result (allowed b e)
allowed_plain b e = by (is_too_many b e)
  where
    many : Result Effect Why
    many = Err TooManyPaths

    by : (b : Bool) → (if b then many else Ok (plain_effect e)) ≡ plain_result (if b then many else Ok e)
    by true = refl
    by false = refl

pub report_plain : (b : Lsps) (te : Ted) (n : ℕ) (r : StateReport) → report_result (plain_lsps b) te n (plain_report r) ≡ plain_result (report_result b te n r)
unfolding report_result
report_plain b te n r = by (is_reserved r.plsp)
  where
    bad : Result Effect Why
    bad = Err BadReport

    by : (reserved : Bool) → (if reserved then bad else allowed (plain_lsps b) (reported_effect (plain_lsps b) te n (plain_report r))) ≡ plain_result (if reserved then bad else allowed b (reported_effect b te n r))
    by true = refl
    by false = ap (allowed (plain_lsps b)) (any_plain b te n r) ∙ allowed_plain b (reported_effect b te n r)

-- ---- a refusal of the peer, and an LSP that is given back

ended_plain : (b : Lsps) (n srp : ℕ) (grant : Path) → record_ended (plain_lsps b) n srp grant ≡ map plain_change (record_ended b n srp grant)
ended_plain b n srp grant =
    ap (λ there. cond (there && none) (gone ∷ []) []) (ap is_some (lsp_plain b.records n grant.plsp) ∙ some-map plain_lsp (lsp_at b.records n grant.plsp))
    ∙ by (is_some (lsp_at b.records n grant.plsp) && none)
  where
    gone : RecordChange
    gone = record { plsp = grant.plsp; lsp = None }

    none : Bool
    none = has_no_other b.paths n srp grant.plsp

    by : (b : Bool) → cond b (gone ∷ []) [] ≡ map plain_change (cond b (gone ∷ []) [])
    by true = refl
    by false = refl

refused_by_plain : (b : Lsps) (n srp : ℕ) (grants : List Path) → refused_by (plain_lsps b) n srp grants ≡ plain_effect (refused_by b n srp grants)
refused_by_plain b n srp [] = ap (λ cs. effect_of [] [] cs false) (chosen-map plain_record plain_change removal_cleared (is_removed_as n srp) (λ r. refl) (λ r. refl) b.records)
refused_by_plain b n srp (grant ∷ grants) = ap (λ cs. effect_of (grant ∷ grants) [] cs false) (each-map plain_change (record_ended b n srp) (record_ended (plain_lsps b) n srp) (ended_plain b n srp) (grant ∷ grants))

pub refused_plain : (b : Lsps) (n srp : ℕ) → refused_effect (plain_lsps b) n srp ≡ plain_effect (refused_effect b n srp)
unfolding refused_effect
refused_plain b n srp = refused_by_plain b n srp (filter (is_grant_as n srp) b.paths)

pub back_plain : (b : Lsps) (n plsp : ℕ) → given_back plsp (lsp_at (plain_lsps b).records n plsp) ≡ plain_effect (given_back plsp (lsp_at b.records n plsp))
back_plain b n plsp = ap (given_back plsp) (lsp_plain b.records n plsp) ∙ by (lsp_at b.records n plsp)
  where
    by : (lsp : Option Lsp) → given_back plsp (option_map plain_lsp lsp) ≡ plain_effect (given_back plsp lsp)
    by None = refl
    by (Some lsp) = refl
