-- What an event does to LSPs doesn't depend on the order of their paths and records.
use Rattle.std.proofs.Common.{◌≡◌, ◌≤◌, ◌==◌, ◌&&◌, ◌||◌, ℕ, ◌+◌, Bool, true, false, cond, not, nat_lt, List, [], ◌∷◌, map, filter, find, IsPermutation, refl, sym, ap, ◌∙◌, subst, arith}
use Rattle.std.specs.Prelude.{Option, Some, None, Result, Ok, Err, is_none, is_some, if◌then◌else◌}
use Rattle.std.specs.List.{flat_map}
use Rattle.std.proofs.lemmas.Bool.{and_parts}
use Rattle.std.proofs.lemmas.List.Sorted.{IsPermutation-cons, IsPermutation-map, IsPermutation-refl, length_permutation}
use Rattle.lsp_words.specs.declared.object.Capabilities.{Capabilities}
use Rattle.pcep_messages.specs.declared.message.StateReport.{StateReport}
use Rattle.te_base.specs.Ted.{Ted}
use Rattle.lsp_base.specs.Lsps.{AreDistinct, Lsps, dropping, has_none_left, is_path_of, lsp_at, no_effect, taking}
use Rattle.lsp_base.specs.Grants.{has_grant, is_grant_of}
use Rattle.lsp_base.specs.Pending.{is_created, is_delegated, is_grant_as, is_pending, is_removed_as, is_removing}
use Rattle.lsp_base.specs.Refusals.{unless, ◌⨟◌}
use Rattle.lsp_base.specs.declared.effect.Effect.{Effect}
use Rattle.lsp_base.specs.declared.effect.Record.{Record}
use Rattle.lsp_base.specs.declared.effect.RecordChange.{RecordChange}
use Rattle.lsp_base.specs.declared.lsp.Lsp.{Lsp}
use Rattle.lsp_base.specs.declared.path.Path.{Path}
use Rattle.lsp_base.specs.declared.why.Why.{Why}
use Rattle.lsp_base.specs.declared.why.Why.TheVariants.{BadReport, NameInUse, NotCreatedHere, NotDelegated, Pending, TooManyPaths, UnknownLsp}
use Rattle.sync_rules.specs.Peers.{down_effect, expire_effect, is_of_peer, is_stale_of, left_alone, marker_effect, up_effect}
use Rattle.delegate_rules.specs.Effects.{allowed, bound_grants, goes_by_removal, goes_by_report, is_nil, is_reserved, is_too_many, removal_effect, removal_effect_by, report_effect, report_effect_by, report_result, reported_effect}
use Rattle.delegate_rules.specs.Grants.{bound_grant, is_grant_bound, is_grant_kept, moved_grant}
use Rattle.delegate_rules.specs.Refusals.{record_ended, refused_by, refused_effect, removal_cleared}
use Rattle.delegate_rules.specs.Reports.{are_zero, identifiers_of, is_down, old_removing, reported_path}
use Rattle.delegate_rules.specs.Returns.{must_be_held}
use Rattle.initiate_rules.specs.Checks.{is_named, may_be_deleted, must_be_new}
use Rattle.initiate_rules.specs.Numbers.{is_srp_used}
use Rattle.step_core.specs.Consistent.{asked_as, count}
use Rattle.step_core.proofs.Counts.{one, count-permuted}
use Rattle.step_core.proofs.Permuted.{any-permuted, find-permuted, found_none}
use Rattle.step_core.proofs.PermutedLists.{chosen-permuted, filter-permuted, lsp_at-permuted, set_at}

-- the same paths and records in any order, with at most one record for each LSP, and at most one grant or awaited
-- removal for each SRP-ID
pub record AreSameLsps (a b : Lsps) : Type 0 where
  pub paths : IsPermutation a.paths b.paths
  pub records : IsPermutation a.records b.records
  pub distinct : AreDistinct a.records
  pub asked : (peer srp : ℕ) → asked_as a peer srp ≤ 1

-- effects that do the same
pub record DoTheSame (e f : Effect) : Type 0 where
  pub dropped : IsPermutation e.change.dropped f.change.dropped
  pub added : IsPermutation e.change.added f.change.added
  pub records : (q : ℕ) (o : Option Lsp) → set_at e.records q o ≡ set_at f.records q o
  pub wants : e.wants_path ≡ f.wants_path

pub same_effect : (e : Effect) → DoTheSame e e
same_effect e = record { dropped = IsPermutation-refl _; added = IsPermutation-refl _; records = λ q o. refl; wants = refl }

-- ---- what is looked at

pub known-same : (a b : Lsps) → AreSameLsps a b → (n q : ℕ) → lsp_at b.records n q ≡ lsp_at a.records n q
known-same a b same n q = lsp_at-permuted a.records b.records same.distinct same.records n q

pub pending-same : (a b : Lsps) → AreSameLsps a b → (n q : ℕ) → is_pending b n q ≡ is_pending a n q
pending-same a b same n q = λ i. any-permuted (is_grant_of n q) a.paths b.paths same.paths i || is_removing (known-same a b same n q i)

pub used-same : (a b : Lsps) → AreSameLsps a b → (n srp : ℕ) → is_srp_used b n srp ≡ is_srp_used a n srp
used-same a b same n srp = λ i. any-permuted (is_grant_as n srp) a.paths b.paths same.paths i || any-permuted (is_removed_as n srp) a.records b.records same.records i

pub held-same : (a b : Lsps) → AreSameLsps a b → (n q : ℕ) → must_be_held b n q ≡ must_be_held a n q
held-same a b same n q = λ i. unless (is_some (known-same a b same n q i)) UnknownLsp ⨟ unless (is_delegated (known-same a b same n q i)) NotDelegated ⨟ unless (not (pending-same a b same n q i)) Pending

pub deleted-same : (a b : Lsps) → AreSameLsps a b → (n q : ℕ) → may_be_deleted b n q ≡ may_be_deleted a n q
deleted-same a b same n q = λ i. unless (is_some (known-same a b same n q i)) UnknownLsp ⨟ unless (is_created (known-same a b same n q i)) NotCreatedHere ⨟ unless (is_delegated (known-same a b same n q i)) NotDelegated ⨟ unless (not (pending-same a b same n q i)) Pending

pub new-same : (a b : Lsps) → AreSameLsps a b → (n : ℕ) (name : List ℕ) (held there : Bool) → there ≡ held → must_be_new b n name there ≡ must_be_new a n name held
new-same a b same n name held there is = λ i. unless (not (any-permuted (is_named n name) a.records b.records same.records i || is i)) NameInUse

-- ---- the life of a session

dropping-same : (a b : Lsps) → AreSameLsps a b → (n : ℕ) (test : Path → Bool) → DoTheSame (dropping a n test) (dropping b n test)
unfolding dropping
dropping-same a b same n test = record {
  dropped = filter-permuted test a.paths b.paths same.paths;
  added = IsPermutation-refl [];
  records = λ q o. (
      chosen-permuted taking (λ r. refl) n (has_none_left test n a.paths) (λ r is. (and_parts (r.peer == n) _ is).0) a.records b.records same.distinct same.records q o
      ∙ ap (λ (t : Record → Bool). set_at (map taking (filter t b.records)) q o) (λ i r. r.peer == n && not (sym (any-permuted (λ x. not (test x) && is_path_of n r.plsp x) a.paths b.paths same.paths) i)));
  wants = refl;
}

pub marker-same : (a b : Lsps) → AreSameLsps a b → (n : ℕ) → DoTheSame (marker_effect a n) (marker_effect b n)
unfolding marker_effect
marker-same a b same n = dropping-same a b same n (is_stale_of n)

pub expire-same : (a b : Lsps) → AreSameLsps a b → (n : ℕ) → DoTheSame (expire_effect a n) (expire_effect b n)
unfolding expire_effect
expire-same a b same n = dropping-same a b same n (is_of_peer n)

pub up-same : (a b : Lsps) → AreSameLsps a b → (n : ℕ) (sent : Option Capabilities) → DoTheSame (up_effect a n sent) (up_effect b n sent)
unfolding up_effect
up-same a b same n None = marker-same a b same n
up-same a b same n (Some capabilities) = same_effect no_effect

pub down-same : (a b : Lsps) → AreSameLsps a b → (n : ℕ) → DoTheSame (down_effect a n) (down_effect b n)
unfolding down_effect
down-same a b same n = record {
  dropped = IsPermutation-refl [];
  added = IsPermutation-refl [];
  records = chosen-permuted left_alone (λ r. refl) n (λ r. r.peer == n) (λ r is. is) a.records b.records same.distinct same.records;
  wants = refl;
}

-- ---- reports

nil-permuted : {X : Type 0} (xs ys : List X) → IsPermutation xs ys → is_nil xs ≡ is_nil ys
nil-permuted [] [] same = refl
nil-permuted [] (y ∷ ys) same = let long = length_permutation [] (y ∷ ys) same in absurd (omega (arith, long))
nil-permuted (x ∷ xs) [] same = let long = length_permutation (x ∷ xs) [] same in absurd (omega (arith, long))
nil-permuted (x ∷ xs) (y ∷ ys) same = refl

report_by-same : (granted : Bool) (old : Option Lsp) (xs ys : List Path) → IsPermutation xs ys → (te : Ted) (n : ℕ) (r : StateReport) → DoTheSame (report_effect_by granted old xs te n r) (report_effect_by granted old ys te n r)
unfolding report_effect_by
report_by-same granted old xs ys same te n r =
    let grants = IsPermutation-map (moved_grant n r) _ _ (filter-permuted (is_grant_kept granted n r) xs ys same) in
    record {
      dropped = filter-permuted (goes_by_report granted n r) xs ys same;
      added = IsPermutation-cons (reported_path te n r) _ _ grants;
      records = λ q o. refl;
      wants = ap (λ (none : Bool). r.delegate && is_down r.operational && is_nil r.ero && none && is_none (old_removing old)) (nil-permuted _ _ grants);
    }

report-same : (a b : Lsps) → AreSameLsps a b → (te : Ted) (n : ℕ) (r : StateReport) → DoTheSame (report_effect a te n r) (report_effect b te n r)
report-same a b same te n r =
    let granted = has_grant a.paths n r.plsp in
    let old = lsp_at a.records n r.plsp in
    subst (λ (g : Bool). DoTheSame (report_effect_by granted old a.paths te n r) (report_effect_by g (lsp_at b.records n r.plsp) b.paths te n r)) (sym (any-permuted (is_grant_of n r.plsp) a.paths b.paths same.paths))
    (subst (λ (o : Option Lsp). DoTheSame (report_effect_by granted old a.paths te n r) (report_effect_by granted o b.paths te n r)) (sym (known-same a b same n r.plsp))
    (report_by-same granted old a.paths b.paths same.paths te n r))

bound-permuted : (zero : Bool) (granted : Bool) (xs ys : List Path) → IsPermutation xs ys → (n : ℕ) (r : StateReport)
    → IsPermutation (if zero then [] else map (bound_grant r) (filter (is_grant_bound granted n r) xs)) (if zero then [] else map (bound_grant r) (filter (is_grant_bound granted n r) ys))
bound-permuted true granted xs ys same n r = IsPermutation-refl []
bound-permuted false granted xs ys same n r = IsPermutation-map (bound_grant r) _ _ (filter-permuted (is_grant_bound granted n r) xs ys same)

removal_by-same : (granted : Bool) (a b : Lsps) → AreSameLsps a b → (n : ℕ) (r : StateReport) → DoTheSame (removal_effect_by granted a n r) (removal_effect_by granted b n r)
unfolding removal_effect_by
removal_by-same granted a b same n r =
    let goes = goes_by_removal granted n r in
    let bound = bound-permuted (are_zero (identifiers_of r)) granted a.paths b.paths same.paths n r in
    let none = nil-permuted (bound_grants granted a.paths n r) (bound_grants granted b.paths n r) bound in
    let stays = sym (any-permuted (λ (x : Path). not (goes x) && is_path_of n r.plsp x) a.paths b.paths same.paths) in
    record {
      dropped = filter-permuted goes a.paths b.paths same.paths;
      added = bound;
      records = λ q o i. set_at (if none i then (if stays i then [] else record { plsp = r.plsp; lsp = None } ∷ []) else []) q o;
      wants = refl;
    }

removal-same : (a b : Lsps) → AreSameLsps a b → (n : ℕ) (r : StateReport) → DoTheSame (removal_effect a n r) (removal_effect b n r)
removal-same a b same n r =
    subst (λ (g : Bool). DoTheSame (removal_effect a n r) (removal_effect_by g b n r)) (sym (any-permuted (is_grant_of n r.plsp) a.paths b.paths same.paths)) (removal_by-same (has_grant a.paths n r.plsp) a b same n r)

reported-same : (a b : Lsps) → AreSameLsps a b → (te : Ted) (n : ℕ) (r : StateReport) → DoTheSame (reported_effect a te n r) (reported_effect b te n r)
unfolding reported_effect
reported-same a b same te n r = by r.remove
  where
    by : (c : Bool) → DoTheSame (if c then removal_effect a n r else report_effect a te n r) (if c then removal_effect b n r else report_effect b te n r)
    by true = removal-same a b same n r
    by false = report-same a b same te n r

-- both are refused for the same reason, or do the same
abbrev pub ComeToTheSame : Result Effect Why → Result Effect Why → Type 0
ComeToTheSame (Err why) (Err other) = why ≡ other
ComeToTheSame (Ok e) (Ok f) = DoTheSame e f
ComeToTheSame (Err why) (Ok f) = ⊥
ComeToTheSame (Ok e) (Err why) = ⊥

allowed-same : (a b : Lsps) → AreSameLsps a b → (e f : Effect) → DoTheSame e f → ComeToTheSame (allowed a e) (allowed b f)
allowed-same a b same e f alike = subst (λ (many : Bool). ComeToTheSame (allowed a e) (if many then Err TooManyPaths else Ok f)) few (by (is_too_many a e))
  where
    few : is_too_many a e ≡ is_too_many b f
    few = λ i. nat_lt (16384 + sym (length_permutation _ _ alike.dropped) i) (sym (length_permutation _ _ same.paths) i + sym (length_permutation _ _ alike.added) i)

    by : (many : Bool) → ComeToTheSame (if many then Err TooManyPaths else Ok e) (if many then Err TooManyPaths else Ok f)
    by true = refl
    by false = alike

pub result-same : (a b : Lsps) → AreSameLsps a b → (te : Ted) (n : ℕ) (r : StateReport) → ComeToTheSame (report_result a te n r) (report_result b te n r)
unfolding report_result
result-same a b same te n r = by (is_reserved r.plsp)
  where
    by : (c : Bool) → ComeToTheSame (if c then Err BadReport else allowed a (reported_effect a te n r)) (if c then Err BadReport else allowed b (reported_effect b te n r))
    by true = refl
    by false = allowed-same a b same _ _ (reported-same a b same te n r)

-- ---- what a peer refuses

listed : {X : Type 0} → Option X → List X
listed None = []
listed (Some x) = x ∷ []

filter-one : {X : Type 0} (p : X → Bool) (xs : List X) → count p xs ≤ 1 → filter p xs ≡ listed (find p xs)
unfolding listed
filter-one p [] few = refl
filter-one {X} p (x ∷ xs) few = by (p x) few (filter-one p xs)
  where
    by : (b : Bool) → one b + count p xs ≤ 1 → (count p xs ≤ 1 → filter p xs ≡ listed (find p xs)) → cond b (x ∷ filter p xs) (filter p xs) ≡ listed (cond b (Some x) (find p xs))
    by true few rest = ap (λ l. x ∷ l) (rest (omega (arith, few)) ∙ ap listed (found_none p xs (omega (arith, few))))
    by false few rest = rest (omega (arith, few))

one-permuted : {X : Type 0} (p : X → Bool) (xs ys : List X) → count p xs ≤ 1 → count p ys ≤ 1 → IsPermutation xs ys → filter p ys ≡ filter p xs
one-permuted p xs ys few_xs few_ys same = filter-one p ys few_ys ∙ ap listed (find-permuted p xs ys few_xs same) ∙ sym (filter-one p xs few_xs)

refused_by-same : (a b : Lsps) → AreSameLsps a b → (n srp : ℕ) → filter (is_removed_as n srp) b.records ≡ filter (is_removed_as n srp) a.records → (grants : List Path) → refused_by b n srp grants ≡ refused_by a n srp grants
refused_by-same a b same n srp removed [] = ap (λ (rs : List Record). record { change = record { dropped = []; added = [] }; records = map removal_cleared rs; wants_path = false }) removed
refused_by-same a b same n srp removed (g ∷ grants) = ap (λ (f : Path → List RecordChange). record { change = record { dropped = g ∷ grants; added = [] }; records = flat_map f (g ∷ grants); wants_path = false }) ended
  where
    ended : record_ended b n srp ≡ record_ended a n srp
    ended = λ i x. if is_some (known-same a b same n x.plsp i) && not (any-permuted (λ y. not (is_grant_as n srp y) && is_path_of n x.plsp y) a.paths b.paths same.paths i) then record { plsp = x.plsp; lsp = None } ∷ [] else []

pub refused-same : (a b : Lsps) → AreSameLsps a b → (n srp : ℕ) → refused_effect b n srp ≡ refused_effect a n srp
unfolding refused_effect
refused-same a b same n srp =
    let few = same.asked n srp in
    let paths = count-permuted (is_grant_as n srp) a.paths b.paths same.paths in
    let records = count-permuted (is_removed_as n srp) a.records b.records same.records in
    let grants = one-permuted (is_grant_as n srp) a.paths b.paths (omega (arith, few)) (omega (arith, few, paths)) same.paths in
    let removed = one-permuted (is_removed_as n srp) a.records b.records (omega (arith, few)) (omega (arith, few, records)) same.records in
    ap (refused_by b n srp) grants ∙ refused_by-same a b same n srp removed (filter (is_grant_as n srp) a.paths)
