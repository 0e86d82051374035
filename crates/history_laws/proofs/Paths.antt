-- If a property holds of each path, and of each path that an event adds, it holds of each path after the event.
use Rattle.std.proofs.Common.{◌≡◌, ◌==◌, ℕ, Bool, true, false, cond, not, List, [], ◌∷◌, ◌++◌, map, filter, refl, sym, ap, subst}
use Rattle.std.specs.Prelude.{Option, Some, None, Ok, Err, All, unwrap_or, if◌then◌else◌}
use Rattle.std.proofs.lemmas.List.Elements.{All-nil, All-cons, All-head, All-tail, All-filter, All-append, All-map, All-weaker}
use Rattle.std.proofs.lemmas.List.Sorted.{All-permutation}
use Rattle.lsp_words.specs.declared.object.Capabilities.{Capabilities}
use Rattle.pcep_messages.specs.declared.message.StateReport.{StateReport}
use Rattle.te_base.specs.Ted.{Ted}
use Rattle.lsp_base.specs.Grants.{has_grant}
use Rattle.lsp_base.specs.Lsps.{Lsps, changed, dropping, last_in_front, lsp_at, made_stale, with_stale, without, without_first, without_path}
use Rattle.lsp_base.specs.Refusals.{◌⨟◌}
use Rattle.lsp_base.specs.Same.{same_path}
use Rattle.lsp_base.specs.declared.effect.Effect.{Effect}
use Rattle.lsp_base.specs.declared.lsp.Lsp.{Lsp}
use Rattle.lsp_base.specs.declared.path.Path.{Path}
use Rattle.lsp_base.specs.declared.why.Why.TheVariants.{BadReport, TooManyPaths}
use Rattle.lsp_base.proofs.Swapped.{last_in_front-permutes}
use Rattle.sync_rules.specs.Peers.{up_effect, marker_effect, down_effect, expire_effect}
use Rattle.delegate_rules.specs.Effects.{allowed, bound_grants, is_reserved, is_too_many, removal_effect_by, report_effect_by, report_result, reported_effect}
use Rattle.delegate_rules.specs.Grants.{bound_grant, is_grant_bound, is_grant_kept, moved_grant}
use Rattle.delegate_rules.specs.Refusals.{refused_by, refused_effect}
use Rattle.delegate_rules.specs.Reports.{are_zero, identifiers_of, reported_path}
use Rattle.delegate_rules.specs.Returns.{given_back, must_be_held}
use Rattle.initiate_rules.specs.Checks.{may_be_deleted}
use Rattle.lsp_base.specs.Pending.{is_grant_as}
use Rattle.commit_core.specs.declared.ticket.Ticket.{Ticket}
use Rattle.commit_core.specs.declared.verdict.Verdict.{Verdict}
use Rattle.commit_core.specs.declared.verdict.Verdict.TheVariants as verdicts
use Rattle.step_core.specs.Asks.{may_be_asked, constraints_for}
use Rattle.step_core.specs.Grants.{committed, ended, granting, judged, path_of, taken, verdict_on}
use Rattle.step_core.specs.Outcomes.{done, must_be_down, must_be_known, must_be_up, must_have_a_number, must_take_initiations, must_take_updates}
use Rattle.link_reload.specs.Reloads.{must_have_links}
use Rattle.step_core.specs.Reloads.{after_reload}
use Rattle.step_core.specs.States.{State, next_number}
use Rattle.step_core.specs.Steps.{after_down, after_expire, after_marker, after_refused, after_return, after_up, booked, deleted, drained, may_be_known, removal_asked, step}
use Rattle.step_core.specs.declared.event.Event.{Event}
use Rattle.step_core.specs.declared.event.Event.TheVariants.{Up, Report, Marker, Down, Expire, Drain, Refused as PeerRefused, Return, Delete, Ask, Take, Commit, Reload}
use Rattle.ticket_table.specs.Tickets.{first_waiting, ticket_at}
use Rattle.step_core.proofs.StepLaws.{asked-has, booked-has, decided-has, in_vain-has}

-- P is kept by what events do to a path, and holds of each path that an event adds
pub record IsKept (P : Path → Type 0) (s : State) : Type 0 where
  pub stale : (x : Path) → P x → P (record x { fresh = false })
  pub moved : (n : ℕ) (r : StateReport) (x : Path) → is_reserved r.plsp ≡ false → P x → P (moved_grant n r x)
  pub bound : (r : StateReport) (x : Path) → is_reserved r.plsp ≡ false → P x → P (bound_grant r x)
  pub reported : (n : ℕ) (r : StateReport) → is_reserved r.plsp ≡ false → P (reported_path s.te n r)
  pub granted : (t : Ticket) (offer : Option (List ℕ)) → verdict_on s t offer ≡ verdicts.Grant → P (path_of s t (unwrap_or offer []))

abbrev pub EachPath : (Path → Type 0) → State → Type 0
EachPath P s = All P s.base.paths

-- ---- paths that go

without_first_all : {X : Type 0} (P : X → Type 0) (test : X → Bool) (xs : List X) → All P xs → All P (without_first test xs)
without_first_all P test [] all = all
without_first_all {X} P test (x ∷ xs) all = by (test x) (without_first_all P test xs (All-tail P x xs all))
  where
    by : (b : Bool) → All P (without_first test xs) → All P (cond b (last_in_front xs) (x ∷ without_first test xs))
    by true rest = All-permutation P xs (last_in_front xs) (last_in_front-permutes xs) (All-tail P x xs all)
    by false rest = All-cons P x (without_first test xs) (All-head P x xs all) rest

without_all : (P : Path → Type 0) (xs ds : List Path) → All P xs → All P (without xs ds)
without_all P xs [] all = all
without_all P xs (d ∷ ds) all = without_all P (without_path d xs) ds (without_first_all P (λ x. same_path x d) xs all)

changed_all : (P : Path → Type 0) (base : Lsps) (n : ℕ) (e : Effect) → All P base.paths → All P e.change.added → All P (changed base n e).paths
unfolding changed
changed_all P base n e old new = All-append P (without base.paths e.change.dropped) e.change.added (without_all P base.paths e.change.dropped old) new

mapped_all : (P : Path → Type 0) (f : Path → Path) (xs : List Path) → ((x : Path) → P x → P (f x)) → All P xs → All P (map f xs)
mapped_all P f xs keeps all = All-map P f xs (All-weaker P (λ x. P (f x)) keeps xs all)

-- ---- effects that add no path

abbrev AddsNone : Effect → Type 0
AddsNone e = e.change.added ≡ []

none_all : (P : Path → Type 0) (base : Lsps) (n : ℕ) (e : Effect) → AddsNone e → All P base.paths → All P (changed base n e).paths
none_all P base n e none old = changed_all P base n e old (subst (All P) (sym none) (All-nil P))

marker_none : (base : Lsps) (n : ℕ) → AddsNone (marker_effect base n)
unfolding marker_effect dropping
marker_none base n = refl

up_none : (base : Lsps) (n : ℕ) (sent : Option Capabilities) → AddsNone (up_effect base n sent)
unfolding up_effect
up_none base n None = marker_none base n
up_none base n (Some c) = refl

down_none : (base : Lsps) (n : ℕ) → AddsNone (down_effect base n)
unfolding down_effect
down_none base n = refl

expire_none : (base : Lsps) (n : ℕ) → AddsNone (expire_effect base n)
unfolding expire_effect dropping
expire_none base n = refl

refused_by_none : (base : Lsps) (n srp : ℕ) (grants : List Path) → AddsNone (refused_by base n srp grants)
refused_by_none base n srp [] = refl
refused_by_none base n srp (x ∷ xs) = refl

refused_none : (base : Lsps) (n srp : ℕ) → AddsNone (refused_effect base n srp)
unfolding refused_effect
refused_none base n srp = refused_by_none base n srp (filter (is_grant_as n srp) base.paths)

returned_none : (plsp : ℕ) (lsp : Option Lsp) → AddsNone (given_back plsp lsp)
returned_none plsp None = refl
returned_none plsp (Some lsp) = refl

removal_none : (srp plsp : ℕ) (lsp : Option Lsp) → AddsNone (removal_asked srp plsp lsp)
removal_none srp plsp None = refl
removal_none srp plsp (Some lsp) = refl

stale_all : (P : Path → Type 0) → ((x : Path) → P x → P (record x { fresh = false })) → (base : Lsps) (n : ℕ) → All P base.paths → All P (with_stale base n).paths
unfolding with_stale
stale_all P keeps base n all = mapped_all P (made_stale n) base.paths (λ x here. by x (x.peer == n) here) all
  where
    by : (x : Path) (b : Bool) → P x → P (cond b (record x { fresh = false }) x)
    by x true here = keeps x here
    by x false here = here

-- ---- reports

report_all : (P : Path → Type 0) (s : State) → IsKept P s → (granted : Bool) (old : Option Lsp) (n : ℕ) (r : StateReport) → is_reserved r.plsp ≡ false → EachPath P s → All P (report_effect_by granted old s.base.paths s.te n r).change.added
unfolding report_effect_by
report_all P s kept granted old n r free all =
    let grants = filter (is_grant_kept granted n r) s.base.paths in
    All-cons P (reported_path s.te n r) (map (moved_grant n r) grants) (kept.reported n r free) (mapped_all P (moved_grant n r) grants (λ x here. kept.moved n r x free here) (All-filter (is_grant_kept granted n r) P s.base.paths all))

bound_all : (P : Path → Type 0) (s : State) → IsKept P s → (zero granted : Bool) (n : ℕ) (r : StateReport) → is_reserved r.plsp ≡ false → EachPath P s → All P (if zero then [] else map (bound_grant r) (filter (is_grant_bound granted n r) s.base.paths))
bound_all P s kept true granted n r free all = All-nil P
bound_all P s kept false granted n r free all = mapped_all P (bound_grant r) (filter (is_grant_bound granted n r) s.base.paths) (λ x here. kept.bound r x free here) (All-filter (is_grant_bound granted n r) P s.base.paths all)

removed_all : (P : Path → Type 0) (s : State) → IsKept P s → (granted : Bool) (n : ℕ) (r : StateReport) → is_reserved r.plsp ≡ false → EachPath P s → All P (removal_effect_by granted s.base n r).change.added
unfolding removal_effect_by
removed_all P s kept granted n r free all = bound_all P s kept (are_zero (identifiers_of r)) granted n r free all

either_all : (P : Path → Type 0) (removes : Bool) (removal report : Effect) → All P removal.change.added → All P report.change.added → All P (if removes then removal else report).change.added
either_all P true removal report a b = a
either_all P false removal report a b = b

reported_all : (P : Path → Type 0) (s : State) → IsKept P s → (n : ℕ) (r : StateReport) → is_reserved r.plsp ≡ false → EachPath P s → All P (reported_effect s.base s.te n r).change.added
unfolding reported_effect
reported_all P s kept n r free all =
    either_all P r.remove _ _ (removed_all P s kept (has_grant s.base.paths n r.plsp) n r free all) (report_all P s kept (has_grant s.base.paths n r.plsp) (lsp_at s.base.records n r.plsp) n r free all)

allowed_is : (many : Bool) (e given : Effect) → (if many then Err TooManyPaths else Ok given) ≡ Ok e → given ≡ e
allowed_is true e given is = absurd (cc (is))
allowed_is false e given is = cc

result_is : (bad : Bool) (base : Lsps) (e given : Effect) → (if bad then Err BadReport else allowed base given) ≡ Ok e → (bad ≡ false) × (given ≡ e)
result_is true base e given is = absurd (cc (is))
result_is false base e given is = (refl, allowed_is (is_too_many base given) e given is)

report_adds : (P : Path → Type 0) (s : State) → IsKept P s → (n : ℕ) (r : StateReport) (e : Effect) → report_result s.base s.te n r ≡ Ok e → EachPath P s → All P e.change.added
unfolding report_result
report_adds P s kept n r e is all =
    let parts = result_is (is_reserved r.plsp) s.base e (reported_effect s.base s.te n r) is in
    subst (λ (d : Effect). All P d.change.added) parts.1 (reported_all P s kept n r parts.0 all)

-- ---- tickets

judged_all : (P : Path → Type 0) (s : State) → IsKept P s → (t : Ticket) (offer : Option (List ℕ)) (v : Verdict) → verdict_on s t offer ≡ v → EachPath P s → EachPath P (judged s t (unwrap_or offer []) v).state
judged_all P s kept t offer verdicts.Grant is all = changed_all P s.base t.peer (granting (path_of s t (unwrap_or offer []))) all (All-cons P (path_of s t (unwrap_or offer [])) [] (kept.granted t offer is) (All-nil P))
judged_all P s kept t offer verdicts.Answer is all = all
judged_all P s kept t offer verdicts.Again is all = all
judged_all P s kept t offer verdicts.NoPath is all = in_vain-has (EachPath P) (ended s t) t.peer t.purpose all (λ m. all)
judged_all P s kept t offer verdicts.GivenUp is all = in_vain-has (EachPath P) (ended s t) t.peer t.purpose all (λ m. all)
judged_all P s kept t offer verdicts.Gone is all = all

commit_all : (P : Path → Type 0) (s : State) → IsKept P s → (offer : Option (List ℕ)) (o : Option Ticket) → EachPath P s → EachPath P (committed s offer o).state
commit_all P s kept offer None all = all
commit_all P s kept offer (Some t) all = decided-has (EachPath P) s _ _ all (judged_all P s kept t offer (verdict_on s t offer) refl all)

take_all : (P : Path → Type 0) (s : State) (o : Option Ticket) → EachPath P s → EachPath P (taken s o).state
take_all P s None all = all
take_all P s (Some t) all = all

-- ---- any event

pub step_all : (P : Path → Type 0) (s : State) (event : Event) → IsKept P s → EachPath P s → EachPath P (step s event).state
unfolding step
step_all P s (Up n sent) kept all = decided-has (EachPath P) s (must_be_down s.peers n ⨟ may_be_known s.peers n) (done (after_up s n sent)) all (none_all P s.base n (up_effect s.base n sent) (up_none s.base n sent) all)
step_all P s (Report n r) kept all = decided-has (EachPath P) s (must_be_up s.peers n) (booked s n r.plsp (report_result s.base s.te n r)) all (booked-has (EachPath P) s n r.plsp (report_result s.base s.te n r) all (λ e is. changed_all P s.base n e all (report_adds P s kept n r e is all)))
step_all P s (Marker n) kept all = decided-has (EachPath P) s (must_be_up s.peers n) (done (after_marker s n)) all (none_all P s.base n (marker_effect s.base n) (marker_none s.base n) all)
step_all P s (Down n) kept all = decided-has (EachPath P) s (must_be_up s.peers n) (done (after_down s n)) all (stale_all P kept.stale (changed s.base n (down_effect s.base n)) n (none_all P s.base n (down_effect s.base n) (down_none s.base n) all))
step_all P s (Expire n) kept all = decided-has (EachPath P) s (must_be_known s.peers n ⨟ must_be_down s.peers n) (done (after_expire s n)) all (none_all P s.base n (expire_effect s.base n) (expire_none s.base n) all)
step_all P s (Drain n) kept all = decided-has (EachPath P) s (must_be_up s.peers n) (drained s n) all all
step_all P s (PeerRefused n srp) kept all = decided-has (EachPath P) s (must_be_up s.peers n) (done (after_refused s n srp)) all (none_all P s.base n (refused_effect s.base n srp) (refused_none s.base n srp) all)
step_all P s (Return n plsp) kept all = decided-has (EachPath P) s (must_take_updates s.peers n ⨟ must_be_held s.base n plsp ⨟ must_have_a_number s n) (done (after_return s n plsp)) all (none_all P s.base n (given_back plsp (lsp_at s.base.records n plsp)) (returned_none plsp (lsp_at s.base.records n plsp)) all)
step_all P s (Delete n plsp) kept all = decided-has (EachPath P) s (must_take_initiations s.peers n ⨟ may_be_deleted s.base n plsp ⨟ must_have_a_number s n) (deleted s n plsp) all (none_all P s.base n (removal_asked (next_number s n) plsp (lsp_at s.base.records n plsp)) (removal_none (next_number s n) plsp (lsp_at s.base.records n plsp)) all)
step_all P s (Ask n purpose) kept all = decided-has (EachPath P) s (may_be_asked s n purpose) _ all (asked-has (EachPath P) s n purpose (constraints_for s.base.records n purpose) all (λ t own next. all))
step_all P s Take kept all = take_all P s (first_waiting s.tickets) all
step_all P s (Commit id offer) kept all = commit_all P s kept offer (ticket_at s.tickets id) all
step_all P s (Reload entries) kept all = decided-has (EachPath P) s (must_have_links s.te entries) (done (after_reload s entries)) all all
