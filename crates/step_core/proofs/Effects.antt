-- Each effect drops and adds only paths of its own peer.
use Rattle.std.proofs.Common.{◌≡◌, ◌==◌, ◌&&◌, ◌||◌, ℕ, Bool, true, false, List, [], ◌∷◌, refl, map, subst}
use Rattle.std.specs.Prelude.{filter, not, Option, Some, None, Ok, Err, if◌then◌else◌}
use Rattle.lsp_words.specs.declared.object.Capabilities.{Capabilities}
use Rattle.pcep_messages.specs.declared.message.StateReport.{StateReport}
use Rattle.te_base.specs.Ted.{Ted}
use Rattle.lsp_base.specs.Lsps.{Lsps, dropping, is_path_of}
use Rattle.lsp_base.specs.declared.path.Path.{Path}
use Rattle.lsp_base.specs.declared.effect.Effect.{Effect}
use Rattle.lsp_base.specs.declared.why.Why.TheVariants.{BadReport, TooManyPaths}
use Rattle.sync_rules.specs.Peers.{is_stale_of, is_of_peer, marker_effect, up_effect, down_effect, expire_effect}
use Rattle.lsp_base.specs.Grants.{has_grant}
use Rattle.lsp_base.specs.declared.lsp.Lsp.{Lsp}
use Rattle.delegate_rules.specs.Reports.{identifiers_of, are_zero, reported_path}
use Rattle.delegate_rules.specs.Grants.{is_grant_met, is_grant_kept, is_grant_settled, is_grant_bound, moved_grant, bound_grant}
use Rattle.lsp_base.specs.Pending.{is_grant_as}
use Rattle.delegate_rules.specs.Refusals.{refused_by, refused_effect}
use Rattle.delegate_rules.specs.Returns.{given_back}
use Rattle.delegate_rules.specs.Effects.{is_replaced, goes_by_report, report_effect_by, is_removed, goes_by_removal, removal_effect_by, reported_effect, is_reserved, is_too_many, allowed, report_result}
use Rattle.step_core.specs.Grants.{granting}
use Rattle.step_core.specs.Steps.{removal_asked}
use Rattle.step_core.proofs.Others.{same_number, first_of_both, AllOwn, AllOwn-filter, AllOwn-map, IsOwn}

-- paths of the peer that a test chooses are dropped
pub dropping-own : (n : ℕ) (base : Lsps) (test : Path → Bool) → ((y : Path) → test y ≡ true → (y.peer == n) ≡ true) → IsOwn n (dropping base n test)
unfolding dropping
dropping-own n base test own = record { dropped = AllOwn-filter n test base.paths own; added = tt }

pub marker-own : (n : ℕ) (base : Lsps) → IsOwn n (marker_effect base n)
unfolding marker_effect
marker-own n base = dropping-own n base (is_stale_of n) (λ x is. first_of_both (x.peer == n) (not x.fresh) is)

pub up-own : (n : ℕ) (base : Lsps) (sent : Option Capabilities) → IsOwn n (up_effect base n sent)
unfolding up_effect
up-own n base None = marker-own n base
up-own n base (Some c) = record { dropped = tt; added = tt }

pub down-own : (n : ℕ) (base : Lsps) → IsOwn n (down_effect base n)
unfolding down_effect
down-own n base = record { dropped = tt; added = tt }

pub expire-own : (n : ℕ) (base : Lsps) → IsOwn n (expire_effect base n)
unfolding expire_effect
expire-own n base = dropping-own n base (is_of_peer n) (λ x is. is)

-- ---- reports

one_of_both : (a b : Bool) (P : Type 0) → (a || b) ≡ true → (a ≡ true → P) → (b ≡ true → P) → P
one_of_both true b P is left right = left refl
one_of_both false b P is left right = right is

met_own : (granted : Bool) (n : ℕ) (r : StateReport) (x : Path) → is_grant_met granted n r x ≡ true → (x.peer == n) ≡ true
met_own true n r x is = first_of_both (x.peer == n) _ (first_of_both (is_path_of n r.plsp x) _ is)
met_own false n r x is = first_of_both (x.peer == n) _ (first_of_both (x.peer == n && x.plsp == 0) _ is)

replaced_own : (n : ℕ) (r : StateReport) (x : Path) → is_replaced n r x ≡ true → (x.peer == n) ≡ true
replaced_own n r x is = first_of_both (x.peer == n) _ (first_of_both (is_path_of n r.plsp x) _ is)

removed_own : (n : ℕ) (r : StateReport) (x : Path) → is_removed n r x ≡ true → (x.peer == n) ≡ true
removed_own n r x is = first_of_both (x.peer == n) _ (first_of_both (is_path_of n r.plsp x) _ is)

by_report_own : (granted : Bool) (n : ℕ) (r : StateReport) (x : Path) → goes_by_report granted n r x ≡ true → (x.peer == n) ≡ true
by_report_own granted n r x is = one_of_both (is_replaced n r x) (is_grant_met granted n r x) _ is (replaced_own n r x) (met_own granted n r x)

by_removal_own : (granted : Bool) (n : ℕ) (r : StateReport) (x : Path) → goes_by_removal granted n r x ≡ true → (x.peer == n) ≡ true
by_removal_own granted n r x is = one_of_both (is_removed n r x) (is_grant_met granted n r x && (is_grant_settled r x || x.plsp == 0)) _ is (removed_own n r x) (λ met. met_own granted n r x (first_of_both (is_grant_met granted n r x) _ met))

kept_own : (granted : Bool) (n : ℕ) (r : StateReport) (x : Path) → is_grant_kept granted n r x ≡ true → (x.peer == n) ≡ true
kept_own granted n r x is = met_own granted n r x (first_of_both (is_grant_met granted n r x) _ is)

bound_own : (granted : Bool) (n : ℕ) (r : StateReport) (x : Path) → is_grant_bound granted n r x ≡ true → (x.peer == n) ≡ true
bound_own granted n r x is = kept_own granted n r x (first_of_both (is_grant_kept granted n r x) _ is)

report_by-own : (granted : Bool) (old : Option Lsp) (paths : List Path) (te : Ted) (n : ℕ) (r : StateReport) → IsOwn n (report_effect_by granted old paths te n r)
unfolding report_effect_by reported_path
report_by-own granted old paths te n r = record {
  dropped = AllOwn-filter n (goes_by_report granted n r) paths (by_report_own granted n r);
  added = (same_number n, AllOwn-map n (moved_grant n r) (filter (is_grant_kept granted n r) paths) (λ x. refl) (AllOwn-filter n (is_grant_kept granted n r) paths (kept_own granted n r)));
}

bound_grants-own : (zero : Bool) (granted : Bool) (paths : List Path) (n : ℕ) (r : StateReport) → AllOwn n (if zero then [] else map (bound_grant r) (filter (is_grant_bound granted n r) paths))
bound_grants-own true granted paths n r = tt
bound_grants-own false granted paths n r = AllOwn-map n (bound_grant r) (filter (is_grant_bound granted n r) paths) (λ x. refl) (AllOwn-filter n (is_grant_bound granted n r) paths (bound_own granted n r))

removal_by-own : (granted : Bool) (base : Lsps) (n : ℕ) (r : StateReport) → IsOwn n (removal_effect_by granted base n r)
unfolding removal_effect_by
removal_by-own granted base n r = record {
  dropped = AllOwn-filter n (goes_by_removal granted n r) base.paths (by_removal_own granted n r);
  added = bound_grants-own (are_zero (identifiers_of r)) granted base.paths n r;
}

either-of : (removes : Bool) (n : ℕ) (removal report : Effect) → IsOwn n removal → IsOwn n report → IsOwn n (if removes then removal else report)
either-of true n removal report a b = a
either-of false n removal report a b = b

reported-own : (n : ℕ) (base : Lsps) (te : Ted) (r : StateReport) → IsOwn n (reported_effect base te n r)
unfolding reported_effect
reported-own n base te r = either-of r.remove n _ _ (removal_by-own (has_grant base.paths n r.plsp) base n r) (report_by-own (has_grant base.paths n r.plsp) _ base.paths te n r)

allowed-own : (n : ℕ) (e given : Effect) (many : Bool) → IsOwn n given → (if many then Err TooManyPaths else Ok given) ≡ Ok e → IsOwn n e
allowed-own n e given true own is = absurd (cc (is))
allowed-own n e given false own is = let same : given ≡ e = cc in subst (IsOwn n) same own

result-own : (n : ℕ) (e given : Effect) (base : Lsps) (bad : Bool) → IsOwn n given → (if bad then Err BadReport else allowed base given) ≡ Ok e → IsOwn n e
result-own n e given base true own is = absurd (cc (is))
result-own n e given base false own is = allowed-own n e given (is_too_many base given) own is

pub report-own : (n : ℕ) (base : Lsps) (te : Ted) (r : StateReport) (e : Effect) → report_result base te n r ≡ Ok e → IsOwn n e
unfolding report_result
report-own n base te r e is = result-own n e (reported_effect base te n r) base (is_reserved r.plsp) (reported-own n base te r) is

-- ---- what the PCE asks a peer for, and what the peer refuses

refused_by-own : (n srp : ℕ) (base : Lsps) (grants : List Path) → AllOwn n grants → IsOwn n (refused_by base n srp grants)
refused_by-own n srp base [] own = record { dropped = tt; added = tt }
refused_by-own n srp base (x ∷ xs) own = record { dropped = own; added = tt }

pub refused-own : (n srp : ℕ) (base : Lsps) → IsOwn n (refused_effect base n srp)
unfolding refused_effect
refused-own n srp base = refused_by-own n srp base _ (AllOwn-filter n (is_grant_as n srp) base.paths (λ x is. first_of_both (x.peer == n) _ is))

pub return-own : (n plsp : ℕ) (lsp : Option Lsp) → IsOwn n (given_back plsp lsp)
return-own n plsp None = record { dropped = tt; added = tt }
return-own n plsp (Some lsp) = record { dropped = tt; added = tt }

pub removal_asked-own : (n srp plsp : ℕ) (lsp : Option Lsp) → IsOwn n (removal_asked srp plsp lsp)
removal_asked-own n srp plsp None = record { dropped = tt; added = tt }
removal_asked-own n srp plsp (Some lsp) = record { dropped = tt; added = tt }

-- ---- what the PCE grants

pub granting-own : (n : ℕ) (g : Path) → (g.peer == n) ≡ true → IsOwn n (granting g)
granting-own n g own = record { dropped = tt; added = (own, tt) }
