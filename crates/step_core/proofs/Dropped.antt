-- An effect only drops paths that exist.
use Rattle.std.proofs.Common.{◌≡◌, ℕ, Bool, true, false, List, [], ◌∷◌, sym, subst, ap, ◌∙◌, arith}
use Rattle.std.specs.Prelude.{Option, Some, None, Ok, Err, if◌then◌else◌}
use Rattle.lsp_words.specs.declared.object.Capabilities.{Capabilities}
use Rattle.pcep_messages.specs.declared.message.StateReport.{StateReport}
use Rattle.te_base.specs.Ted.{Ted}
use Rattle.lsp_base.specs.Lsps.{Lsps, HasAll, dropping, lsp_at}
use Rattle.lsp_base.proofs.Removal.{has_filter}
use Rattle.lsp_base.specs.Grants.{has_grant}
use Rattle.lsp_base.specs.declared.path.Path.{Path}
use Rattle.lsp_base.specs.declared.lsp.Lsp.{Lsp}
use Rattle.lsp_base.specs.declared.effect.Effect.{Effect}
use Rattle.lsp_base.specs.declared.why.Why.TheVariants.{BadReport, TooManyPaths}
use Rattle.sync_rules.specs.Peers.{is_stale_of, is_of_peer, marker_effect, up_effect, down_effect, expire_effect}
use Rattle.lsp_base.specs.Pending.{is_grant_as}
use Rattle.delegate_rules.specs.Refusals.{refused_by, refused_effect}
use Rattle.delegate_rules.specs.Returns.{given_back}
use Rattle.delegate_rules.specs.Effects.{goes_by_report, report_effect_by, goes_by_removal, removal_effect_by, reported_effect, is_reserved, is_too_many, allowed, report_result}
use Rattle.step_core.specs.Steps.{removal_asked}

-- the existing paths include those that the effect drops
abbrev pub HasDropped : Lsps → Effect → Type 0
HasDropped base e = HasAll base.paths e.change.dropped

pub has_none : (paths : List Path) → HasAll paths []
has_none paths x = omega arith

-- ---- the life of a session

dropping-has : (base : Lsps) (n : ℕ) (test : Path → Bool) → HasDropped base (dropping base n test)
unfolding dropping
dropping-has base n test = has_filter test base.paths

marker-has : (base : Lsps) (n : ℕ) → HasDropped base (marker_effect base n)
unfolding marker_effect
marker-has base n = dropping-has base n (is_stale_of n)

expire-has : (base : Lsps) (n : ℕ) → HasDropped base (expire_effect base n)
unfolding expire_effect
expire-has base n = dropping-has base n (is_of_peer n)

up-has : (base : Lsps) (n : ℕ) (sent : Option Capabilities) → HasDropped base (up_effect base n sent)
unfolding up_effect
up-has base n None = marker-has base n
up-has base n (Some c) = has_none base.paths

down-has : (base : Lsps) (n : ℕ) → HasDropped base (down_effect base n)
unfolding down_effect
down-has base n = has_none base.paths

-- ---- reports

report_by-has : (granted : Bool) (old : Option Lsp) (base : Lsps) (te : Ted) (n : ℕ) (r : StateReport) → HasDropped base (report_effect_by granted old base.paths te n r)
unfolding report_effect_by
report_by-has granted old base te n r = has_filter (goes_by_report granted n r) base.paths

removal_by-has : (granted : Bool) (base : Lsps) (n : ℕ) (r : StateReport) → HasDropped base (removal_effect_by granted base n r)
unfolding removal_effect_by
removal_by-has granted base n r = has_filter (goes_by_removal granted n r) base.paths

either-of : (base : Lsps) (removes : Bool) (removal report : Effect) → HasDropped base removal → HasDropped base report → HasDropped base (if removes then removal else report)
either-of base true removal report a b = a
either-of base false removal report a b = b

reported-has : (base : Lsps) (te : Ted) (n : ℕ) (r : StateReport) → HasDropped base (reported_effect base te n r)
unfolding reported_effect
reported-has base te n r = either-of base r.remove _ _ (removal_by-has (has_grant base.paths n r.plsp) base n r) (report_by-has (has_grant base.paths n r.plsp) _ base te n r)

allowed-has : (base : Lsps) (e given : Effect) (many : Bool) → HasDropped base given → (if many then Err TooManyPaths else Ok given) ≡ Ok e → HasDropped base e
allowed-has base e given true has is = absurd (cc (is))
allowed-has base e given false has is = let same : given ≡ e = cc in subst (HasDropped base) same has

result-has : (base : Lsps) (e given : Effect) (bad : Bool) → HasDropped base given → (if bad then Err BadReport else allowed base given) ≡ Ok e → HasDropped base e
result-has base e given true has is = absurd (cc (is))
result-has base e given false has is = allowed-has base e given (is_too_many base given) has is

report-has : (base : Lsps) (te : Ted) (n : ℕ) (r : StateReport) (e : Effect) → report_result base te n r ≡ Ok e → HasDropped base e
unfolding report_result
report-has base te n r e is = result-has base e (reported_effect base te n r) (is_reserved r.plsp) (reported-has base te n r) is

-- ---- what the PCE asks a peer for, and what the peer refuses

refused_by-has : (base : Lsps) (n srp : ℕ) (grants : List Path) → HasAll base.paths grants → HasDropped base (refused_by base n srp grants)
refused_by-has base n srp [] has = has_none base.paths
refused_by-has base n srp (x ∷ xs) has = has

refused-has : (base : Lsps) (n srp : ℕ) → HasDropped base (refused_effect base n srp)
unfolding refused_effect
refused-has base n srp = refused_by-has base n srp _ (has_filter (is_grant_as n srp) base.paths)

pub return-has : (base : Lsps) (plsp : ℕ) (lsp : Option Lsp) → HasDropped base (given_back plsp lsp)
return-has base plsp None = has_none base.paths
return-has base plsp (Some lsp) = has_none base.paths

-- ---- the same for an effect that was computed from equal LSPs

has-by : (base given : Lsps) (effect_on : Lsps → Effect) (e : Effect) → given ≡ base → e ≡ effect_on given → HasDropped base (effect_on base) → HasDropped base e
has-by base given effect_on e same is has = subst (HasDropped base) (sym (is ∙ ap effect_on same)) has

pub has_by_marker : (base given : Lsps) (n : ℕ) (e : Effect) → given ≡ base → e ≡ marker_effect given n → HasDropped base e
has_by_marker base given n e same is = has-by base given (λ b. marker_effect b n) e same is (marker-has base n)

pub has_by_expire : (base given : Lsps) (n : ℕ) (e : Effect) → given ≡ base → e ≡ expire_effect given n → HasDropped base e
has_by_expire base given n e same is = has-by base given (λ b. expire_effect b n) e same is (expire-has base n)

pub has_by_down : (base given : Lsps) (n : ℕ) (e : Effect) → given ≡ base → e ≡ down_effect given n → HasDropped base e
has_by_down base given n e same is = has-by base given (λ b. down_effect b n) e same is (down-has base n)

pub has_by_up : (base given : Lsps) (n : ℕ) (sent : Option Capabilities) (e : Effect) → given ≡ base → e ≡ up_effect given n sent → HasDropped base e
has_by_up base given n sent e same is = has-by base given (λ b. up_effect b n sent) e same is (up-has base n sent)

pub has_by_report : (base given : Lsps) (te known : Ted) (n : ℕ) (r : StateReport) (e : Effect) → given ≡ base → known ≡ te → report_result given known n r ≡ Ok e → HasDropped base e
has_by_report base given te known n r e same_base same_te is = report-has base te n r e (ap (λ b. report_result b te n r) (sym same_base) ∙ ap (λ t. report_result given t n r) (sym same_te) ∙ is)

pub has_by_refused : (base given : Lsps) (n srp : ℕ) (e : Effect) → given ≡ base → e ≡ refused_effect given n srp → HasDropped base e
has_by_refused base given n srp e same is = has-by base given (λ b. refused_effect b n srp) e same is (refused-has base n srp)

pub removal_asked-has : (base : Lsps) (srp plsp : ℕ) (lsp : Option Lsp) → HasDropped base (removal_asked srp plsp lsp)
removal_asked-has base srp plsp None = has_none base.paths
removal_asked-has base srp plsp (Some lsp) = has_none base.paths

pub has_by_removal : (base given : Lsps) (n srp plsp : ℕ) (e : Effect) → given ≡ base → e ≡ removal_asked srp plsp (lsp_at given.records n plsp) → HasDropped base e
has_by_removal base given n srp plsp e same is = has-by base given (λ b. removal_asked srp plsp (lsp_at b.records n plsp)) e same is (removal_asked-has base srp plsp (lsp_at base.records n plsp))
