-- What reports and removals pick is among the LSP's paths and the peer's grants that are not bound.
use Rattle.std.proofs.Common.{◌≡◌, ◌&&◌, ◌||◌, ◌⊎◌, inl, inr, ℕ, Bool, true, false, not, eqb}
use Rattle.std.proofs.lemmas.Bool.{and_parts, or_cases, or_left, or_right}
use Rattle.lsp_base.specs.Lsps.{is_path_of}
use Rattle.lsp_base.specs.Tables.{PicksFrom}
use Rattle.lsp_base.specs.declared.path.Path.{Path}
use Rattle.pcep_messages.specs.declared.message.StateReport.{StateReport}
use Rattle.delegate_rules.specs.Effects.{goes_by_report, goes_by_removal, is_replaced, is_removed}
use Rattle.delegate_rules.specs.Grants.{is_grant_met, is_grant_settled, is_grant_kept, is_grant_bound}

met : (granted : Bool) (peer : ℕ) (r : StateReport) (x : Path) → is_grant_met granted peer r x ≡ true → (is_path_of peer r.plsp x || is_path_of peer 0 x) ≡ true
met true peer r x e = or_left (is_path_of peer r.plsp x) (is_path_of peer 0 x) (and_parts (is_path_of peer r.plsp x) _ e).0
met false peer r x e = or_right (is_path_of peer r.plsp x) (is_path_of peer 0 x) (and_parts (eqb x.peer peer && eqb x.plsp 0) _ e).0

pub report_picks : (granted : Bool) (peer : ℕ) (r : StateReport) → PicksFrom (goes_by_report granted peer r) peer r.plsp
report_picks granted peer r = record { of = λ x e. by x (or_cases (is_replaced peer r x) (is_grant_met granted peer r x) e) }
  where
    by : (x : Path) → (is_replaced peer r x ≡ true) ⊎ (is_grant_met granted peer r x ≡ true) → (is_path_of peer r.plsp x || is_path_of peer 0 x) ≡ true
    by x (inl e) = or_left (is_path_of peer r.plsp x) (is_path_of peer 0 x) (and_parts (is_path_of peer r.plsp x) _ e).0
    by x (inr e) = met granted peer r x e

pub removal_picks : (granted : Bool) (peer : ℕ) (r : StateReport) → PicksFrom (goes_by_removal granted peer r) peer r.plsp
removal_picks granted peer r = record { of = λ x e. by x (or_cases (is_removed peer r x) _ e) }
  where
    by : (x : Path) → (is_removed peer r x ≡ true) ⊎ ((is_grant_met granted peer r x && (is_grant_settled r x || eqb x.plsp 0)) ≡ true) → (is_path_of peer r.plsp x || is_path_of peer 0 x) ≡ true
    by x (inl e) = or_left (is_path_of peer r.plsp x) (is_path_of peer 0 x) (and_parts (is_path_of peer r.plsp x) _ e).0
    by x (inr e) = met granted peer r x (and_parts (is_grant_met granted peer r x) _ e).0

pub kept_picks : (granted : Bool) (peer : ℕ) (r : StateReport) → PicksFrom (is_grant_kept granted peer r) peer r.plsp
kept_picks granted peer r = record { of = λ x e. met granted peer r x (and_parts (is_grant_met granted peer r x) (not (is_grant_settled r x)) e).0 }

pub bound_picks : (granted : Bool) (peer : ℕ) (r : StateReport) → PicksFrom (is_grant_bound granted peer r) peer r.plsp
bound_picks granted peer r = record { of = λ x e. (kept_picks granted peer r).of x (and_parts (is_grant_kept granted peer r x) (eqb x.plsp 0) e).0 }
