-- After a report that isn't refused there are at most 16,384 paths.
use Rattle.std.proofs.Common.{◌≡◌, ℕ, ◌+◌, Bool, true, false, cond, length, refl, sym, subst}
use Rattle.std.specs.Prelude.{filter}
use Rattle.std.proofs.lemmas.Bool.{ltb-false}
use Rattle.te_base.specs.Ted.{Ted}
use Rattle.lsp_base.specs.Lsps.{Lsps}
use Rattle.lsp_base.specs.Grants.{has_grant}
use Rattle.lsp_base.specs.Rooms.{IsWithinLimit}
use Rattle.lsp_base.specs.declared.effect.Effect.{Effect}
use Rattle.lsp_base.specs.declared.path.Path.{Path}
use Rattle.lsp_base.proofs.Removal.{IsWithinLimit-effect}
use Rattle.pcep_messages.specs.declared.message.StateReport.{StateReport}
use Rattle.delegate_rules.specs.Effects.{goes_by_report, goes_by_removal, report_effect, removal_effect, report_effect_by, removal_effect_by, reported_effect, is_too_many}

-- an effect that drops chosen paths, and adds few enough
IsWithinLimit-few : (lsps : Lsps) (test : Path → Bool) (e : Effect) → e.change.dropped ≡ filter test lsps.paths → is_too_many lsps e ≡ false → IsWithinLimit lsps e
IsWithinLimit-few lsps test e d h = IsWithinLimit-effect lsps test e.change.dropped e.change.added e.records e.wants_path d (ltb-false (16384 + length e.change.dropped) (length lsps.paths + length e.change.added) h)

IsWithinLimit-reported : (lsps : Lsps) (te : Ted) (peer : ℕ) (r : StateReport) → is_too_many lsps (reported_effect lsps te peer r) ≡ false → IsWithinLimit lsps (reported_effect lsps te peer r)
unfolding reported_effect report_effect_by removal_effect_by
IsWithinLimit-reported lsps te peer r = by r.remove
  where
    by : (b : Bool) → is_too_many lsps (cond b (removal_effect lsps peer r) (report_effect lsps te peer r)) ≡ false → IsWithinLimit lsps (cond b (removal_effect lsps peer r) (report_effect lsps te peer r))
    by true h = IsWithinLimit-few lsps (goes_by_removal (has_grant lsps.paths peer r.plsp) peer r) (removal_effect lsps peer r) refl h
    by false h = IsWithinLimit-few lsps (goes_by_report (has_grant lsps.paths peer r.plsp) peer r) (report_effect lsps te peer r) refl h

pub IsWithinLimit-report : (lsps : Lsps) (te : Ted) (peer : ℕ) (r : StateReport) (e : Effect) → e ≡ reported_effect lsps te peer r → is_too_many lsps e ≡ false → IsWithinLimit lsps e
IsWithinLimit-report lsps te peer r e same few =
    let P : Effect → Type 0 = λ x. is_too_many lsps x ≡ false → IsWithinLimit lsps x in
    subst P (sym same) (IsWithinLimit-reported lsps te peer r) few
