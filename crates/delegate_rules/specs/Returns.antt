-- What happens if the PCE gives an LSP back to its peer (RFC 8231 section 5.7.3).
use Rattle.std.specs.Prelude.{ℕ, false, not, [], Option, Some, None, is_some, Result}
use Rattle.lsp_base.specs.Lsps.{Lsps, lsp_at, effect_of, no_effect}
use Rattle.lsp_base.specs.Pending.{is_delegated, is_pending}
use Rattle.lsp_base.specs.Refusals.{unless, ◌⨟◌, answered_unless}
use Rattle.lsp_base.specs.declared.lsp.Lsp.{Lsp}
use Rattle.lsp_base.specs.declared.effect.Effect.{Effect}
use Rattle.lsp_base.specs.declared.why.Why.{Why}
use Rattle.lsp_base.specs.declared.why.Why.TheVariants.{UnknownLsp, NotDelegated, Pending}
use Rattle.delegate_rules.specs.Effects.{one_record}

-- the LSP exists and is delegated, and no grant or removal of it is awaited
abbrev pub must_be_held : Lsps → ℕ → ℕ → Option Why
must_be_held lsps peer plsp =
    let lsp = lsp_at lsps.records peer plsp in
    unless (is_some lsp) UnknownLsp ⨟ unless (is_delegated lsp) NotDelegated ⨟ unless (not (is_pending lsps peer plsp)) Pending

abbrev pub undelegated : Lsp → Lsp
undelegated lsp = record lsp { delegated = false }

-- the LSP is not delegated any more, and nothing else changes
abbrev pub given_back : ℕ → Option Lsp → Effect
given_back plsp None = no_effect
given_back plsp (Some lsp) = effect_of [] [] (one_record plsp (undelegated lsp)) false

-- the effect, or why the LSP isn't given back
unfoldable pub return_result : Lsps → ℕ → ℕ → Result Effect Why
return_result lsps peer plsp = answered_unless (must_be_held lsps peer plsp) (given_back plsp (lsp_at lsps.records peer plsp))
