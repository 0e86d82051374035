-- What happens if a peer refuses a request of the PCE: a PCErr names the SRP-ID (RFC 8231 section 6.3).
use Rattle.std.specs.Prelude.{ℕ, Bool, false, ◌&&◌, not, List, [], ◌∷◌, map, filter, Some, None, is_some, if◌then◌else◌}
use Rattle.std.specs.List.{list_any, flat_map}
use Rattle.lsp_base.specs.Lsps.{Lsps, lsp_at, is_path_of, effect_of}
use Rattle.lsp_base.specs.Pending.{is_grant_as, is_removed_as}
use Rattle.lsp_base.specs.declared.path.Path.{Path}
use Rattle.lsp_base.specs.declared.effect.Effect.{Effect}
use Rattle.lsp_base.specs.declared.effect.Record.{Record}
use Rattle.lsp_base.specs.declared.effect.RecordChange.{RecordChange}

-- the LSP keeps no path if the peer's grants of the SRP-ID go
abbrev pub has_no_other : List Path → ℕ → ℕ → ℕ → Bool
has_no_other paths peer srp plsp = not (list_any (λ x. not (is_grant_as peer srp x) && is_path_of peer plsp x) paths)

-- the record of a grant's LSP goes if no path of it stays
abbrev pub record_ended : Lsps → ℕ → ℕ → Path → List RecordChange
record_ended lsps peer srp grant =
    if is_some (lsp_at lsps.records peer grant.plsp) && has_no_other lsps.paths peer srp grant.plsp then record { plsp = grant.plsp; lsp = None } ∷ [] else []

abbrev pub records_ended : Lsps → ℕ → ℕ → List Path → List RecordChange
records_ended lsps peer srp grants = flat_map (record_ended lsps peer srp) grants

-- the LSP's removal isn't awaited any more
abbrev pub removal_cleared : Record → RecordChange
removal_cleared r = record { plsp = r.plsp; lsp = Some (record (r.lsp) { removing = None }) }

abbrev pub removals_cleared : Lsps → ℕ → ℕ → List RecordChange
removals_cleared lsps peer srp = map removal_cleared (filter (is_removed_as peer srp) lsps.records)

-- the peer's grant of the SRP-ID goes; if no grant has it, the removal that has it isn't awaited any more
abbrev pub refused_by : Lsps → ℕ → ℕ → List Path → Effect
refused_by lsps peer srp [] = effect_of [] [] (removals_cleared lsps peer srp) false
refused_by lsps peer srp (grant ∷ grants) = effect_of (grant ∷ grants) [] (records_ended lsps peer srp (grant ∷ grants)) false

unfoldable pub refused_effect : Lsps → ℕ → ℕ → Effect
refused_effect lsps peer srp = refused_by lsps peer srp (filter (is_grant_as peer srp) lsps.paths)
