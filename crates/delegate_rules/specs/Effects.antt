-- What a report does to paths and records.
use Rattle.std.specs.Prelude.{ℕ, ◌+◌, Bool, true, false, ◌==◌, ◌&&◌, ◌||◌, List, [], ◌∷◌, length, map, filter, Option, Some, is_none, Result, Ok, Err, if◌then◌else◌, nat_lt}
use Rattle.te_base.specs.Ted.{Ted}
use Rattle.lsp_base.specs.Lsps.{Lsps, lsp_at, is_path_of, ended_record, effect_of}
use Rattle.lsp_base.specs.Grants.{has_grant}
use Rattle.lsp_base.specs.declared.tunnel.Tunnel.{Tunnel}
use Rattle.lsp_base.specs.declared.tunnel.Tunnel.TheVariants.{Signalled, Unsignalled, Asked}
use Rattle.lsp_base.specs.declared.tunnel.Part.{Part}
use Rattle.lsp_base.specs.declared.tunnel.Part.TheVariants.{Reported, Granted}
use Rattle.lsp_base.specs.declared.path.Path.{Path}
use Rattle.lsp_base.specs.declared.lsp.Lsp.{Lsp}
use Rattle.lsp_base.specs.declared.effect.Effect.{Effect}
use Rattle.lsp_base.specs.declared.effect.RecordChange.{RecordChange}
use Rattle.lsp_base.specs.declared.why.Why.{Why}
use Rattle.lsp_base.specs.declared.why.Why.TheVariants.{BadReport, TooManyPaths}
use Rattle.pcep_messages.specs.declared.message.StateReport.{StateReport}
use Rattle.delegate_rules.specs.Reports.{identifiers_of, are_zero, is_down, reported_path, reported_lsp, old_removing}
use Rattle.delegate_rules.specs.Grants.{is_grant_met, is_grant_settled, moved_grants, is_grant_bound, bound_grant}

abbrev pub is_nil : {X : Type 0} → List X → Bool
is_nil [] = true
is_nil (x ∷ xs) = false

-- ---- a report that stands (R clear)

abbrev pub is_unsignalled : Tunnel → Bool
is_unsignalled (Unsignalled peer plsp) = true
is_unsignalled (Signalled peer endpoint tunnel extended) = false
is_unsignalled (Asked peer srp) = false

-- a reported path that a report with LSP ID i replaces: every one if the report's identifiers are all zero, else the
-- one of that LSP ID and the unsignalled one
abbrev pub is_replaced_part : Bool → ℕ → Tunnel → Part → Bool
is_replaced_part zero i t (Granted s) = false
is_replaced_part zero i t (Reported j) = zero || j == i || is_unsignalled t

abbrev pub is_replaced : ℕ → StateReport → Path → Bool
is_replaced peer r x = let i = identifiers_of r in is_path_of peer r.plsp x && is_replaced_part (are_zero i) i.lsp x.tunnel x.part

-- the paths that go: those that are replaced, and the grant that the report meets, in its old form
abbrev pub goes_by_report : Bool → ℕ → StateReport → Path → Bool
goes_by_report granted peer r x = is_replaced peer r x || is_grant_met granted peer r x

-- the peer gave the LSP no route, and nothing that the PCE asked for is awaited
abbrev pub wants_path : StateReport → List Path → Option Lsp → Bool
wants_path r grants old = r.delegate && is_down r.operational && is_nil r.ero && is_nil grants && is_none (old_removing old)

abbrev pub one_record : ℕ → Lsp → List RecordChange
one_record plsp lsp = record { plsp = plsp; lsp = Some lsp } ∷ []

-- the effect, given whether the LSP has a grant, and what was known of it
unfoldable pub report_effect_by : Bool → Option Lsp → List Path → Ted → ℕ → StateReport → Effect
report_effect_by granted old paths te peer r =
    let grants = moved_grants granted paths peer r in
    effect_of (filter (goes_by_report granted peer r) paths) (reported_path te peer r ∷ grants) (one_record r.plsp (reported_lsp peer r old)) (wants_path r grants old)

abbrev pub report_effect : Lsps → Ted → ℕ → StateReport → Effect
report_effect lsps te peer r = report_effect_by (has_grant lsps.paths peer r.plsp) (lsp_at lsps.records peer r.plsp) lsps.paths te peer r

-- ---- a removal (R set)

abbrev pub is_reported_as : ℕ → Part → Bool
is_reported_as i (Granted s) = false
is_reported_as i (Reported j) = j == i

-- the paths that a removal names: one, or all of the LSP, its grant included
abbrev pub is_removed : ℕ → StateReport → Path → Bool
is_removed peer r x = let i = identifiers_of r in is_path_of peer r.plsp x && (are_zero i || is_reported_as i.lsp x.part)

-- the paths that go: those that are named, and the grant that the removal settles, or binds, in its old form
abbrev pub goes_by_removal : Bool → ℕ → StateReport → Path → Bool
goes_by_removal granted peer r x = is_removed peer r x || is_grant_met granted peer r x && (is_grant_settled r x || x.plsp == 0)

-- a removal of all of the LSP's paths leaves no grant
abbrev pub bound_grants : Bool → List Path → ℕ → StateReport → List Path
bound_grants granted paths peer r = if are_zero (identifiers_of r) then [] else map (bound_grant r) (filter (is_grant_bound granted peer r) paths)

-- an LSP of which a grant was bound keeps its record
abbrev pub records_left : List Path → ℕ → ℕ → (Path → Bool) → List Path → List RecordChange
records_left paths peer plsp goes bound = if is_nil bound then ended_record paths peer plsp goes else []

unfoldable pub removal_effect_by : Bool → Lsps → ℕ → StateReport → Effect
removal_effect_by granted lsps peer r =
    let goes = goes_by_removal granted peer r in
    let bound = bound_grants granted lsps.paths peer r in
    effect_of (filter goes lsps.paths) bound (records_left lsps.paths peer r.plsp goes bound) false

abbrev pub removal_effect : Lsps → ℕ → StateReport → Effect
removal_effect lsps peer r = removal_effect_by (has_grant lsps.paths peer r.plsp) lsps peer r

-- ---- any report

unfoldable pub reported_effect : Lsps → Ted → ℕ → StateReport → Effect
reported_effect lsps te peer r = if r.remove then removal_effect lsps peer r else report_effect lsps te peer r

-- PLSP-ID 0 and the greatest are reserved (RFC 8231 section 7.3)
abbrev pub is_reserved : ℕ → Bool
is_reserved plsp = plsp == 0 || plsp == 0xFFFFF

-- there would be more than 16,384 paths after the effect
abbrev pub is_too_many : Lsps → Effect → Bool
is_too_many lsps e = nat_lt (16384 + length e.change.dropped) (length lsps.paths + length e.change.added)

abbrev pub allowed : Lsps → Effect → Result Effect Why
allowed lsps e = if is_too_many lsps e then Err TooManyPaths else Ok e

-- the effect, or why the report is refused
unfoldable pub report_result : Lsps → Ted → ℕ → StateReport → Result Effect Why
report_result lsps te peer r = if is_reserved r.plsp then Err BadReport else allowed lsps (reported_effect lsps te peer r)
