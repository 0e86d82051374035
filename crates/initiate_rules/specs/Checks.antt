-- Why an initiation or a deletion is refused (RFC 8281 sections 5.3 and 5.4).
use Rattle.std.specs.Prelude.{ℕ, Bool, ◌==◌, ◌&&◌, ◌||◌, not, List, Option, is_some}
use Rattle.std.specs.List.{list_any}
use Rattle.lsp_base.specs.Lsps.{Lsps, lsp_at}
use Rattle.lsp_base.specs.Same.{same_links}
use Rattle.lsp_base.specs.Pending.{is_delegated, is_created, is_pending}
use Rattle.lsp_base.specs.Refusals.{unless, ◌⨟◌}
use Rattle.lsp_base.specs.declared.effect.Record.{Record}
use Rattle.lsp_base.specs.declared.why.Why.{Why}
use Rattle.lsp_base.specs.declared.why.Why.TheVariants.{UnknownLsp, NotCreatedHere, NotDelegated, Pending, NameInUse}

-- an LSP of the peer has the name
abbrev pub is_named : ℕ → List ℕ → Record → Bool
is_named peer name r = r.peer == peer && same_links (r.lsp).name name

-- the name must be new; it is held if something that the PCE asks for or granted, and that no report has named yet, has
-- it
abbrev pub must_be_new : Lsps → ℕ → List ℕ → Bool → Option Why
must_be_new lsps peer name held = unless (not (list_any (is_named peer name) lsps.records || held)) NameInUse

-- the PCE initiated the LSP and still holds it, and awaits nothing of it
abbrev pub may_be_deleted : Lsps → ℕ → ℕ → Option Why
may_be_deleted lsps peer plsp =
    let lsp = lsp_at lsps.records peer plsp in
    unless (is_some lsp) UnknownLsp ⨟ unless (is_created lsp) NotCreatedHere ⨟ unless (is_delegated lsp) NotDelegated ⨟ unless (not (is_pending lsps peer plsp)) Pending
