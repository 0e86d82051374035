-- The LSP of a request that its router refuses.
use Rattle.std.specs.Prelude.{ℕ, ◌==◌, List, [], find, Option, Some, None, if◌then◌else◌}
use Rattle.lsp_base.specs.Lsps.{lsp_at}
use Rattle.lsp_base.specs.Pending.{is_grant_as, is_removed_as}
use Rattle.lsp_base.specs.declared.effect.Record.{Record}
use Rattle.lsp_base.specs.declared.lsp.Lsp.{Lsp}
use Rattle.lsp_base.specs.declared.path.Path.{Path}
use Rattle.step_core.specs.Names.{is_of_grant}
use Rattle.step_core.specs.States.{State}
use Rattle.step_core.specs.declared.names.AwaitedName.{AwaitedName}
use Rattle.server_log.specs.Names.{begin_of}
use Rattle.server_log.specs.declared.shown_name.ShownName.{ShownName}
use Rattle.server_connections.specs.declared.asked.AskedLsp.{AskedLsp}

abbrev pub name_of : Option Lsp → ShownName
name_of None = begin_of []
name_of (Some lsp) = begin_of lsp.name

abbrev pub awaited_name : Option AwaitedName → ShownName
awaited_name None = begin_of []
awaited_name (Some awaited) = begin_of awaited.name

-- the LSP of a grant; if no report has bound the grant, it has PLSP-ID 0 and the name that was asked for
abbrev pub of_grant : State → ℕ → ℕ → Path → AskedLsp
of_grant s peer srp x = record {
  plsp = x.plsp;
  name = if x.plsp == 0 then awaited_name (find (is_of_grant peer srp) s.names) else name_of (lsp_at s.base.records peer x.plsp);
}

abbrev pub of_removal : Option Record → Option AskedLsp
of_removal None = None
of_removal (Some r) = Some (record { plsp = r.plsp; name = begin_of (r.lsp).name })

abbrev pub by_grant : State → ℕ → ℕ → Option Path → Option AskedLsp
by_grant s peer srp (Some x) = Some (of_grant s peer srp x)
by_grant s peer srp None = of_removal (find (is_removed_as peer srp) s.base.records)

-- the LSP of the grant of an SRP-ID, or else of the deletion that awaits it
abbrev pub asked_lsp : State → ℕ → ℕ → Option AskedLsp
asked_lsp s peer srp = by_grant s peer srp (find (is_grant_as peer srp) s.base.paths)
