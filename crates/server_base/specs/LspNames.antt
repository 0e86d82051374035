-- The names that the log uses for LSPs.
use Rattle.std.specs.Prelude.{ℕ, ◌≡◌, ◌==◌, ◌&&◌, ◌⊎◌, Bool, true, Option, Some, None, option_map, if◌then◌else◌}
use Rattle.indexmap.specs.IndexMap.{get}
use Rattle.pcep_messages.specs.declared.message.StateReport.{StateReport}
use Rattle.pcep_objects.specs.declared.object.Identifiers.{Identifiers}
use Rattle.server_base.specs.declared.lsp_names.Heard.{Heard}
use Rattle.server_base.specs.declared.lsp_names.Heard.TheVariants as heard
use Rattle.server_base.specs.declared.lsp_names.LspNames.{LspNames}
use Rattle.server_log.specs.Names.{begin_of}
use Rattle.server_log.specs.declared.shown_name.ShownName.{ShownName}
use Rattle.server_rules.specs.Retries.{is_same_lsp}
use Rattle.server_rules.specs.declared.retry.RouterLsp.{RouterLsp}

abbrev pub name_in : LspNames → RouterLsp → Option ShownName
name_in table lsp = get is_same_lsp table.names lsp

abbrev pub is_of_router : ℕ → RouterLsp → Bool
is_of_router peer q = q.peer == peer

-- ---- what a report says

abbrev pub lsp_of : ℕ → StateReport → RouterLsp
lsp_of peer report = record { peer = peer; plsp = report.plsp }

-- the identifiers are all zero, or there are none (RFC 8231 section 7.3.1)
abbrev pub are_unsignalled : Option Identifiers → Bool
are_unsignalled None = true
are_unsignalled (Some i) = i.sender == 0 && i.lsp == 0 && i.tunnel == 0 && i.extended == 0 && i.endpoint == 0

-- the report removes its LSP, and not only one path of it
abbrev pub removes_lsp : StateReport → Bool
removes_lsp report = report.remove && are_unsignalled report.identifiers

abbrev pub heard_name : Option ShownName → Heard
heard_name None = heard.Nothing
heard_name (Some name) = heard.Named name

-- that the LSP is gone, its name, or nothing
abbrev pub heard_in : StateReport → Heard
heard_in report = if removes_lsp report then heard.Gone else heard_name (option_map begin_of report.name)

-- ---- what the table then knows

-- this LSP has this name or none, and each other LSP has the name that it had
abbrev pub Renames : RouterLsp → Option ShownName → LspNames → LspNames → Type 0
Renames of name old new = (q : RouterLsp) → name_in new q ≡ (if is_same_lsp of q then name else name_in old q)

-- no LSP has a name, except that this one may have this name
abbrev pub BeginsAnew : RouterLsp → ShownName → LspNames → Type 0
BeginsAnew of name new = (q : RouterLsp) → (name_in new q ≡ None) ⊎ (name_in new q ≡ (if is_same_lsp of q then Some name else None))

-- the LSP has this name, and if there was no room for one more, the names of the others are forgotten
abbrev pub TakesName : RouterLsp → ShownName → LspNames → LspNames → Type 0
TakesName of name old new = Renames of (Some name) old new ⊎ BeginsAnew of name new

abbrev pub Hears : Heard → RouterLsp → LspNames → LspNames → Type 0
Hears heard.Gone of old new = Renames of None old new
Hears heard.Nothing of old new = (q : RouterLsp) → name_in new q ≡ name_in old q
Hears (heard.Named name) of old new = TakesName of name old new
