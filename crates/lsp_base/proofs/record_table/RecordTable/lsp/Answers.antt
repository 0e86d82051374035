use Rattle.std.proofs.Common.{option_copied, option_map, ap, sym, ◌∙◌}
use Rattle.lsp_base.specs.declared.effect.Record.{Record}
use Rattle.lsp_base.specs.Lsps.{lsp_at}
use Rattle.lsp_base.proofs.RecordEntries.{found}
use Rattle.lsp_base.proofs.record_table.RecordTable.lsp.Goals as goal

pub returns-in-Some : goal.returns-in-Some
returns-in-Some c =
    ap (option_map (λ (r : Record). r.lsp)) (sym (ap option_copied c.in-Some.is) ∙ c.get.ensures.value)
    ∙ found (record { peer = c.args.peer; plsp = c.args.plsp }) _ c.self.invariant.0 ∙ ap (λ t. lsp_at t.records c.args.peer c.args.plsp) c.self.view_is

pub returns-in-None : goal.returns-in-None
returns-in-None c =
    ap (option_map (λ (r : Record). r.lsp)) (sym (ap option_copied c.in-None.is) ∙ c.get.ensures.value)
    ∙ found (record { peer = c.args.peer; plsp = c.args.plsp }) _ c.self.invariant.0 ∙ ap (λ t. lsp_at t.records c.args.peer c.args.plsp) c.self.view_is
