use Rattle.std.proofs.Common.{◌∙◌, None, Some, sym, ap, arith}
use Rattle.server_rules.specs.Retries.{changed}
use Rattle.server_rules.proofs.Keyeds.{still_few}
use Rattle.server_rules.proofs.RetryTables.{nothing_is, own}
use Rattle.server_rules.proofs.retry_table.RetryTable.note_of.Goals as goal

pub returns-then-is_nothing-clause-ok : goal.returns-then-is_nothing-clause-ok
returns-then-is_nothing-clause-ok c =
    own c.args.self.now (record { lsps = c.swap_remove-state.new.self }) c.args.what (λ few. omega (arith, c.swap_remove-state.ensures.len)) c.swap_remove-state.ensures.unique
    c.args.lsp None c.requires (λ q. c.swap_remove-state.ensures.updates.0 q)
    (nothing_is c.changed-state.result (sym c.is_nothing.ensures ∙ c.if-is_nothing.true) ∙ c.changed-state.ensures ∙ ap (changed c.args.what) c.known.ensures)

pub returns-clause-ok : goal.returns-clause-ok
returns-clause-ok c =
    own c.args.self.now (record { lsps = c.insert.new.self }) c.args.what
    (still_few c.in_ok-insert.field-0 _ _ 16384 c.in_ok-insert.ensures.len (λ none. c.is_full_for.ensures.room c.if-is_full_for.false (sym c.in_ok-insert.ensures.old ∙ none))) c.in_ok-insert.ensures.unique
    c.args.lsp (Some c.changed-state.result) c.requires (λ q. c.in_ok-insert.ensures.updates.0 q)
    (c.changed-state.ensures ∙ ap (changed c.args.what) c.known.ensures)
