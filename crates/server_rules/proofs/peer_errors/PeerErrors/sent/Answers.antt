use Rattle.std.proofs.Common.{Some, refl, sym, ◌∙◌}
use Rattle.server_rules.specs.declared.peer_errors.PcErrHappening.TheVariants.{Sent}
use Rattle.server_rules.specs.PcErrs.{changed, concerns}
use Rattle.server_rules.specs.Retries.{is_same_lsp}
use Rattle.server_rules.proofs.Keyeds.{one, still_few}
use Rattle.server_rules.proofs.ErrorTables.{adds}
use Rattle.server_rules.proofs.RetryTables.{lsp-eq}
use Rattle.server_rules.proofs.peer_errors.PeerErrors.sent.Goals as goal

pub returns-clause-ok : goal.returns-clause-ok
returns-clause-ok c =
    let h = Sent c.args.of c.args.error in
    adds c.args.self.now (record { errors = c.insert.new.self }) h
    (still_few c.in_ok-insert.field-0 _ _ 16384 c.in_ok-insert.ensures.len (λ none. c.is_full_for.ensures.room c.if-is_full_for.false (sym c.in_ok-insert.ensures.old ∙ none)))
    c.in_ok-insert.ensures.unique
    (λ unique. one is_same_lsp lsp-eq concerns changed c.args.self.now.errors c.insert.new.self h c.args.of
    (Some c.args.error) (λ q. refl) (λ q. c.in_ok-insert.ensures.updates.0 q) refl)
