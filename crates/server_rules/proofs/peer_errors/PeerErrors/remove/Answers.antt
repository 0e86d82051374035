use Rattle.std.proofs.Common.{None, refl, arith}
use Rattle.server_rules.specs.declared.peer_errors.PcErrHappening.TheVariants.{LspRemoved}
use Rattle.server_rules.specs.PcErrs.{changed, concerns}
use Rattle.server_rules.specs.Retries.{is_same_lsp}
use Rattle.server_rules.proofs.Keyeds.{one}
use Rattle.server_rules.proofs.ErrorTables.{adds}
use Rattle.server_rules.proofs.RetryTables.{lsp-eq}
use Rattle.server_rules.proofs.peer_errors.PeerErrors.remove.Goals as goal

pub returns : goal.returns
returns c =
    let h = LspRemoved c.args.of in
    adds c.args.self.now (record { errors = c.swap_remove-error.new.self }) h (λ few. omega (arith, c.swap_remove-error.ensures.len)) c.swap_remove-error.ensures.unique
    (λ unique. one is_same_lsp lsp-eq concerns changed c.args.self.now.errors c.swap_remove-error.new.self h c.args.of None (λ q. refl)
    (λ q. c.swap_remove-error.ensures.updates.0 q) refl)
