use Rattle.std.proofs.Common.{None, refl, arith}
use Rattle.server_rules.specs.declared.path_word.PathHappening.TheVariants.{PathRemoved}
use Rattle.server_rules.specs.PathWords.{changed, concerns, is_same_path}
use Rattle.server_rules.proofs.Keyeds.{one}
use Rattle.server_rules.proofs.PathTables.{adds, path-eq}
use Rattle.server_rules.proofs.path_words.PathWords.remove.Goals as goal

pub returns : goal.returns
returns c =
    let h = PathRemoved c.args.of in
    adds c.args.self.now (record { paths = c.swap_remove-noted.new.self }) h (λ few. omega (arith, c.swap_remove-noted.ensures.len)) c.swap_remove-noted.ensures.unique
    (λ unique. one is_same_path path-eq concerns changed c.args.self.now.paths c.swap_remove-noted.new.self h c.args.of None (λ q. refl)
    (λ q. c.swap_remove-noted.ensures.updates.0 q) refl)
