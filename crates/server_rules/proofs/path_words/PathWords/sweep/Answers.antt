use Rattle.std.proofs.Common.{◌||◌, not, cond, Some, is_some, unwrap_or, rules, arith}
use Rattle.server_rules.specs.declared.path_word.PathKey.{PathKey}
use Rattle.server_rules.specs.declared.path_word.PathNoted.{PathNoted}
use Rattle.server_rules.specs.PathWords.{changed, concerns, is_same_path}
use Rattle.server_rules.proofs.Kept.{lookup_kept}
use Rattle.server_rules.proofs.Keyeds.{several}
use Rattle.server_rules.proofs.PathTables.{adds, path-eq, path_laws}
use Rattle.server_rules.proofs.path_words.PathWords.sweep.Goals as goal

pub returns : goal.returns
returns c =
    let h = c.args.what in
    let keep = λ (q : PathKey) (n : PathNoted). not (concerns h q) || is_some (changed h (Some n)) in
    let put = λ (q : PathKey) (n : PathNoted). cond (concerns h q) (unwrap_or (changed h (Some n)) n) n in
    adds c.args.self.now (record { paths = c.retain.new.self }) h (λ few. omega (arith, c.retain.ensures.bound)) c.retain.ensures.unique
    (λ unique. several is_same_path path-eq concerns changed c.args.self.now.paths c.retain.new.self h c.requires
    (λ q. lookup_kept is_same_path path_laws path-eq _ keep put _ (λ k v b w g t. search rules) q _ _ unique c.retain.ensures.filtered))
