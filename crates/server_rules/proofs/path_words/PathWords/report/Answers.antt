use Rattle.std.proofs.Common.{true, Some, refl, sym, ◌∙◌}
use Rattle.server_rules.specs.declared.path_word.PathHappening.TheVariants.{Reported}
use Rattle.server_rules.specs.PathWords.{changed, concerns, is_same_path}
use Rattle.server_rules.proofs.Keyeds.{one, still_few}
use Rattle.server_rules.proofs.PathTables.{adds, path-eq}
use Rattle.server_rules.proofs.path_words.PathWords.report.Goals as goal

pub returns-clause-ok : goal.returns-clause-ok
returns-clause-ok c =
    let h = Reported c.args.of c.args.word in
    adds c.args.self.now (record { paths = c.insert.new.self }) h
    (still_few c.in_ok-insert.field-0 _ _ 16384 c.in_ok-insert.ensures.len (λ none. c.is_full_for.ensures.room c.if-is_full_for.false (sym c.in_ok-insert.ensures.old ∙ none)))
    c.in_ok-insert.ensures.unique
    (λ unique. one is_same_path path-eq concerns changed c.args.self.now.paths c.insert.new.self h c.args.of
    (Some (record { word = c.args.word; is_current = true })) (λ q. refl) (λ q. c.in_ok-insert.ensures.updates.0 q) refl)
