use Rattle.std.proofs.Common.{◌≡◌, sym, ap, ◌∙◌}
use Rattle.server_rules.specs.declared.pausing.Trial.{Trial}
use Rattle.server_rules.specs.declared.pausing.PauseHappening.{PauseHappening}
use Rattle.server_rules.specs.declared.pausing.PauseHappening.TheVariants.{Granted}
use Rattle.server_rules.specs.Pauses.{after, granted, pause_from, trial_of, with_trial}
use Rattle.server_rules.proofs.read_pause.ReadPause.note.Goals as goal

pub returns-in-Granted-clause-adds : goal.returns-in-Granted-clause-adds
returns-in-Granted-clause-adds c = λ past is.
    let k = c.args.self.now in
    let plsp = c.in-Granted.plsp in
    let now_ms = c.in-Granted.now_ms in
    let trial : c.granted-trial.result ≡ granted plsp now_ms (trial_of plsp now_ms k.trials) = c.granted-trial.ensures ∙ ap (granted plsp now_ms) c.trial.ensures in
    c.watch.ensures ∙ ap (λ (t : Trial). record k { trials = with_trial t k.trials }) trial ∙ ap (after (Granted plsp now_ms)) is
    ∙ ap (λ (what : PauseHappening). after what (pause_from past)) (sym c.in-Granted.is)
