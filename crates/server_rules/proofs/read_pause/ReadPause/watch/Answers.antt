use Rattle.std.proofs.Common.{◌≡◌, ◌++◌, [], ◌∷◌, Bool, is_ok, true, cond, rules, ap, ◌∙◌, arith}
use Rattle.std.proofs.lemmas.Fn.{filter_same}
use Rattle.server_rules.specs.Pauses.{Paused, others, with_trial}
use Rattle.server_rules.proofs.Watched.{with_room, without_room}
use Rattle.server_rules.proofs.read_pause.ReadPause.watch.Goals as goal

pub returns-then-len-lt-WATCHED : goal.returns-then-len-lt-WATCHED
returns-then-len-lt-WATCHED c =
    let t = c.args.trial in
    let kept : c.retain.new.self.items ≡ others t c.self.inside.trials.items = filter_same _ _ _ (λ x b f' k. search rules) _ _ c.retain.ensures.filtered in
    let ok : is_ok c.push-pushed.result ≡ true = c.push-pushed.ensures.succeeds (omega arith) in
    let pushed : c.push-pushed.new.self.items ≡ c.retain.new.self.items ++ t ∷ [] =
    c.push-pushed.ensures.items ∙ ap (λ (b : Bool). cond b (c.retain.new.self.items ++ t ∷ []) c.retain.new.self.items) ok in
    let trials = pushed ∙ with_room t c.self.inside.trials.items c.retain.new.self.items kept (omega arith) ∙ ap (λ (p : Paused). with_trial t p.trials) c.self.view_is in
    λ j. record { trials = trials j; pausing = ap (λ (p : Paused). p.pausing) c.self.view_is j }

pub returns-else-len-lt-WATCHED : goal.returns-else-len-lt-WATCHED
returns-else-len-lt-WATCHED c =
    let t = c.args.trial in
    let kept : c.retain.new.self.items ≡ others t c.self.inside.trials.items = filter_same _ _ _ (λ x b f' k. search rules) _ _ c.retain.ensures.filtered in
    let trials = without_room t c.self.inside.trials.items c.retain.new.self.items kept (omega arith) ∙ ap (λ (p : Paused). with_trial t p.trials) c.self.view_is in
    λ j. record { trials = trials j; pausing = ap (λ (p : Paused). p.pausing) c.self.view_is j }
