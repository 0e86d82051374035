use Rattle.std.proofs.Common.{List, ℕ, option_map, ◌∙◌, ap}
use Rattle.server_talk.specs.Requests.{explained_in}
use Rattle.server_talk.proofs.Requesting.{all_kept, explains_what_is_asked}
use Rattle.server_talk.proofs.pending.OpenLine.explained.Goals as goal

pub returns-in-Ok : goal.returns-in-Ok
returns-in-Ok c = λ line kept.
    explains_what_is_asked (option_map (λ asked. asked.now) c.explained_in.result) (explained_in line)
    (c.explained_in.ensures ∙ ap (λ (text : List ℕ). explained_in text) (c.in-Ok.ensures.cases.0 ∙ c.deref.ensures.value ∙ all_kept c.args.self.now.is_long c.args.self.now.bytes.items line c.if-self.false kept.kept))
