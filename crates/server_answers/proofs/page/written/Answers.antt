use Rattle.std.proofs.lemmas.Result.{IfOk-weaker}
use Rattle.server_answers.proofs.page.written.Goals as goal

pub returns : goal.returns
returns g c = IfOk-weaker c.answer_text.result _ _ (λ text h. (c.hear.new.heard, h)) c.answer_text.ensures
