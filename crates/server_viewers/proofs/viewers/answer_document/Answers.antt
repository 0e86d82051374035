use Rattle.std.proofs.lemmas.Result.{on_ok_weaker}
use Rattle.server_viewers.proofs.viewers.answer_document.Goals as goal

pub returns-clause-answer : goal.returns-clause-answer
returns-clause-answer g c = on_ok_weaker c.give_document.result (λ given. (c.in_ok-text.text.items, c.in_ok-text.ensures.text, given)) c.give_document.ensures
