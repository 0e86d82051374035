use Rattle.history_tokens.proofs.Beginnings.{prefix_trans}
use Rattle.server_viewers.proofs.viewers.sure_text.Goals as goal

pub returns-in-Err-clause-begins : goal.returns-in-Err-clause-begins
returns-in-Err-clause-begins g c = prefix_trans _ c.document_text.new.front _ c.document_text.ensures.begins c.document_text-in-Err.ensures.begins
