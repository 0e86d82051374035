-- document_text
use Rattle.server_viewers.proofs.viewers.document_text.Goals as goal

pub returns-clause-text : goal.returns-clause-text
returns-clause-text g c = record { info = c.args.info.now; next = c.in_ok-page_of.field-0.next; page = c.in_ok-page_of.ensures.page }
