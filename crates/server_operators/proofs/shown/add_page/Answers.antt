use Rattle.server_operators.proofs.shown.add_page.Goals as goal

pub returns-clause-page : goal.returns-clause-page
returns-clause-page g c = (_, c.page_of.ensures.looked.received.begins, c.in_ok-page.ensures.page, c.in_ok-add_text.ensures)
