use Rattle.std.proofs.Common.{[], ◌∙◌, Some, ap, refl, sym}
use Rattle.server_talk.specs.declared.requests.Request.{Request}
use Rattle.server_talk.specs.Requests.{request_of}
use Rattle.server_talk.specs.Operators.IsAnswered.{Refused}
use Rattle.server_talk.specs.Servers.{server_of}
use Rattle.server_talk.proofs.Operating.{came_starved}
use Rattle.server_talk.proofs.Requesting.{some_asked}
use Rattle.server_talk.proofs.commands.answer_once.Goals as goal

pub returns-in-Err : goal.returns-in-Err
returns-in-Err g c = λ number text kept.
    came_starved (server_of g.D.Store g.D.ServerStore.is_left g.D.Show.has_links g.D.Show.names g.D.Show.shows g.P.Plan.reads c.args.plan.now) number text c.args.store.now c.args.store.now (some_asked c.in-Err.field-0 (request_of text) (c.in-Err.ensures text kept)) (g.met.D.Store.moves_nowhere c.args.store.now)

pub returns-in-None : goal.returns-in-None
returns-in-None g c = λ number text kept. ([], Refused (sym (c.in-Ok.ensures text kept) ∙ c.in-None.is))

pub returns-in-Some-Submit : goal.returns-in-Some-Submit
returns-in-Some-Submit g c = λ number text kept.
    c.submit.ensures number text (sym (c.in-Ok.ensures text kept) ∙ c.in-Some-Submit.is ∙ ap (λ (r : Request). Some r) c.in-Some-Submit.field-0-is)

pub returns-in-Some-Book : goal.returns-in-Some-Book
returns-in-Some-Book g c = λ number text kept.
    c.show_book.ensures number text (sym (c.in-Ok.ensures text kept) ∙ c.in-Some-Book.is ∙ ap (λ (r : Request). Some r) c.in-Some-Book.field-0-is)

pub returns-in-Some-Check : goal.returns-in-Some-Check
returns-in-Some-Check g c = λ number text kept.
    c.check_reload.ensures number text (sym (c.in-Ok.ensures text kept) ∙ c.in-Some-Check.is ∙ ap (λ (r : Request). Some r) c.in-Some-Check.field-0-is)

pub returns-in-Some-End : goal.returns-in-Some-End
returns-in-Some-End g c = λ number text kept.
    (sym (c.in-Ok.ensures text kept) ∙ c.in-Some-End.is ∙ ap (λ (r : Request). Some r) c.in-Some-End.field-0-is, refl)

pub returns-in-Some-Reload : goal.returns-in-Some-Reload
returns-in-Some-Reload g c = λ number text kept.
    c.reload.ensures number text (sym (c.in-Ok.ensures text kept) ∙ c.in-Some-Reload.is ∙ ap (λ (r : Request). Some r) c.in-Some-Reload.field-0-is)

pub returns-in-Some-View : goal.returns-in-Some-View
returns-in-Some-View g c = λ number text kept.
    c.show_view.ensures number text (sym (c.in-Ok.ensures text kept) ∙ c.in-Some-View.is ∙ ap (λ (r : Request). Some r) c.in-Some-View.field-0-is)
