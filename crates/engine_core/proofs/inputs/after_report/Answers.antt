use Rattle.std.proofs.Common.{sym, ap, ◌∙◌}
use Rattle.step_core.specs.declared.event.Reply.TheVariants as replies
use Rattle.engine_core.specs.Calls.{newest_reply}
use Rattle.engine_core.proofs.Cases.{report_refused, report_booked, report_taken}
use Rattle.engine_core.proofs.inputs.after_report.Goals as goal

pub returns-in-Refused : goal.returns-in-Refused
returns-in-Refused g c = λ go_on.
    report_refused g.S.Store.moves g.S.Store.is_full c.refuse_report.result c.args.store.now c.args.client.now c.refuse_report.new.client c.args.peer c.args.plsp c.args.srp (newest_reply (g.S.Store.calls c.args.store.now)) c.in-Refused.field-0 go_on
    (sym c.reply.ensures ∙ c.in-Refused.is) (g.met.S.Store.moves_nowhere c.args.store.now) c.refuse_report.ensures.answered c.refuse_report.ensures.unchanged c.refuse_report.ensures.only_memory

pub returns-in_default : goal.returns-in_default
returns-in_default g c = λ go_on.
    report_taken g.S.Store.moves c.args.store.now c.args.client.now c.args.peer c.args.plsp c.args.srp (newest_reply (g.S.Store.calls c.args.store.now)) go_on (λ why is. c.in_default.not-Refused why (c.reply.ensures ∙ is)) (λ wants is. c.in_default.not-Booked wants (c.reply.ensures ∙ is)) (g.met.S.Store.moves_nowhere c.args.store.now)

pub returns-else-wants_path : goal.returns-else-wants_path
returns-else-wants_path g c = λ go_on.
    report_booked g.S.Store.moves c.args.store.now c.args.client.now c.args.peer c.args.plsp c.args.srp (newest_reply (g.S.Store.calls c.args.store.now)) go_on (sym c.reply.ensures ∙ c.in-Booked.is ∙ ap replies.Booked c.if-wants_path.false) (g.met.S.Store.moves_nowhere c.args.store.now)
