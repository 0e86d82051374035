use Rattle.std.proofs.Common.{◌≡◌, ℕ, List, [], ◌∷◌, ◌++◌, ◌∙◌, ap}
use Rattle.step_core.specs.declared.event.Reply.{Reply}
use Rattle.engine_core.specs.Deeds.{Called}
use Rattle.engine_core.specs.declared.store.Call.{Call}
use Rattle.engine_core.proofs.Carrying.{last_of}
use Rattle.script_lines.specs.Texts.{reply_text}
use Rattle.script_lines.proofs.commands.answer_event.Goals as goal

pub returns : goal.returns
returns g c =
    let h = c.in_ok-submit.ensures.submitted in
    let call : Call = record { event = c.args.event; reply = h.0 } in
    let added : g.S.Store.calls c.submit.new.self ≡ g.S.Store.calls c.args.store.now ++ call ∷ [] = g.met.S.Store.moves_add c.args.store.now c.submit.new.self (Called call ∷ []) h.1 in
    let last : c.last_reply.result.now ≡ h.0 = c.last_reply.ensures call (rw added (last_of (g.S.Store.calls c.args.store.now) call)) in
    let text = c.put_reply.ensures ∙ ap (λ (front : List ℕ). front ++ reply_text c.last_reply.result.now) c.in_ok-text.ensures.bytes in
    (h.0, h.1, text ∙ ap (λ (r : Reply). reply_text r) last)
