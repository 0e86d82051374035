use Rattle.std.proofs.Common.{◌≡◌, ◌∙◌, ◌++◌, [], Bool, true, true≢false, is_some, cond, Option, None, Some, sym, ap, arith}
use Rattle.std.specs.List.{cons_option}
use Rattle.std.proofs.lemmas.List.{append-nil}
use Rattle.server_rules.specs.declared.retry.RouterLsp.{RouterLsp}
use Rattle.server_rules.specs.declared.retry.RetryState.{RetryState}
use Rattle.server_rules.specs.Retries.{due_of}
use Rattle.server_rules.proofs.Listed.{listed_step}
use Rattle.server_rules.proofs.retry_table.RetryTable.all_due.Goals.{in-Some+then-is_due+in_ok-push, in-Some+else-is_due, in_default}
use Rattle.server_rules.proofs.retry_table.RetryTable.all_due.Goals as goal

pub loop-at-preserved : goal.loop-at-preserved
loop-at-preserved c =
    let f = due_of c.args.now_ms c.args.retry_ms in
    let es = c.args.self.now.lsps.entries in
    elim c.match-get_index.branch [
      | in-Some+then-is_due+in_ok-push w ↦
          let e : RouterLsp × RetryState = (w.in-Some.lsp.now, w.in-Some.state.now) in
          let owed : f e ≡ Some w.in-Some.lsp.now = ap (λ (b : Bool). cond b (Some w.in-Some.lsp.now) None) (sym w.is_due.ensures ∙ w.if-is_due.true) in
          listed_step f es c.loop-at.at e c.loop-at.due.items c.match-get_index.due.items (sym w.in-Some.ensures.entry) c.loop-at.invariant
          (ap (λ v. v.items) w.due-is ∙ w.in_ok-push.ensures.items ∙ ap (λ (o : Option RouterLsp). c.loop-at.due.items ++ cons_option o []) (sym owed))
      | in-Some+else-is_due w ↦
          let e : RouterLsp × RetryState = (w.in-Some.lsp.now, w.in-Some.state.now) in
          let owed : f e ≡ None = ap (λ (b : Bool). cond b (Some w.in-Some.lsp.now) None) (sym w.is_due.ensures ∙ w.if-is_due.false) in
          listed_step f es c.loop-at.at e c.loop-at.due.items c.match-get_index.due.items (sym w.in-Some.ensures.entry) c.loop-at.invariant
          (ap (λ v. v.items) w.due-is ∙ sym (append-nil c.loop-at.due.items) ∙ ap (λ (o : Option RouterLsp). c.loop-at.due.items ++ cons_option o []) (sym owed))
      | in_default w ↦
          let there : is_some c.get_index.result ≡ true = c.get_index.ensures.found.1 (omega arith) in
          absurd (true≢false (sym there ∙ ap is_some w.in_default.is))
    ]
