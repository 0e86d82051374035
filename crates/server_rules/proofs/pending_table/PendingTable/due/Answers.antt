use Rattle.std.proofs.Common.{◌≡◌, ◌∙◌, ◌++◌, [], true, true≢false, is_some, Option, None, Some, sym, ap, subst, List, arith}
use Rattle.std.specs.List.{cons_option, filter_map}
use Rattle.std.proofs.lemmas.List.{append-nil, take_all}
use Rattle.server_rules.specs.declared.pending.Pending.{Pending}
use Rattle.server_rules.specs.declared.pending.PendingState.{PendingState}
use Rattle.server_rules.specs.declared.pending.RouterKnown.{RouterKnown}
use Rattle.server_rules.specs.declared.pending_table.PendingDue.{PendingDue}
use Rattle.server_rules.specs.Pendings.{AreDue, due_if, due_of, dues_in, known_of, owing}
use Rattle.server_rules.proofs.Listed.{listed_step}
use Rattle.server_rules.proofs.PendingDues.{are_due}
use Rattle.server_rules.proofs.pending_table.PendingTable.due.Goals.{in-Some+in-Some-end_of+in_ok-push, in-Some+in_default-end_of, in_default}
use Rattle.server_rules.proofs.pending_table.PendingTable.due.Goals as goal

pub loop-at-preserved : goal.loop-at-preserved
loop-at-preserved c =
    let f = due_of c.args.self.now c.args.now_ms c.args.answer_ms in
    let es = c.args.self.now.pending.entries in
    elim c.match-get_index.branch [
      | in-Some+in-Some-end_of+in_ok-push w ↦
          let e : Pending × PendingState = (w.in-Some.pending.now, w.in-Some.state.now) in
          let owed : f e ≡ Some (record { pending = w.in-Some.pending.now; end = w.in-Some-end_of.end }) = ap (due_if w.in-Some.pending.now)
          (ap (λ (r : RouterKnown). owing c.args.now_ms c.args.answer_ms (known_of r (Some w.in-Some.state.now))) (sym w.router.ensures) ∙ sym w.end_of.ensures ∙ w.in-Some-end_of.is) in
          listed_step f es c.loop-at.at e c.loop-at.due.items c.match-get_index.due.items (sym w.in-Some.ensures.entry) c.loop-at.invariant
          (ap (λ v. v.items) w.due-is ∙ w.in_ok-push.ensures.items ∙ ap (λ (o : Option PendingDue). c.loop-at.due.items ++ cons_option o []) (sym owed))
      | in-Some+in_default-end_of w ↦
          let e : Pending × PendingState = (w.in-Some.pending.now, w.in-Some.state.now) in
          let owed : f e ≡ None = ap (due_if w.in-Some.pending.now)
          (ap (λ (r : RouterKnown). owing c.args.now_ms c.args.answer_ms (known_of r (Some w.in-Some.state.now))) (sym w.router.ensures) ∙ sym w.end_of.ensures ∙ w.in_default-end_of.is) in
          listed_step f es c.loop-at.at e c.loop-at.due.items c.match-get_index.due.items (sym w.in-Some.ensures.entry) c.loop-at.invariant
          (ap (λ v. v.items) w.due-is ∙ sym (append-nil c.loop-at.due.items) ∙ ap (λ (o : Option PendingDue). c.loop-at.due.items ++ cons_option o []) (sym owed))
      | in_default w ↦
          let there : is_some c.get_index.result ≡ true = c.get_index.ensures.found.1 (omega arith) in
          absurd (true≢false (sym there ∙ ap is_some w.in_default.is))
    ]

pub returns-clause-due : goal.returns-clause-due
returns-clause-due c = λ past knows.
    let es = c.args.self.now.pending.entries in
    let all : c.loop-at.due.items ≡ dues_in c.args.self.now c.args.now_ms c.args.answer_ms =
    c.loop-at.invariant ∙ ap (filter_map (due_of c.args.self.now c.args.now_ms c.args.answer_ms)) (take_all c.loop-at.at es (omega arith)) in
    subst (λ (due : List PendingDue). AreDue past c.args.now_ms c.args.answer_ms due) (sym all)
    (are_due c.args.self.now past c.args.now_ms c.args.answer_ms knows c.len-at-end.ensures.unique)
