use Rattle.std.proofs.Common.{◌≡◌, ℕ, List, false, ◌∙◌, ap, sym, subst}
use Rattle.std.specs.Prelude.{Option, IfSome}
use Rattle.std.specs.List.{list_any}
use Rattle.step_core.specs.Names.{is_of_grant}
use Rattle.step_core.specs.States.{State, next_number}
use Rattle.step_core.specs.declared.names.AwaitedName.{AwaitedName}
use Rattle.step_core.proofs.ConsistentSteps.{name_absent}
use Rattle.step_core.proofs.state.Tables.grant.Goals as goal

pub grant_path-requires-clause-absent : goal.grant_path-requires-clause-absent
grant_path-requires-clause-absent c =
    let s : State = c.args.self.now in
    let n = c.args.ticket.now.peer in
    let names = c.self.inside.network.names in
    let number : c.next_number-srp.result ≡ next_number s n = c.next_number-srp.ensures ∙ ap (λ (u : State). next_number u n) c.self.view_is in
    let same : names ≡ s.names = ap (λ (u : State). u.names) c.self.view_is in
    let absent : list_any (is_of_grant n c.next_number-srp.result) names ≡ false
    = ap (λ (k : ℕ). list_any (is_of_grant n k) names) number ∙ ap (λ (xs : List AwaitedName). list_any (is_of_grant n (next_number s n)) xs) same ∙ c.requires.absent in
    subst (λ (o : Option AwaitedName). IfSome o (λ a. list_any (is_of_grant a.peer a.srp) names ≡ false)) (sym c.in_ok-name.ensures) (name_absent names n c.next_number-srp.result c.args.ticket.now.purpose absent)
