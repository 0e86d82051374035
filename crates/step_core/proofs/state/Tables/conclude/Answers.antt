use Rattle.std.proofs.Common.{◌∙◌, sym, ap}
use Rattle.step_core.specs.States.{State}
use Rattle.ticket_table.specs.Tickets.{ticket_at}
use Rattle.step_core.proofs.Concluded.{path_is, grant_has_path, answer_has_path, peer_is_known, grant_is_possible, answer_is_possible, again_has_tries, found_has_tries}
use Rattle.step_core.proofs.ConsistentSteps.{grant_is_new}
use Rattle.step_core.proofs.state.Tables.conclude.Goals as goal

pub grant-requires-clause-few : goal.grant-requires-clause-few
grant-requires-clause-few c = (grant_is_possible c.args.self.now c.args.ticket.now c.args.offer.now c.args.path c.in-Grant-Some.path c.requires.path c.in-Grant-Some.is-1 (sym c.requires.verdict ∙ c.in-Grant-Some.is-0)).0

pub grant-requires-clause-short : goal.grant-requires-clause-short
grant-requires-clause-short c = (grant_is_possible c.args.self.now c.args.ticket.now c.args.offer.now c.args.path c.in-Grant-Some.path c.requires.path c.in-Grant-Some.is-1 (sym c.requires.verdict ∙ c.in-Grant-Some.is-0)).1

pub grant-requires-clause-known : goal.grant-requires-clause-known
grant-requires-clause-known c = peer_is_known c.args.self.now c.args.ticket.now c.args.offer.now _ (sym c.requires.verdict ∙ c.in-Grant-Some.is-0) (λ no. cc)

pub grant-requires-clause-absent : goal.grant-requires-clause-absent
grant-requires-clause-absent c = grant_is_new c.args.self.now c.args.ticket.now c.args.offer.now c.requires.consistent (sym c.requires.verdict ∙ c.in-Grant-Some.is-0)

pub grant-requires-clause-path : goal.grant-requires-clause-path
grant-requires-clause-path c = (path_is c.args.self.now c.args.ticket.now c.args.offer.now c.args.path c.in-Grant-Some.path c.requires.path c.in-Grant-Some.is-1).1

pub answer-requires-clause-short : goal.answer-requires-clause-short
answer-requires-clause-short c = rw c.as_slice.ensures (answer_is_possible c.args.self.now c.args.ticket.now c.args.offer.now c.args.path c.in-Answer-Some.path c.requires.path c.in-Answer-Some.is-1 (sym c.requires.verdict ∙ c.in-Answer-Some.is-0))

pub answer-requires-clause-known : goal.answer-requires-clause-known
answer-requires-clause-known c = peer_is_known c.args.self.now c.args.ticket.now c.args.offer.now _ (sym c.requires.verdict ∙ c.in-Answer-Some.is-0) (λ no. cc)

pub unreachable-requires : goal.unreachable-requires
unreachable-requires c =
    grant_has_path c.args.self.now c.args.ticket.now c.args.offer.now c.args.path c.requires.path c.in-Grant-None.is-1 (sym c.requires.verdict ∙ c.in-Grant-None.is-0)

pub unreachable-requires-in-Answer-None : goal.unreachable-requires-in-Answer-None
unreachable-requires-in-Answer-None c =
    answer_has_path c.args.self.now c.args.ticket.now c.args.offer.now c.args.path c.requires.path c.in-Answer-None.is-1 (sym c.requires.verdict ∙ c.in-Answer-None.is-0)

pub put_back-requires : goal.put_back-requires
put_back-requires c =
    let there = ap (λ (s : State). ticket_at s.tickets c.args.ticket.now.id) c.self.view_is ∙ c.requires.there in
    found_has_tries (ticket_at c.self.inside.tickets.tickets c.args.ticket.now.id) c.args.ticket.now there (again_has_tries c.args.self.now c.args.ticket.now c.args.offer.now (sym c.requires.verdict ∙ c.in-Again-default.is-0))

pub end_in_vain-requires : goal.end_in_vain-requires
end_in_vain-requires c = record { known = peer_is_known c.args.self.now c.args.ticket.now c.args.offer.now _ (sym c.requires.verdict ∙ c.in-NoPath-default.is-0) (λ no. cc) }

pub end_in_vain-requires-in-GivenUp-default : goal.end_in_vain-requires-in-GivenUp-default
end_in_vain-requires-in-GivenUp-default c = record { known = peer_is_known c.args.self.now c.args.ticket.now c.args.offer.now _ (sym c.requires.verdict ∙ c.in-GivenUp-default.is-0) (λ no. cc) }

pub returns-in-Grant-Some-clause-state : goal.returns-in-Grant-Some-clause-state
returns-in-Grant-Some-clause-state c = rw (c.in-Grant-Some.is-0, sym (path_is c.args.self.now c.args.ticket.now c.args.offer.now c.args.path c.in-Grant-Some.path c.requires.path c.in-Grant-Some.is-1).0) c.grant.ensures.state

pub returns-in-Answer-Some-clause-state : goal.returns-in-Answer-Some-clause-state
returns-in-Answer-Some-clause-state c =
    rw (c.in-Answer-Some.is-0, sym (path_is c.args.self.now c.args.ticket.now c.args.offer.now c.args.path c.in-Answer-Some.path c.requires.path c.in-Answer-Some.is-1).0, sym c.as_slice.ensures) c.answer.ensures.state
