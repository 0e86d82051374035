use Rattle.bandwidth_book.proofs.Between.{between}
use Rattle.bandwidth_book.proofs.many_links.is_next.Goals as goal

pub returns-then-are_below-clause-place : goal.returns-then-are_below-clause-place
returns-then-are_below-clause-place c = λ above.
    (between c.args.link c.args.joined.now c.args.rest.now c.requires (λ x last. c.are_below.ensures x c.if-are_below.true last) (λ x last. c.are_above.ensures x above last)).place

pub returns-then-are_below-clause-none : goal.returns-then-are_below-clause-none
returns-then-are_below-clause-none c = λ above.
    (between c.args.link c.args.joined.now c.args.rest.now c.requires (λ x last. c.are_below.ensures x c.if-are_below.true last) (λ x last. c.are_above.ensures x above last)).none
