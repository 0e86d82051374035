use Rattle.std.proofs.Common.{◌≡◌, ◌≤◌, Option, subst, sym, ap, ◌∙◌, arith}
use Rattle.lsp_base.specs.declared.path.Path.{Path}
use Rattle.commit_core.specs.Verdicts.{verdict}
use Rattle.commit_core.specs.declared.verdict.Verdict.TheVariants.{Grant, Answer}
use Rattle.commit_core.proofs.Soundness.{no_grant_goes_below, answer_is_short}
use Rattle.commit_core.proofs.Found.{found_is_accepted}
use Rattle.commit_core.proofs.judging.judge.Goals as goal

pub returns-clause-leaves_room : goal.returns-clause-leaves_room
returns-clause-leaves_room c = λ g is granted.
    let t = c.args.ticket.now in
    let lsps = c.args.base.now.content in
    no_grant_goes_below t g lsps c.args.te.now c.args.view (subst (λ (o : Option Path). verdict t o lsps c.args.te.now c.args.view ≡ Grant) is (sym c.verdict_of.ensures ∙ granted))

pub returns-clause-found_is_accepted : goal.returns-clause-found_is_accepted
returns-clause-found_is_accepted c = λ found stays.
    let t = c.args.ticket.now in
    let lsps = c.args.base.now.content in
    let number = c.number-setup.ensures.small in
    let same = c.setup.ensures in
    let small : t.constraints.priorities.setup ≤ 7 = omega (arith, number, same) in
    c.verdict_of.ensures ∙ (ap (λ (o : Option Path). verdict t o lsps c.args.te.now c.args.view) found.offered
    ∙ found_is_accepted t found.links found.srp lsps c.args.te.now c.args.view found.searched found.own small found.current found.admissible found.within stays)

pub returns-clause-short : goal.returns-clause-short
returns-clause-short c = λ g is answered.
    let t = c.args.ticket.now in
    let lsps = c.args.base.now.content in
    answer_is_short t g lsps c.args.te.now c.args.view (subst (λ (o : Option Path). verdict t o lsps c.args.te.now c.args.view ≡ Answer) is (sym c.verdict_of.ensures ∙ answered))
