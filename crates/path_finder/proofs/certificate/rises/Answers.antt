use Rattle.std.proofs.Common.{◌∙◌, arith}
use Rattle.path_finder.proofs.Fees.{fee_some, not_both}
use Rattle.path_finder.proofs.certificate.rises.Goals as goal
use Rattle.path_finder.proofs.certificate.rises.Goals.{then-far-near-via-then-far-near, then-far-near-via-else-far-near+then-far-near-2}

pub returns-then-far-near : goal.returns-then-far-near
returns-then-far-near c = λ passes price pass.
    let is = (fee_some c.args.query.now c.args.arc.now price pass).1 in
    elim c.then-far-near.branch [
      | then-far-near-via-then-far-near w ↦ omega arith
      | then-far-near-via-else-far-near+then-far-near-2 w ↦ omega arith
    ]

pub returns : goal.returns
returns c = λ passes price pass.
    absurd (not_both c.is_open.result passes (c.is_open.ensures ∙ (fee_some c.args.query.now c.args.arc.now price pass).0))
