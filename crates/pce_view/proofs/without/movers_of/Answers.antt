use Rattle.std.proofs.Common.{◌≤◌, ◌++◌, length, min, ap, sym, ◌∙◌, arith, append-nil}
use Rattle.pce_view.proofs.Movers.{movers_done}
use Rattle.pce_view.proofs.without.movers_of.Goals as goal

pub returns : goal.returns
returns c =
    let lsps = c.args.lsps.now in
    let owns = c.args.owns.now in
    let n = c.loop-place.place in
    let past : min (length lsps) (length owns) ≤ n = omega arith in
    let none = movers_done n lsps owns past in
    sym (append-nil c.loop-place.movers.items) ∙ ap (λ more. c.loop-place.movers.items ++ more) (sym none) ∙ c.loop-place.invariant
