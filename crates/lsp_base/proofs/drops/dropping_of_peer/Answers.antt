use Rattle.std.proofs.Common.{◌≡◌, subst, sym, ap, ◌∙◌, ◌≤◌, ◌+◌, length, arith, false, not, ◌++◌, filter, IsPermutation}
use Rattle.std.proofs.lemmas.List.{append-nil}
use Rattle.lsp_base.specs.Lsps.{effect_of, changed}
use Rattle.lsp_base.specs.Rooms.{IsWithinLimit}
use Rattle.lsp_base.proofs.Removal.{IsWithinLimit-effect, paths-changed}
use Rattle.lsp_base.proofs.drops.dropping_of_peer.Goals as goal

pub returns-clause-few : goal.returns-clause-few
returns-clause-few g c =
    let lsps = c.args.base.now.content in
    let test = g.T.Test.passes c.args.test.now in
    let dropped = c.in_ok-dropped.ensures in
    let standing = ap length c.paths-few.ensures.paths in
    let most = c.paths-few.ensures.few in
    let none = ap length c.new.ensures.items in
    let few : length lsps.paths + length c.new.result.items ≤ 16384 + length c.in_ok-dropped.dropped.items = omega arith in
    subst (λ e. IsWithinLimit lsps e) (sym c.new-2.ensures) (IsWithinLimit-effect lsps test _ _ c.in_ok-records.records.items false dropped few)

pub returns-clause-stay : goal.returns-clause-stay
returns-clause-stay g c =
    let lsps = c.args.base.now.content in
    let test = g.T.Test.passes c.args.test.now in
    let stay = filter (λ x. not (test x)) lsps.paths in
    let dropped = c.in_ok-dropped.ensures in
    let none : stay ++ c.new.result.items ≡ stay = ap (λ added. stay ++ added) c.new.ensures.items ∙ append-nil stay in
    let left = paths-changed lsps c.args.peer test c.in_ok-dropped.dropped.items c.new.result.items c.in_ok-records.records.items false dropped in
    let same : IsPermutation stay (changed lsps c.args.peer (effect_of c.in_ok-dropped.dropped.items c.new.result.items c.in_ok-records.records.items false)).paths
    = subst (λ xs. IsPermutation xs (changed lsps c.args.peer (effect_of c.in_ok-dropped.dropped.items c.new.result.items c.in_ok-records.records.items false)).paths) none left in
    subst (λ e. IsPermutation stay (changed lsps c.args.peer e).paths) (sym c.new-2.ensures) same
