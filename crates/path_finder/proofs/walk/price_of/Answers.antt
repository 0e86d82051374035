use Rattle.std.proofs.Common.{◌+◌, List, slice_index, ℕ, arith, subst, sym, take}
use Rattle.std.proofs.lemmas.List.{take_more}
use Rattle.path_finder.specs.Walks.{Leads}
use Rattle.path_finder.proofs.Rows.{leads_more}
use Rattle.path_finder.proofs.walk.price_of.Goals as goal

pub loop-number-preserved : goal.loop-number-preserved
loop-number-preserved c =
    let a = c.args in
    let s = c.in-Some.ensures in
    let i = c.loop-number.number-index in
    let path = a.path.now in
    let n = slice_index path i in
    let t = c.in-Some.step in
    let more = leads_more a.query.now a.links.now a.ends.source (take i path) c.loop-number.at c.loop-number.paid n s.0 t.price t.to c.loop-number.invariant.leads s.1 s.2 s.3 s.4 in
    let price = s.5 in
    record {
      leads = subst (λ (ns : List ℕ). Leads a.query.now a.links.now a.ends.source ns t.to (c.loop-number.paid + t.price)) (sym (take_more path i 0 c.loop-number-test.true)) more;
      small = (let k = c.loop-number.invariant.small in omega arith);
    }
