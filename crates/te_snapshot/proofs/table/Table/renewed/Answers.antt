use Rattle.std.proofs.Common.{◌≡◌, ◌<◌, length, sym, ap, arith, ◌∙◌}
use Rattle.std.specs.Prelude.{if◌then◌else◌}
use Rattle.std.proofs.lemmas.List.FromFn.{length-map-range_with_len}
use Rattle.te_snapshot.specs.Pages.{is_marked, left_beside, row, row_at}
use Rattle.te_snapshot.proofs.Pages.{row_there}
use Rattle.te_snapshot.proofs.table.Table.renewed.Goals as goal

pub returns-clause-rows : goal.returns-clause-rows
returns-clause-rows c = λ l less.
    let count = c.self.inside.links in
    let stands = c.self.inside.pages.items in
    let long = length-map-range_with_len (row_at stands) 0 count in
    let same = ap (λ t. length t) c.self.view_is in
    let here : l < count = omega (arith, less, long, same) in
    let given = c.requires.links in
    let lent = c.deref.ensures.value in
    let whole = c.self.invariant.whole in
    let stood : row_at c.deref.result.now l ≡ row c.args.self.now l = ap (λ pages. row_at pages l) lent ∙ sym (row_there count stands l here) ∙ ap (λ t. row t l) c.self.view_is in
    row_there count c.in_ok-pages.pages.items l here
    ∙ c.in_ok-pages.ensures.rows l (omega (arith, less, given)) (rw lent (omega (arith, here, whole)))
    ∙ ap (λ r. if is_marked c.args.marks.now l then left_beside c.args.links.now c.args.sums.now l else r) stood
