use Rattle.std.proofs.Common.{◌≡◌, ◌/◌, ◌%◌, Some, arith, length, slice_get, slice_index_or, [], sym, ap, ◌∙◌}
use Rattle.std.proofs.lemmas.Option.{slice_get-get_or}
use Rattle.te_snapshot.specs.Pages.{row_in}
use Rattle.te_snapshot.proofs.Pages.{page_there, row_got, row_missing}
use Rattle.te_snapshot.proofs.table.Table.get.Goals as goal

pub returns-then-link-self : goal.returns-then-link-self
returns-then-link-self c = sym (row_missing c.self.inside.links c.self.inside.pages.items c.args.link c.if-link-self.true) ∙ ap (λ t. slice_get t c.args.link) c.self.view_is

pub returns : goal.returns
returns c =
    let pages = c.self.inside.pages.items in
    let l = c.args.link in
    let there = page_there l (length pages) (let less = c.if-link-self.false in let whole = c.self.invariant.whole in omega (arith, less, whole)) in
    let page : slice_get pages (l / 64) ≡ Some c.index.result.now = slice_get-get_or pages (l / 64) c.index.result.now there ∙ ap Some (sym c.index.ensures) in
    ap (λ p. Some (slice_index_or p (l % 64) [])) c.deref-page.ensures
    ∙ sym (ap (λ o. Some (row_in o (l % 64))) page)
    ∙ sym (row_got c.self.inside.links pages l c.if-link-self.false)
    ∙ ap (λ t. slice_get t l) c.self.view_is
