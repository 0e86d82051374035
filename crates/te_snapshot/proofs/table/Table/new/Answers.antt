use Rattle.std.proofs.Common.{[], length, refl, sym}
use Rattle.std.proofs.lemmas.List.FromFn.{fill_by_all}
use Rattle.te_snapshot.specs.Pages.{row_at}
use Rattle.te_snapshot.proofs.table.Table.new.Goals as goal

pub returns : goal.returns
returns c = sym (fill_by_all (row_at c.in_ok-pages.pages.items) c.args.rows.now (length c.args.rows.now) [] refl (λ l less. sym (c.in_ok-pages.ensures.rows l less)))
