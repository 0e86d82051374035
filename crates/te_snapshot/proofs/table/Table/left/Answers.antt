use Rattle.std.proofs.Common.{◌≡◌, None, pos, slice_get, slice_index_or, [], sym, ap, ◌∙◌}
use Rattle.std.specs.Prelude.{unwrap_or}
use Rattle.std.proofs.lemmas.Option.{unwrap_or-slice_get}
use Rattle.te_snapshot.proofs.table.Table.left.Goals as goal

pub returns-in-None : goal.returns-in-None
returns-in-None c =
    let none : slice_get c.args.self.now c.args.link ≡ None = sym c.in-None.ensures in
    ap (λ o. slice_index_or (unwrap_or o []) c.args.priority (pos 0)) (sym none)
    ∙ ap (λ row. slice_index_or row c.args.priority (pos 0)) (unwrap_or-slice_get c.args.self.now c.args.link [])
