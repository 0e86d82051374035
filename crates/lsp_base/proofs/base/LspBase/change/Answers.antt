use Rattle.std.proofs.Common.{◌≡◌, ◌≤◌, ◌++◌, List, length, sym, subst, ap}
use Rattle.lsp_base.specs.Lsps.{AreDistinct, without}
use Rattle.lsp_base.specs.Rooms.{Rooms}
use Rattle.lsp_base.specs.declared.path.Path.{Path}
use Rattle.lsp_base.proofs.Distinct.{set_records_distinct}
use Rattle.lsp_base.proofs.base.LspBase.change.Goals as goal

pub invariant_of-self : goal.invariant_of-self
invariant_of-self c =
    let same = ap (λ (v : Rooms). v.content.paths) c.self.view_is in
    let left : c.change_paths.new.paths.items ≡ without c.args.self.now.content.paths c.args.effect.change.dropped ++ c.args.effect.change.added = cc in
    (subst (λ (xs : List Path). length xs ≤ 16384) (sym left) c.requires.few, subst AreDistinct (sym c.set_all.ensures.records) (set_records_distinct c.args.peer c.self.inside.records.records c.into_vec-2.result.items c.self.invariant.1))
