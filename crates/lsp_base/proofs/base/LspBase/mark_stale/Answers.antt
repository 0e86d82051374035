use Rattle.std.proofs.Common.{◌≤◌, length, ◌∙◌, ap, arith}
use Rattle.std.proofs.lemmas.List.{length-map}
use Rattle.lsp_base.specs.Lsps.{made_stale}
use Rattle.lsp_base.proofs.base.LspBase.mark_stale.Goals as goal

pub invariant_of-self : goal.invariant_of-self
invariant_of-self c =
    let known = c.self.invariant in
    let same = ap length c.make_stale.ensures.paths ∙ length-map c.self.inside.paths.items (made_stale c.args.peer) in
    let few : length c.make_stale.new.paths.items ≤ 16384 = omega (arith, known.0) in
    (few, known.1)
