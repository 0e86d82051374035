use Rattle.std.proofs.Common.{rules, ◌≡◌, All, map, subst, sym}
use Rattle.te_base.specs.Ted.{IsLinkAmong}
use Rattle.te_snapshot.specs.Leaving.{turned}
use Rattle.te_snapshot.proofs.Arcs.{all_turned_among}
use Rattle.te_snapshot.proofs.leaving.entering.Goals as goal

pub leaving-requires : goal.leaving-requires
leaving-requires c =
    let links = c.args.links.now in
    let same : c.deref.result.now ≡ map turned links = search rules in
    subst (All (IsLinkAmong c.args.nodes)) (sym same) (all_turned_among c.args.nodes links c.requires)
