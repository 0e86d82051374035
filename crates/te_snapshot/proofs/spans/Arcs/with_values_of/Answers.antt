use Rattle.std.proofs.Common.{rules, ◌≡◌, map}
use Rattle.te_snapshot.specs.Leaving.{arc_now}
use Rattle.te_snapshot.proofs.Cuts.{cuts-map}
use Rattle.te_snapshot.proofs.spans.Arcs.with_values_of.Goals as goal

pub returns : goal.returns
returns c =
    let spans = c.self.inside.spans.items in
    let arcs = c.self.inside.arcs.items in
    let same : c.in_ok-spans.spans.items ≡ spans = search (rules, c.in_ok-spans.ensures.items_if_clones_equal) in
    let now : c.in_ok-arcs.arcs.items ≡ map (arc_now c.args.links.now) arcs = search (rules, c.in_ok-arcs.ensures) in
    rw (same, now, ← c.self.view_is) (cuts-map (arc_now c.args.links.now) arcs spans)
