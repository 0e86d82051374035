use Rattle.std.proofs.Common.{rules, ◌≡◌, ◌<◌, get_or, length}
use Rattle.std.proofs.lemmas.List.Edits.{map_over_more}
use Rattle.te_snapshot.specs.Leaving.{arc_now}
use Rattle.te_snapshot.proofs.spans.all_now.Goals as goal

pub loop-place-preserved : goal.loop-place-preserved
loop-place-preserved c =
    let arc = c.index_mut.result.now in
    let within : c.loop-place.place < length c.args.arcs.now = search rules in
    let is : arc ≡ get_or c.loop-place.all.items c.loop-place.place arc = search (rules, c.index_mut.ensures.value) in
    rw c.set_values.ensures (map_over_more (arc_now c.args.links.now) c.args.arcs.now c.loop-place.all.items c.loop-place.place arc within c.loop-place.invariant is)
