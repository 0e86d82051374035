use Rattle.std.proofs.Common.{◌≡◌, take, fold, length}
use Rattle.te_base.specs.Walk.{AreMarks, hopped, place_of}
use Rattle.te_base.specs.Views.{base_in}
use Rattle.te_base.proofs.walk.walk_hops.Given as goal

abbrev pub invariant-loop-hop : goal.invariant-loop-hop
invariant-loop-hop l = record {
  place : place_of l.walker ≡ fold (hopped (base_in l.parts)) (place_of l.fn.walker) (take l.hop-index l.hops);
  marks : AreMarks l.walker.marks.items l.walker.links.items;
  count : length l.walker.marks.items ≡ length l.parts.links.items;
}
