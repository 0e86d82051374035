use Rattle.std.proofs.Common.{◌/◌, ◌%◌, ◌&&◌, false, true, [], slice_index_or, arith}
use Rattle.std.proofs.lemmas.List.{get_or-replicate}
use Rattle.te_snapshot.proofs.Pages.{page_there}
use Rattle.te_snapshot.proofs.marks.Marks.clear.Goals as goal

pub returns : goal.returns
returns c = λ l less.
    let page = get_or-replicate 64 (l / 64) false true (page_there l 64 (omega (arith, less))) in
    λ j. page j && slice_index_or (slice_index_or c.before.args.self.now.rows (l / 64) []) (l % 64) true
