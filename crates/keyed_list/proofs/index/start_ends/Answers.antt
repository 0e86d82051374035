use Rattle.keyed_list.proofs.Ends.{IsIndex-fresh}
use Rattle.keyed_list.proofs.index.start_ends.Goals as goal

pub returns-in_ok-newest : goal.returns-in_ok-newest
returns-in_ok-newest c =
    let same = c.in_ok-newest.ensures.items_if_clones_equal in
    let fresh = IsIndex-fresh c.args.buckets.now c.args.newest.now.items c.args.earlier.now 16384 c.pack.result c.pack.ensures c.requires.index in
    record { index = rw (same (λ y e. e)) fresh }
