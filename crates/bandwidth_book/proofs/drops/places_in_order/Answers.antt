use Rattle.bandwidth_book.proofs.Dropped.{picked_permuted}
use Rattle.bandwidth_book.proofs.drops.places_in_order.Goals as goal

pub returns : goal.returns
returns c = λ l t h. picked_permuted l t h c.in_ok-places.places.items c.sort_unstable_by_key.new.self.items c.args.paths.now c.sort_unstable_by_key.ensures.permutation c.in_ok-places.ensures
