use Rattle.std.proofs.Common.{◌≡◌, ◌<◌, Some, length, arith, refl}
use Rattle.std.specs.List.{slice_get}
use Rattle.std.proofs.lemmas.Option.{slice_get_within, slice_get_read}
use Rattle.path_finder.proofs.Rows.{reaches_more, made_more}
use Rattle.path_finder.proofs.rounds.lower_all.Goals as goal

pub loop-number-preserved : goal.loop-number-preserved
loop-number-preserved c =
    let k = c.loop-number.number in
    let links = c.args.links.now in
    let l = c.index-links-number.result in
    let here : slice_get links k ≡ Some l = slice_get_read links (length links) k l refl c.loop-number-test.true c.index-links-number.is in
    record {
      size = omega arith;
      below = λ v. (let a = c.lower.ensures.below v in let b = c.loop-number.invariant.below v in omega arith);
      reaches = reaches_more c.args.query.now links c.args.old.now c.loop-number.row c.lower.new.row c.args.limit k l here c.lower.ensures.below c.lower.ensures.reaches c.loop-number.invariant.reaches;
      made = made_more c.args.query.now links c.args.old.now c.loop-number.row c.lower.new.row k l here c.lower.ensures.made c.loop-number.invariant.made;
    }

pub returns : goal.returns
returns c = record {
  size = c.loop-number.invariant.size;
  below = c.loop-number.invariant.below;
  reaches = λ n l here. c.loop-number.invariant.reaches n l (let w : n < length c.args.links.now = slice_get_within c.args.links.now n l here in omega arith) here;
  made = c.loop-number.invariant.made;
}
