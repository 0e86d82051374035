use Rattle.std.proofs.Common.{◌+◌}
use Rattle.server_talk.proofs.Flowing.{some_more, few_so_far, kept_part, not_none, rest_on}
use Rattle.server_talk.proofs.talk.write_in_time.Goals as goal

pub loop-write-preserved : goal.loop-write-preserved
loop-write-preserved g c =
    let i = c.loop-write.invariant in (
      i.0 + c.in-Some.count,
      rest_on c.args.bytes.now c.loop-write.rest.now i.0 c.in-Some.count i.1,
      some_more (g.O.Write.contents c.args.writer.now) (g.O.Write.contents c.loop-write.writer) (g.O.Write.contents c.write_once.new.writer) c.args.bytes.now c.loop-write.rest.now i.0 c.in-Some.count i.1 i.2 c.in-Some.ensures.1,
      not_none _ (c.if-is_empty-2.ensures),
    )

pub returns-then-saturating_sub-ge-TAKEN_WITHIN_MS : goal.returns-then-saturating_sub-ge-TAKEN_WITHIN_MS
returns-then-saturating_sub-ge-TAKEN_WITHIN_MS g c =
    let i = c.loop-write.invariant in (
      i.0 + c.in-Some.count,
      few_so_far c.args.bytes.now _ (i.0 + c.in-Some.count) (rest_on c.args.bytes.now c.loop-write.rest.now i.0 c.in-Some.count i.1) (not_none _ (c.if-is_empty-2.ensures)),
      some_more (g.O.Write.contents c.args.writer.now) (g.O.Write.contents c.loop-write.writer) (g.O.Write.contents c.write_once.new.writer) c.args.bytes.now c.loop-write.rest.now i.0 c.in-Some.count i.1 i.2 c.in-Some.ensures.1,
    )

pub returns-in_default : goal.returns-in_default
returns-in_default g c =
    let i = c.loop-write.invariant in
    kept_part (g.O.Write.contents c.args.writer.now) (g.O.Write.contents c.loop-write.writer) (g.O.Write.contents c.write_once.new.writer) c.args.bytes.now c.loop-write.rest.now i.0 i.1 i.2 i.3 c.in_default.ensures

pub returns : goal.returns
returns g c =
    let i = c.loop-write.invariant in (i.0, few_so_far c.args.bytes.now c.loop-write.rest.now i.0 i.1 i.3, i.2)
