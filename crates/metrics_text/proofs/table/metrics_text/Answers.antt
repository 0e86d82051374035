use Rattle.metrics_text.specs.Table.{counted_families, families, program, seen_families}
use Rattle.metrics_text.proofs.Lines.{three}
use Rattle.metrics_text.proofs.table.metrics_text.Goals as goal

pub returns : goal.returns
unfolding families
returns c =
    three c.new-text.result.items c.put_program.new.text.items c.put_counted.new.text.items c.put_seen.new.text.items
    (program c.args.info.now c.args.process) (counted_families c.args.counters.now) (seen_families c.args.numbers.now c.args.states.now)
    c.new-text.ensures.items c.in_ok-put_program.ensures c.in_ok-put_counted.ensures c.in_ok-put_seen.ensures
