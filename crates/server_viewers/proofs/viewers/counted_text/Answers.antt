-- counted_text
use Rattle.std.proofs.lemmas.Result.{IfOk-weaker}
use Rattle.server_viewers.proofs.viewers.counted_text.Goals as goal

pub returns-clause-text : goal.returns-clause-text
returns-clause-text g c = IfOk-weaker c.metrics_text.result _ _
    (λ text says. record {
      info = c.args.info.now;
      numbers = c.in_ok-numbers.numbers;
      counters = c.args.counters.now;
      process = c.args.process;
      sees = c.in_ok-numbers.ensures.sees;
      says = says;
    })
    c.metrics_text.ensures
