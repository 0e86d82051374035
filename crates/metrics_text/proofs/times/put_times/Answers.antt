use Rattle.std.proofs.Common.{◌≡◌, ◌++◌, ℕ, subst}
use Rattle.std.proofs.lemmas.Result.{on_ok_weaker}
use Rattle.metrics_text.specs.Rows.{lines_of}
use Rattle.metrics_text.specs.Samples.{sums, times}
use Rattle.metrics_text.proofs.Lines.{joined}
use Rattle.metrics_text.proofs.times.put_times.Goals as goal

pub returns : goal.returns
unfolding times
returns c = on_ok_weaker c.put_sums.result
    (λ h. joined c.args.metric.now c.args.text.now.items _ _ _ _ c.in_ok-total.ensures.lines
    (subst (λ (n : ℕ). c.put_sums.new.text.items ≡ c.put_buckets.new.text.items ++ lines_of c.args.metric.now (sums c.args.histogram.now.sum_us n)) c.in_ok-total.ensures.total h))
    c.put_sums.ensures
