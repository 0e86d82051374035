use Rattle.std.proofs.Common.{◌+◌, ◌≤◌, length, ap, sym, ◌∙◌, arith}
use Rattle.server_counts.proofs.Passing.{goes_on}
use Rattle.server_counts.proofs.stream.MessageStream.hear.Goals as goal

pub loop-at-preserved-then-passed-gt0 : goal.loop-at-preserved-then-passed-gt0
loop-at-preserved-then-passed-gt0 c =
    let passed = c.passable-passed in
    let within : c.loop-at.at + passed.result ≤ length c.args.bytes.now = omega (arith, passed.ensures.few, c.loop-at.invariant.in_range, c.loop-at-test.true) in
    record {
      in_range = within;
      same =
          goes_on c.args.way c.loop-at.self c.behind.result c.loop-at.counters c.args.bytes.now c.loop-at.at passed.result within (λ bs long.
          passed.ensures.same bs c.args.way c.loop-at.counters long ∙ ap (λ s. (s, c.loop-at.counters)) (sym c.behind.ensures)
          )
          ∙ c.loop-at.invariant.same;
    }
