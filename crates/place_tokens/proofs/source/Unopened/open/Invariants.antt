use Rattle.std.specs.Prelude.{◌≡◌, ◌+◌, ◌-◌, [], replicate}
use Rattle.place_tokens.specs.Drawing.{keeping}
use Rattle.place_tokens.proofs.source.Unopened.open.Given as goal

abbrev pub invariant-loop-i : goal.invariant-loop-i
invariant-loop-i g l = record {
  table : l.keeper.table_id ≡ l.table.shared.table_id;
  parts : l.keeper.me ≡ keeping (l.seats - l._i + 1) 0 [];
  drawn : l.drawn.items ≡ replicate l._i [];
}
