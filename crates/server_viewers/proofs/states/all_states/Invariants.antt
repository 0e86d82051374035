use mathlib.Core.List.{IsPrefix}
use Rattle.server_viewers.proofs.Stating.{Awaits}
use Rattle.server_viewers.proofs.states.all_states.Given as goal

-- no less was seen than at first, and after the states so far come those of the LSPs from the next place on
abbrev pub invariant-loop-page : goal.invariant-loop-page
invariant-loop-page g l = record {
  begins : IsPrefix l.fn.front l.front;
  awaits : Awaits g.B.StepNumbers.text l.fn.front l.front l.from l.states.items;
}
