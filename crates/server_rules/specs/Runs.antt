-- Tests whether and why a run should end, and whether memory is short.
use Rattle.std.specs.Prelude.{true, false, List, [], ◌∷◌, Option, Some, None}
use Rattle.server_rules.specs.declared.run_state.RunState.{RunState}
use Rattle.server_rules.specs.declared.run_state.RunHappening.{RunHappening}
use Rattle.server_rules.specs.declared.run_state.RunHappening.TheVariants.{Closed, Failed, MemoryShort, MemorySpared}

module _ {F : Type 0} where
  -- the first fault stays
  abbrev pub first : Option F → F → Option F
  first None fault = Some fault
  first (Some earlier) fault = Some earlier

  abbrev pub after : RunHappening F → RunState F → RunState F
  after Closed k = record k { is_closing = true }
  after (Failed fault) k = record k { is_closing = true; fault = first k.fault fault }
  after MemoryShort k = record k { is_memory_short = true }
  after MemorySpared k = record k { is_memory_short = false }

  -- the state of a run, given all that happened, the latest first
  abbrev pub run_from : List (RunHappening F) → RunState F
  run_from [] = record { is_closing = false; fault = None; is_memory_short = false }
  run_from (h ∷ past) = after h (run_from past)
