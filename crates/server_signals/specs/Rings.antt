-- Which connections are woken.
use Rattle.std.specs.Prelude.{ℕ, ◌==◌, Bool, true, List, [], ◌∷◌, Option, Some, None, if◌then◌else◌}
use Rattle.server_rules.specs.Wakings.{after}
use Rattle.server_rules.specs.declared.entrance.Taken.{Taken}
use Rattle.server_rules.specs.declared.waker_slots.SlotState.{SlotState}
use Rattle.server_rules.specs.declared.waker_slots.SlotHappening.TheVariants.{Woken}

-- the connections of a peer, or all
abbrev pub is_wanted : Option ℕ → Taken → Bool
is_wanted None t = true
is_wanted (Some peer) t = t.address == peer

-- each of them is woken, in the order in which they came
abbrev pub rung_for : Option ℕ → List Taken → List SlotState → List SlotState
rung_for peer [] slots = slots
rung_for peer (t ∷ taken) slots = rung_for peer taken (if is_wanted peer t then after (Woken t.slot) slots else slots)
