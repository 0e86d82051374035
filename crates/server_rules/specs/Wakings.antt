-- Which connections can be woken, and which were woken and haven't looked since.
use Rattle.std.specs.Prelude.{ℕ, Bool, true, false, List, [], ◌∷◌, replicate, set, slice_get, Option, Some}
use Rattle.server_rules.specs.declared.waker_slots.SlotHappening.{SlotHappening}
use Rattle.server_rules.specs.declared.waker_slots.SlotHappening.TheVariants.{Prepared, Woken, Looked, Left}
use Rattle.server_rules.specs.declared.waker_slots.SlotState.{SlotState}
use Rattle.server_rules.specs.declared.waker_slots.SlotState.TheVariants.{Deaf, Ready, Rung}

-- the slot is woken; one that can't be woken stays as it is
abbrev pub woken : Option SlotState → ℕ → List SlotState → List SlotState
woken (Some Ready) slot slots = set slots slot Rung
woken _ slot slots = slots

abbrev pub looked : Option SlotState → ℕ → List SlotState → List SlotState
looked (Some Rung) slot slots = set slots slot Ready
looked _ slot slots = slots

-- the states of the connections after a happening
abbrev pub after : SlotHappening → List SlotState → List SlotState
after (Prepared slot) slots = set slots slot Ready
after (Woken slot) slots = woken (slice_get slots slot) slot slots
after (Looked slot) slots = looked (slice_get slots slot) slot slots
after (Left slot) slots = set slots slot Deaf

-- the states of the connections, given all that happened, the latest first
abbrev pub slots_from : ℕ → List SlotHappening → List SlotState
slots_from count [] = replicate count Deaf
slots_from count (h ∷ past) = after h (slots_from count past)

-- it can be woken: it has looked since it was last woken
abbrev pub is_ready : Option SlotState → Bool
is_ready (Some Ready) = true
is_ready _ = false

abbrev pub is_rung : ℕ → List SlotState → Bool
is_rung slot slots = is_ready (slice_get slots slot)
