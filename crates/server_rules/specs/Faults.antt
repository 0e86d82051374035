-- How a worker goes on after several faults in a row.
use Rattle.std.specs.Prelude.{◌≡◌, ℕ, ◌+◌, min, nat_le, List, [], ◌∷◌, if◌then◌else◌}
use Rattle.server_rules.specs.declared.faults.Turn.{Turn}
use Rattle.server_rules.specs.declared.faults.Turn.TheVariants.{Went, Failed}
use Rattle.server_rules.specs.declared.faults.AfterFault.{AfterFault}
use Rattle.server_rules.specs.declared.faults.AfterFault.TheVariants.{Pause, GiveUp}
use Rattle.server_rules.specs.declared.faults.FaultsInARow.{FaultsInARow}

-- how many of the last turns failed, the latest first
abbrev pub in_a_row : List Turn → ℕ
in_a_row [] = 0
in_a_row (Failed ∷ past) = in_a_row past + 1
in_a_row (Went ∷ past) = 0

-- the fourth fault in a row ends the run; before that the worker waits for memory to come back
abbrev pub after_fault : ℕ → AfterFault
after_fault count = if nat_le 4 count then GiveUp else Pause 50

-- the count is exact up to three; four stands for any greater number
abbrev pub Knows : FaultsInARow → List Turn → Type 0
Knows faults past = faults.count ≡ min (in_a_row past) 4
