-- How many steps a replay keeps, and how many bytes they take.
use Rattle.std.specs.Prelude.{ℕ, ◌+◌, ◌≤◌, ◌<◌, ◌^◌, length}
use Rattle.step_core.specs.declared.event.Event.{Event}
use Rattle.event_bytes.specs.Bytes.{bytes_of}
use Rattle.history_core.specs.Histories.{Content}

abbrev pub most_steps : ℕ
most_steps = 1000000

abbrev pub most_bytes : ℕ
most_bytes = 2 ^ 29

-- After the step of this event no more steps are kept than may be, and they take no more bytes, but for those of the step.
pub record IsWithin (event : Event) (d : Content) (bytes : ℕ) : Type 0 where
  pub steps : length d.history ≤ most_steps
  pub few : bytes < most_bytes + bytes_of event
