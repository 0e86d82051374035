-- Up to which step is replayed.
use Rattle.std.specs.Prelude.{ℕ, ◌-◌, Bool, false, not, nat_lt, List, if◌then◌else◌}
use Rattle.std.specs.String.{string_bytes}
use Rattle.journal_files.specs.Moments.{is_moment, not_before}
use Rattle.journal_files.specs.Order.{has_steps}
use Rattle.journal_files.specs.declared.order.Order.{Order}
use Rattle.replay_commands.specs.declared.until.Until.{Until}
use Rattle.replay_commands.specs.declared.until.Until.TheVariants.{End, Step, Moment}

-- the step of this place is replayed no more
abbrev pub is_past_step : Until → ℕ → Bool
is_past_step End place = false
is_past_step (Step last) place = nat_lt last place
is_past_step (Moment last) place = false

-- the steps after this line with the time are replayed no more: it is later
abbrev pub is_past_moment : Until → List ℕ → Bool
is_past_moment End line = false
is_past_moment (Step last) line = false
is_past_moment (Moment last) line = not (not_before (string_bytes last) line)

-- the next line is one with the time after which no step is replayed, or else stands where the line of such a step may stand
abbrev pub is_past : Until → Order → List ℕ → Bool
is_past until o line = if has_steps o.part then (if is_moment line then is_past_moment until line else is_past_step until o.next) else false

-- more was replayed already
abbrev pub has_passed : Until → Order → Bool
has_passed End o = false
has_passed (Step last) o = nat_lt last (o.next - 1)
has_passed (Moment last) o = not (not_before (string_bytes last) o.moment)

-- a step before the one of this place
abbrev pub is_before_step : Until → ℕ → Bool
is_before_step End place = false
is_before_step (Step last) place = nat_lt last place
is_before_step (Moment last) place = false
