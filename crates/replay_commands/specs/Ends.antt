-- The exit status of each end of a replay.
use Rattle.std.specs.Prelude.{ℕ}
use Rattle.replay_commands.specs.declared.ends.ReplayEnd.{ReplayEnd}
use Rattle.replay_commands.specs.declared.ends.ReplayEnd.TheVariants.{AsRecorded, Differs, BadLine, BadArgument, NoSuchStep, Device, OutOfMemory}

abbrev pub replay_status : ReplayEnd → ℕ
replay_status AsRecorded = 0
replay_status (Differs place recorded replayed) = 4
replay_status (BadLine file line) = 2
replay_status BadArgument = 2
replay_status NoSuchStep = 2
replay_status Device = 3
replay_status OutOfMemory = 5
