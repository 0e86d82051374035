use Rattle.std.proofs.Common.{◌≡◌, ◌<◌, ℕ, length, take, drop}
use Rattle.std.specs.Io.KnownBytes.{Appends}
use Rattle.server_talk.proofs.talk.write_in_time.Given as goal

abbrev pub invariant-loop-write : goal.invariant-loop-write
invariant-loop-write g l =
    (count : ℕ) × (l.rest ≡ drop count l.bytes) × Appends (g.O.Write.contents l.fn.writer) (g.O.Write.contents l.writer) (take count l.bytes) × (0 < length l.rest)
