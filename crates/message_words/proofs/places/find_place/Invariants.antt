use Rattle.std.proofs.Common.{length, ◌-◌}
use Rattle.message_words.proofs.places.find_place.Given as goal

abbrev pub decreases-loop-byte : goal.decreases-loop-byte
decreases-loop-byte l = length l.bytes - l.byte
