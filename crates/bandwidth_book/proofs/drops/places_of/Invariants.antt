use Rattle.std.proofs.Common.{◌≡◌, take}
use Rattle.bandwidth_book.specs.Paths.{picked}
use Rattle.bandwidth_book.proofs.drops.places_of.Given as goal

abbrev pub invariant-loop-place : goal.invariant-loop-place
invariant-loop-place l = picked l.places.items l.paths ≡ take l.place l.paths
