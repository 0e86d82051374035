use Rattle.std.proofs.Common.{◌≡◌, ◌≤◌, length, take}
use Rattle.pce_seen.specs.Over.{lsps_over}
use Rattle.pce_seen.proofs.over.lsps_over.Given as goal

-- those of the paths before this place were seen
abbrev pub invariant-loop-place : goal.invariant-loop-place
invariant-loop-place l = record {
  each : l.seen.items ≡ lsps_over l.lsps.content l.link (take l.place l.lsps.content.paths);
  few : length l.seen.items ≤ 512;
}
