use Rattle.std.proofs.Common.{◌≡◌, map, take}
use Rattle.pce_seen.specs.Gaps.{gaps_of}
use Rattle.pce_seen.proofs.places.gaps_of_each.Given as goal

abbrev pub invariant-loop-lsp : goal.invariant-loop-lsp
invariant-loop-lsp l = l.gaps.items ≡ map (gaps_of l.te) (take l.lsp-index l.lsps)
