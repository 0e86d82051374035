use Rattle.std.proofs.Common.{◌≡◌, map, take}
use Rattle.std.specs.Prelude.{filter}
use Rattle.pce_seen.specs.Lsps.{is_asked, known_lsp}
use Rattle.pce_seen.proofs.taking.copy_asked.Given as goal

abbrev pub invariant-loop-known : goal.invariant-loop-known
invariant-loop-known l = l.seen.items ≡ map (known_lsp l.lsps.content.paths) (filter (is_asked l.peer) (take l.known-index l.records))
