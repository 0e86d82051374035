use Rattle.std.proofs.Common.{take}
use Rattle.std.specs.Prelude.{flat_map}
use Rattle.std.specs.Fmt.{HasWritten, IsPlainFormatter}
use Rattle.server_log.specs.Paths.{link_after}
use Rattle.server_log.proofs.shown_links.MoreLinksDisplay.fmt.Given as goal

abbrev pub invariant-loop-link : goal.invariant-loop-link
invariant-loop-link g l =
    IsPlainFormatter l.initial.f → HasWritten g.W.Write.write_str_gives l.initial.f (flat_map link_after (take l.link-index l.links)) l.f
