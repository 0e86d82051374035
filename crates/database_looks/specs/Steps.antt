-- Kept steps as they are seen: the kind of the event, the peer that it names, and its result.
use Rattle.step_core.specs.declared.event.Event.{Event}
use Rattle.step_core.specs.declared.event.Event.TheVariants as event
use Rattle.pce_seen.specs.declared.steps.EventKind.{EventKind}
use Rattle.pce_seen.specs.declared.steps.EventKind.TheVariants as kind

abbrev pub kind_of : Event → EventKind
kind_of (event.Up peer capabilities) = kind.Up
kind_of (event.Report peer report) = kind.Report
kind_of (event.Marker peer) = kind.Marker
kind_of (event.Down peer) = kind.Down
kind_of (event.Expire peer) = kind.Expire
kind_of (event.Ask peer purpose) = kind.Ask
kind_of event.Take = kind.Take
kind_of (event.Commit ticket offer) = kind.Commit
kind_of (event.Drain peer) = kind.Drain
kind_of (event.Refused peer srp) = kind.Refused
kind_of (event.Return peer plsp) = kind.Return
kind_of (event.Delete peer plsp) = kind.Delete
kind_of (event.Reload links) = kind.Reload
