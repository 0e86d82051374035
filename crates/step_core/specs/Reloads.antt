-- Links whose metrics, colours and reservable bandwidths change while there are paths.
use Rattle.std.specs.Prelude.{◌+◌, List}
use Rattle.link_reload.specs.Reloads.{must_have_links, with_entries}
use Rattle.link_reload.specs.declared.entry.LinkReload.{LinkReload}
use Rattle.step_core.specs.Outcomes.{Outcome, decided, done}
use Rattle.step_core.specs.States.{State}

-- no path changes; the reload is counted, so that a search that began before it no longer decides
abbrev pub after_reload : State → List LinkReload → State
after_reload s entries = record s { te = with_entries s.te entries; changes = s.changes + 1 }

abbrev pub reload_step : State → List LinkReload → Outcome
reload_step s entries = decided s (must_have_links s.te entries) (done (after_reload s entries))
