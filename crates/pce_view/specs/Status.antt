-- `status`: how much there is of what.
use Rattle.std.specs.Prelude.{ℕ, List, codes, Some, ◌≡◌}
use Rattle.json.specs.Json.{Json, string, object, no_members, member, document}
use Rattle.pce_seen.specs.declared.seen.Counts.{Counts}
use Rattle.pce_view.specs.Json.{whole}
use Rattle.pce_view.specs.declared.question.ServerInfo.{ServerInfo}

-- how much there is of what
unfoldable pub status_json : List ℕ → ℕ → Counts → Json
status_json version uptime counts = object
    (member (codes "version") (string version)
    (member (codes "uptime_ms") (whole uptime)
    (member (codes "steps") (whole counts.steps)
    (member (codes "grants") (whole counts.grants)
    (member (codes "rolled_steps") (whole counts.rolled)
    (member (codes "kept_steps") (whole counts.kept)
    (member (codes "nodes") (whole counts.nodes)
    (member (codes "links") (whole counts.links)
    (member (codes "sessions_up") (whole counts.sessions_up)
    (member (codes "lsps") (whole counts.lsps)
    (member (codes "paths") (whole counts.paths)
    (member (codes "tickets") (whole counts.tickets)
    (member (codes "waiting_grants") (whole counts.waiting_grants)
    no_members)))))))))))))

-- a reader of JSON reads the text as what was seen
abbrev pub ReadsStatus : ServerInfo → Counts → List ℕ → Type 0
ReadsStatus info counts text = document text ≡ Some (status_json info.version.now info.uptime_ms counts)
