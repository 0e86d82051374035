-- For how long grants and awaited deletions are unanswered: since they were made or last named by a report.
use Rattle.std.specs.Prelude.{ℕ, ◌≡◌, ◌-◌, List, map, slice_get, Option, Some, None}
use Rattle.lsp_base.specs.declared.tunnel.Part.{Part}
use Rattle.lsp_base.specs.declared.tunnel.Part.TheVariants.{Reported, Granted}
use Rattle.pce_seen.specs.declared.grants.Deletion.{Deletion}
use Rattle.pce_seen.specs.declared.grants.KnownGrant.{KnownGrant}
use Rattle.pce_seen.specs.declared.grants.GrantPage.{GrantPage}
use Rattle.server_rules.specs.Pendings.{since_in}
use Rattle.server_rules.specs.declared.pending_table.PendingTable.{PendingTable}
use Rattle.pce_view.specs.declared.heard.Heard.{Heard}

-- what upkeep's table has of a path's request, if it was granted: when that was made or last named
abbrev pub since_at : PendingTable → ℕ → Part → Option ℕ
since_at table peer (Reported id) = None
since_at table peer (Granted srp) = since_in table (record { peer = peer; srp = srp })

abbrev pub since_of_grant : PendingTable → KnownGrant → Option ℕ
since_of_grant table g = since_at table (g.path).peer (g.path).part

abbrev pub since_of_deletion : PendingTable → Deletion → Option ℕ
since_of_deletion table d = since_in table (record { peer = d.peer; srp = d.srp })

-- of each grant and deletion of a page, in their order, what the table has is heard
abbrev pub IsHeardOf : PendingTable → GrantPage → Heard → Type 0
IsHeardOf table page h =
    (h.grants_since_ms.items ≡ map (since_of_grant table) page.grants.items)
    × (h.deletions_since_ms.items ≡ map (since_of_deletion table) page.deletions.items)

abbrev pub waited : ℕ → Option (Option ℕ) → Option ℕ
waited now_ms None = None
waited now_ms (Some None) = None
waited now_ms (Some (Some since_ms)) = Some (now_ms - since_ms)

-- for how long the one at a place is unanswered at this moment, if that is known
abbrev pub unanswered_ms : ℕ → List (Option ℕ) → ℕ → Option ℕ
unanswered_ms now_ms since place = waited now_ms (slice_get since place)
