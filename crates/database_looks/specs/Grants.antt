-- Grants and awaited deletions as they are seen, with the names of initiations; and what the server looks at for its
-- upkeep.
use Rattle.std.specs.Prelude.{ℕ, ◌+◌, ◌≡◌, max, nat_lt, List, length, map, filter, take, drop, Option, Some, None, if◌then◌else◌}
use Rattle.lsp_base.specs.declared.path.Path.{Path}
use Rattle.lsp_base.specs.declared.tunnel.Part.{Part}
use Rattle.lsp_base.specs.declared.tunnel.Part.TheVariants.{Reported, Granted}
use Rattle.history_core.specs.Histories.{Content}
use Rattle.pce_seen.specs.Grants.{deletion_of, is_covered, is_deletion_asked, is_grant_asked}
use Rattle.database_looks.specs.declared.upkeep.SeenGrant.{SeenGrant}
use Rattle.database_looks.specs.declared.upkeep.UpkeepPage.{UpkeepPage}

abbrev pub srp_of : Part → ℕ
srp_of (Reported id) = 0
srp_of (Granted srp) = srp

-- a grant, and whether a report covers it
abbrev pub seen_grant : List Path → Path → SeenGrant
seen_grant paths x = record { peer = x.peer; plsp = x.plsp; srp = srp_of x.part; is_covered = is_covered paths x; is_fresh = x.fresh }

-- the place after 256 items of two lists, if one of them has an item there
abbrev pub next_of : ℕ → ℕ → ℕ → Option ℕ
next_of from paths records = if nat_lt (from + 256) (max paths records) then Some (from + 256) else None

-- the grants among 256 paths, and the awaited deletions of 256 LSPs, both from the same place on
pub record SeesUpkeep (from : ℕ) (d : Content) (seen : UpkeepPage) : Type 0 where
  pub grants : seen.grants.items ≡ map (seen_grant d.state.base.paths) (filter (is_grant_asked None) (take 256 (drop from d.state.base.paths)))
  pub deletions : seen.deletions.items ≡ map deletion_of (filter (is_deletion_asked None) (take 256 (drop from d.state.base.records)))
  pub next : seen.next ≡ next_of from (length d.state.base.paths) (length d.state.base.records)
