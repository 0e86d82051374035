-- The grant that a report is about: bound by its SRP-ID, moved to the report's tunnel, or settled (RFC 8231 section
-- 7.2, RFC 8281 section 5.4).
use Rattle.std.specs.Prelude.{ℕ, Bool, true, false, ◌==◌, ◌&&◌, not, List, map, filter, if◌then◌else◌}
use Rattle.lsp_base.specs.Grants.{is_grant_of, is_unbound_grant, has_srp}
use Rattle.lsp_base.specs.declared.path.Path.{Path}
use Rattle.pcep_objects.specs.declared.object.Operational.{Operational}
use Rattle.pcep_objects.specs.declared.object.Operational.TheVariants.{Down, Up, Active, GoingDown, GoingUp}
use Rattle.pcep_messages.specs.declared.message.StateReport.{StateReport}
use Rattle.delegate_rules.specs.Reports.{tunnel_of}

-- the peer has done what it was asked, or won't
abbrev pub is_settled : Operational → Bool
is_settled Down = true
is_settled Up = true
is_settled Active = true
is_settled GoingDown = false
is_settled GoingUp = false

-- the path is the LSP's grant, or, if the LSP has none (not granted), the unbound grant of the report's SRP-ID
abbrev pub is_grant_met : Bool → ℕ → StateReport → Path → Bool
is_grant_met granted peer r x = if granted then is_grant_of peer r.plsp x else is_unbound_grant peer r.srp x

-- the report is the final answer to the grant
abbrev pub is_grant_settled : StateReport → Path → Bool
is_grant_settled r x = has_srp r.srp x.part && is_settled r.operational

-- the grant is met, and the peer is still working on it
abbrev pub is_grant_kept : Bool → ℕ → StateReport → Path → Bool
is_grant_kept granted peer r x = is_grant_met granted peer r x && not (is_grant_settled r x)

-- a grant as a report leaves it: bound, fresh, and in the report's tunnel
abbrev pub moved_grant : ℕ → StateReport → Path → Path
moved_grant peer r x = record x { plsp = r.plsp; tunnel = tunnel_of peer r; fresh = true }

abbrev pub moved_grants : Bool → List Path → ℕ → StateReport → List Path
moved_grants granted paths peer r = map (moved_grant peer r) (filter (is_grant_kept granted peer r) paths)

-- a grant that a removal binds keeps its tunnel
abbrev pub bound_grant : StateReport → Path → Path
bound_grant r x = record x { plsp = r.plsp; fresh = true }

-- an unbound grant that a removal binds, and doesn't settle
abbrev pub is_grant_bound : Bool → ℕ → StateReport → Path → Bool
is_grant_bound granted peer r x = is_grant_kept granted peer r x && x.plsp == 0
