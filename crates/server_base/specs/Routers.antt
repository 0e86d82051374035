-- Routers and grants as the timer thread sees them.
use Rattle.std.specs.Prelude.{ℕ, ◌≡◌, ◌⊎◌, not, ◌&&◌, ◌==◌, Bool, List, find, Option, Some, None, if◌then◌else◌}
use Rattle.lsp_base.specs.Same.{is_reported}
use Rattle.lsp_base.specs.declared.path.Path.{Path}
use Rattle.lsp_base.specs.declared.tunnel.Part.{Part}
use Rattle.lsp_base.specs.declared.tunnel.Part.TheVariants.{Reported, Granted}
use Rattle.step_core.specs.declared.peer.Peer.{Peer}
use Rattle.history_core.specs.Histories.{Content}
use Rattle.server_base.specs.declared.routers.SeenRouter.{SeenRouter}

-- a router that has reported all of its LSPs in a session that is up, and takes updates in it
abbrev pub seen_router : Peer → SeenRouter
seen_router p = record { peer = p.number; session = p.session; is_up = p.up; in_sync = p.up && not p.syncing; takes_updates = (p.capabilities).update }

-- a grant that is bound to the LSP
abbrev pub is_grant_of : ℕ → ℕ → Path → Bool
is_grant_of peer plsp x = x.peer == peer && x.plsp == plsp && not (is_reported x.part)

abbrev pub srp_of : Part → Option ℕ
srp_of (Reported lsp) = None
srp_of (Granted srp) = Some srp

-- the SRP-ID of the first grant of the LSP
abbrev pub srp_found : Option Path → Option ℕ
srp_found None = None
srp_found (Some x) = srp_of x.part

abbrev pub srp_in : List Path → ℕ → ℕ → Option ℕ
srp_in paths peer plsp = srp_found (find (is_grant_of peer plsp) paths)

-- None, or the SRP-ID of the LSP's first grant
abbrev pub SeesGrantOf : ℕ → ℕ → Content → Option ℕ → Type 0
SeesGrantOf peer plsp d seen = (seen ≡ None) ⊎ (seen ≡ srp_in d.state.base.paths peer plsp)

-- the SRP-ID of a path that is a grant of the peer
abbrev pub srp_of_peer : ℕ → Path → Option ℕ
srp_of_peer peer x = if x.peer == peer then srp_of x.part else None
