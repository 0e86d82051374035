-- The life of a peer's session, computed by the definitions.
use Rattle.std.proofs.Common.{◌≡◌, ℕ, [], ◌∷◌, refl, true, false}
use Rattle.std.specs.Prelude.{Some, None}
use Rattle.lsp_base.specs.Lsps.{Lsps, changed, with_stale, dropping}
use Rattle.lsp_base.specs.declared.tunnel.Tunnel.TheVariants.{Signalled, Asked}
use Rattle.lsp_base.specs.declared.tunnel.Part.TheVariants.{Reported, Granted}
use Rattle.lsp_base.specs.declared.path.Path.{Path}
use Rattle.lsp_base.specs.declared.lsp.Lsp.{Lsp}
use Rattle.lsp_words.specs.declared.object.MetricType.TheVariants.{Te}
use Rattle.lsp_base.specs.declared.effect.Record.{Record}
use Rattle.sync_rules.specs.Peers.{marker_effect, up_effect, down_effect, expire_effect}

-- a path of the peer's LSP n
abbrev path : ℕ → ℕ → Path
path peer n = record { peer = peer; plsp = n; part = Reported 1; tunnel = Signalled peer 4 n 1; hold = 0; bandwidth = 500000; links = 0 ∷ 1 ∷ []; fresh = true }

abbrev grant : ℕ → Path
grant peer = record (path peer 0) { part = Granted 1; tunnel = Asked peer 1 }

abbrev lsp : ℕ → ℕ → Lsp
lsp peer n = record {
  name = [];
  delegated = true;
  created = true;
  constraints = record { source = None; destination = None; bandwidth = 500000; priorities = record { setup = 7; hold = 0 }; colours = record { exclude_any = 0; include_any = 0; include_all = 0 }; minimise = Te; bound = None; hop_bound = None; other_bounds = record { igp = None; te = None }; local_protection = false };
  tunnel = Signalled peer 4 n 1;
  removing = Some 9;
}

abbrev known : ℕ → ℕ → Record
known peer n = record { peer = peer; plsp = n; lsp = lsp peer n }

-- peers 1 and 2, each with an LSP; peer 1 also has a grant
abbrev before : Lsps
before = record { paths = path 1 5 ∷ path 2 5 ∷ grant 1 ∷ []; records = known 1 5 ∷ known 2 5 ∷ [] }

abbrev left : Record
left = record (known 1 5) { lsp = record (lsp 1 5) { delegated = false; removing = None } }

-- the session of peer 1 ends: its paths stay and are stale; its delegation and removal end
abbrev ended : Lsps
ended = with_stale (changed before 1 (down_effect before 1)) 1

stale_paths_stay : ended ≡ record { paths = record (path 1 5) { fresh = false } ∷ path 2 5 ∷ record (grant 1) { fresh = false } ∷ []; records = left ∷ known 2 5 ∷ [] }
unfolding with_stale changed down_effect
stale_paths_stay = refl

-- the peer comes back and reports nothing: at the end of synchronization all of it is gone
gone_after_synchronization : changed ended 1 (marker_effect ended 1) ≡ record { paths = path 2 5 ∷ []; records = known 2 5 ∷ [] }
unfolding with_stale changed down_effect marker_effect dropping
gone_after_synchronization = refl

-- all is gone at once if the peer doesn't synchronize, and not yet if it does
gone_without_capability : changed ended 1 (up_effect ended 1 None) ≡ record { paths = path 2 5 ∷ []; records = known 2 5 ∷ [] }
unfolding with_stale changed down_effect up_effect marker_effect dropping
gone_without_capability = refl

kept_with_capability : changed ended 1 (up_effect ended 1 (Some (record { update = true; create = true }))) ≡ ended
unfolding with_stale changed down_effect up_effect
kept_with_capability = refl

-- what was reported again stays
fresh_stays : changed before 1 (marker_effect before 1) ≡ before
unfolding changed marker_effect dropping
fresh_stays = refl

gone_when_expired : changed ended 1 (expire_effect ended 1) ≡ record { paths = path 2 5 ∷ []; records = known 2 5 ∷ [] }
unfolding with_stale changed down_effect expire_effect dropping
gone_when_expired = refl
