-- `without N`: where LSPs would go if a link went away.
use Rattle.std.specs.Prelude.{ℕ, ℤ, List, [], ◌∷◌, codes, is_some, Option, Some, None, ◌≡◌, max, length, IsPermutation, ◌≤◌, map}
use Rattle.json.specs.Json.{Json, null, boolean, array, object, Items, no_items, item, no_members, member, document}
use Rattle.pce_seen.specs.declared.lsps.KnownLsp.{KnownLsp}
use Rattle.path_looks.specs.declared.moves.Move.{Move}
use Rattle.pce_view.specs.Fields.{address, whole_or_null, wholes}
use Rattle.pce_view.specs.Json.{whole}
use Rattle.pce_view.specs.Words.{cost_of_path, links_of_path}
use Rattle.lsp_base.specs.declared.lsp.Constraints.{Constraints}
use Rattle.pce_seen.specs.declared.moves.OutageInput.{OutageInput}
use Rattle.std.specs.List.Sorted.{IsNonDecreasingBy}
use Rattle.te_snapshot.specs.declared.own.OwnShare.{OwnShare}
use Rattle.path_looks.specs.Moves.{Tried, without_link}
use Rattle.path_looks.specs.declared.moves.Mover.{Mover}
use Rattle.te_snapshot.specs.Left.{state_beside}
use Rattle.te_snapshot.specs.Network.{network_of}
use Rattle.history_core.specs.Histories.{Content}
use Rattle.pce_seen.specs.Over.{AreOver}
use Rattle.database_looks.specs.Moves.{own_of}

-- where an LSP would go, if it finds a place
unfoldable pub move_json : Move → Json
move_json m = object
    (member (codes "peer") (address m.peer)
    (member (codes "plsp_id") (whole m.plsp)
    (member (codes "setup_priority") (whole ((m.wanted).priorities).setup)
    (member (codes "hold_priority") (whole ((m.wanted).priorities).hold)
    (member (codes "bandwidth_bytes_per_second") (whole (m.wanted).bandwidth)
    (member (codes "is_found") (boolean (is_some m.path))
    (member (codes "cost") (whole_or_null (cost_of_path m.path))
    (member (codes "links") (array (wholes (links_of_path m.path)))
    no_members))))))))

abbrev pub move_items : List Move → Items
move_items [] = no_items
move_items (m ∷ ms) = item (move_json m) (move_items ms)

-- where the LSPs over a link would go, and from which path on others aren't tried
abbrev pub run_json : ℕ → Option ℕ → List Move → Json
run_json link rest moves = object
    (member (codes "link") (whole link)
    (member (codes "rest") (whole_or_null rest)
    (member (codes "moves") (array (move_items moves))
    no_members)))

-- an LSP without bandwidth asks for one byte per second, so that it finds no place on the link
abbrev pub some_bandwidth : Constraints → Constraints
some_bandwidth c = record c { bandwidth = max 1 c.bandwidth }

abbrev pub mover_of : KnownLsp → List OwnShare → Mover
mover_of lsp own = record { peer = (lsp.known).peer; plsp = (lsp.known).plsp; wanted = some_bandwidth ((lsp.known).lsp).constraints; own = own }

abbrev pub movers_of : List KnownLsp → List (List OwnShare) → List Mover
movers_of [] owns = []
movers_of (lsp ∷ lsps) [] = []
movers_of (lsp ∷ lsps) (own ∷ owns) = mover_of lsp own ∷ movers_of lsps owns

-- each LSP over the link in turn, the best setup priority first, is tried as if the link had nothing left
pub record IsRun (link : ℕ) (x : OutageInput) (moves : List Move) : Type 0 where
  pub movers : List Mover
  pub each : IsPermutation (movers_of x.lsps.items x.own.items) movers
  pub order : IsNonDecreasingBy (λ m. ((m.wanted).priorities).setup) movers
  pub left : List (List ℤ)
  pub tried : Tried (x.snapshot).network link (without_link link (x.snapshot).unreserved) movers moves left

-- where the LSPs over a link would go if it went away
pub record IsRunText (link : ℕ) (x : OutageInput) (text : List ℕ) : Type 0 where
  pub moves : List Move
  pub run : IsRun link x moves
  pub reads : document text ≡ Some (run_json link x.rest moves)

abbrev pub IsRunOrNull : ℕ → Option OutageInput → List ℕ → Type 0
IsRunOrNull link None text = document text ≡ Some null
IsRunOrNull link (Some x) text = IsRunText link x text

-- the first LSPs over a link, what the tunnel of each holds, and what the paths leave of each link
pub record IsDisplaced (link : ℕ) (d : Content) (seen : OutageInput) : Type 0 where
  pub lsps : AreOver d.state.base link seen.lsps.items seen.rest
  pub own : seen.own.items ≡ map (own_of d.state) seen.lsps.items
  pub snapshot : seen.snapshot ≡ state_beside (network_of d.state.te) d.state.base.paths

-- the link of a number, if there is such a one
abbrev pub SeesDisplaced : ℕ → Content → Option OutageInput → Type 0
SeesDisplaced link d None = length d.state.te.links ≤ link
SeesDisplaced link d (Some seen) = IsDisplaced link d seen
