-- What is written of tunnels nests few levels.
use Rattle.std.proofs.Common.{ℕ, ◌+◌, ◌≤◌, List, [], ◌∷◌, arith}
use Rattle.json.specs.Json.{max_depth}
use Rattle.json.specs.Tree.{depth, items_depth}
use Rattle.lsp_base.specs.declared.path.Path.{Path}
use Rattle.te_snapshot.specs.declared.own.OwnShare.{OwnShare}
use Rattle.pce_seen.specs.declared.lsps.KnownLsp.{KnownLsp}
use Rattle.pce_view.specs.Fields.{lsp_id, srp_id}
use Rattle.pce_view.specs.Tunnels.{endpoint_of, extended_of, held_items, held_json, own_at, path_items, path_json, tunnel_items, tunnel_json, tunnel_of, tunnels_json}
use Rattle.pce_view.specs.declared.tunnels.SeenTunnels.{SeenTunnels}
use Rattle.pce_view.proofs.Depths.{address_or_shallow, whole_or_shallow, wholes_shallow}

path_shallow : (x : Path) → depth (path_json x) ≤ 2
unfolding path_json
path_shallow x = omega (arith, whole_or_shallow (lsp_id x.part), whole_or_shallow (srp_id x.part), wholes_shallow x.links)

paths_shallow : (xs : List Path) → items_depth (path_items xs) ≤ 2
paths_shallow [] = omega arith
paths_shallow (x ∷ xs) = omega (arith, path_shallow x, paths_shallow xs)

held_shallow : (h : OwnShare) → depth (held_json h) ≤ 1
unfolding held_json
held_shallow h = omega arith

helds_shallow : (hs : List OwnShare) → items_depth (held_items hs) ≤ 1
helds_shallow [] = omega arith
helds_shallow (h ∷ hs) = omega (arith, held_shallow h, helds_shallow hs)

tunnel_shallow : (l : KnownLsp) (own : List OwnShare) → depth (tunnel_json l own) ≤ 4
unfolding tunnel_json
tunnel_shallow l own =
    omega (
      arith,
      address_or_shallow (endpoint_of ((l.known).lsp).tunnel),
      whole_or_shallow (tunnel_of ((l.known).lsp).tunnel),
      whole_or_shallow (extended_of ((l.known).lsp).tunnel),
      paths_shallow l.paths,
      helds_shallow own,
    )

items_shallow : (own : List (List OwnShare)) (place : ℕ) (ls : List KnownLsp) → items_depth (tunnel_items own place ls) ≤ 4
items_shallow own place [] = omega arith
items_shallow own place (l ∷ ls) = omega (arith, tunnel_shallow l (own_at own place), items_shallow own (place + 1) ls)

pub tunnels_shallow : (from : ℕ) (seen : SeenTunnels) → depth (tunnels_json from seen) ≤ max_depth
tunnels_shallow from seen = omega (arith, whole_or_shallow (seen.page).next, items_shallow seen.own.items 0 (seen.page).lsps.items)
