-- `tunnels`: the tunnels of LSPs with their paths and what they hold, in pages.
use Rattle.std.specs.Prelude.{ℕ, ◌≡◌, ◌+◌, List, [], ◌∷◌, codes, map, slice_get, slice_index, unwrap_or, option_map, Option, Some, None}
use Rattle.json.specs.Json.{Json, array, object, document, Items, Members, no_items, item, no_members, member}
use Rattle.lsp_base.specs.declared.path.Path.{Path}
use Rattle.lsp_base.specs.declared.tunnel.Tunnel.{Tunnel}
use Rattle.lsp_base.specs.declared.tunnel.Tunnel.TheVariants.{Signalled, Unsignalled, Asked}
use Rattle.te_snapshot.specs.declared.own.OwnShare.{OwnShare}
use Rattle.history_core.specs.Histories.{Content, steps_of}
use Rattle.asks.specs.declared.ask.Ask.{Ask}
use Rattle.asks.specs.declared.ask.Ask.TheVariants as ask
use Rattle.asks.specs.declared.ask.PeerPage.{PeerPage}
use Rattle.pce_seen.specs.Lsps.{IsPage}
use Rattle.pce_seen.specs.declared.lsps.KnownLsp.{KnownLsp}
use Rattle.database_looks.specs.Moves.{own_of}
use Rattle.pce_view.specs.Fields.{address, address_or_null, lsp_id, srp_id, whole_or_null, wholes}
use Rattle.pce_view.specs.Json.{whole}
use Rattle.pce_view.specs.declared.tunnels.SeenTunnels.{SeenTunnels}

-- a page of LSPs, and what the tunnel of each holds
pub record SeesTunnels (q : PeerPage) (d : Content) (seen : SeenTunnels) : Type 0 where
  pub page : IsPage d.state.base q.peer q.from seen.page
  pub steps : (seen.page).steps ≡ steps_of d
  pub own : seen.own.items ≡ map (own_of d.state) (seen.page).lsps.items

-- the session of a tunnel that is signalled (RFC 3209 section 4.6.1)
abbrev pub endpoint_of : Tunnel → Option ℕ
endpoint_of (Signalled peer endpoint tunnel extended) = Some endpoint
endpoint_of (Unsignalled peer plsp) = None
endpoint_of (Asked peer srp) = None

abbrev pub tunnel_of : Tunnel → Option ℕ
tunnel_of (Signalled peer endpoint tunnel extended) = Some tunnel
tunnel_of (Unsignalled peer plsp) = None
tunnel_of (Asked peer srp) = None

abbrev pub extended_of : Tunnel → Option ℕ
extended_of (Signalled peer endpoint tunnel extended) = Some extended
extended_of (Unsignalled peer plsp) = None
extended_of (Asked peer srp) = None

-- what the tunnel of the LSP at a place holds
abbrev pub own_at : List (List OwnShare) → ℕ → List OwnShare
own_at own place = unwrap_or (slice_get own place) []

unfoldable pub path_json : Path → Json
path_json x = object
    (member (codes "lsp_id") (whole_or_null (lsp_id x.part))
    (member (codes "srp_id") (whole_or_null (srp_id x.part))
    (member (codes "hold_priority") (whole x.hold)
    (member (codes "bandwidth_bytes_per_second") (whole x.bandwidth)
    (member (codes "links") (array (wholes x.links))
    no_members)))))

abbrev pub path_items : List Path → Items
path_items [] = no_items
path_items (x ∷ xs) = item (path_json x) (path_items xs)

-- what a tunnel holds of a link at the worst priority, at which all its paths count
unfoldable pub held_json : OwnShare → Json
held_json h = object
    (member (codes "link") (whole h.link)
    (member (codes "reserved_bytes_per_second") (whole (slice_index h.shares 7))
    no_members))

abbrev pub held_items : List OwnShare → Items
held_items [] = no_items
held_items (h ∷ hs) = item (held_json h) (held_items hs)

abbrev pub lists_members : List Path → List OwnShare → Members
lists_members paths own = member (codes "paths") (array (path_items paths)) (member (codes "holds") (array (held_items own)) no_members)

-- the tunnel of an LSP, the paths of the LSP, and what the tunnel holds
unfoldable pub tunnel_json : KnownLsp → List OwnShare → Json
tunnel_json l own = object
    (member (codes "peer") (address (l.known).peer)
    (member (codes "plsp_id") (whole (l.known).plsp)
    (member (codes "endpoint") (address_or_null (endpoint_of ((l.known).lsp).tunnel))
    (member (codes "tunnel_id") (whole_or_null (tunnel_of ((l.known).lsp).tunnel))
    (member (codes "extended_tunnel_id") (whole_or_null (extended_of ((l.known).lsp).tunnel))
    (lists_members l.paths own))))))

-- each, from this place on
abbrev pub tunnel_items : List (List OwnShare) → ℕ → List KnownLsp → Items
tunnel_items own place [] = no_items
tunnel_items own place (l ∷ ls) = item (tunnel_json l (own_at own place)) (tunnel_items own (place + 1) ls)

abbrev pub tunnels_json : ℕ → SeenTunnels → Json
tunnels_json from seen = object
    (member (codes "from") (whole from)
    (member (codes "next") (whole_or_null (seen.page).next)
    (member (codes "steps") (whole (seen.page).steps)
    (member (codes "tunnels") (array (tunnel_items seen.own.items 0 (seen.page).lsps.items))
    no_members))))

-- a reader of JSON reads the text as what was seen
abbrev pub ReadsTunnels : PeerPage → SeenTunnels → List ℕ → Type 0
ReadsTunnels q seen text = document text ≡ Some (tunnels_json q.from seen)

-- the next page of the same peer, if one follows
abbrev pub next_tunnels : PeerPage → SeenTunnels → Option Ask
next_tunnels q seen = option_map (λ from. ask.Tunnels (record q { from = from })) (seen.page).next
