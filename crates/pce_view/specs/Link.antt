-- `link N`: a link with the tunnels on it.
use Rattle.std.specs.Prelude.{ℕ, List, [], ◌∷◌, codes, Option, Some, None, ◌≡◌}
use Rattle.json.specs.Json.{Json, null, string, array, object, Items, no_items, item, no_members, member, document}
use Rattle.pce_seen.specs.declared.lsps.HeldPath.{HeldPath}
use Rattle.pce_seen.specs.declared.lsps.LinkUse.{LinkUse}
use Rattle.pce_view.specs.Fields.{address, amounts, lsp_id, srp_id, whole_or_null}
use Rattle.pce_view.specs.Json.{whole}
use Rattle.pce_seen.specs.Tunnels.{IsByTunnel}

-- a tunnel on a link: its path of the greatest bandwidth there
unfoldable pub held_json : HeldPath → Json
held_json h = object
    (member (codes "peer") (address h.peer)
    (member (codes "plsp_id") (whole h.plsp)
    (member (codes "lsp_id") (whole_or_null (lsp_id h.part))
    (member (codes "srp_id") (whole_or_null (srp_id h.part))
    (member (codes "hold_priority") (whole h.hold)
    (member (codes "bandwidth_bytes_per_second") (whole h.bandwidth)
    no_members))))))

abbrev pub held_items : List HeldPath → Items
held_items [] = no_items
held_items (h ∷ hs) = item (held_json h) (held_items hs)

-- a link with its ends, what is left of it, and the tunnels on it
unfoldable pub use_json : ℕ → LinkUse → List HeldPath → Json
use_json number u tunnels = object
    (member (codes "link") (whole number)
    (member (codes "from") (string (u.from).name)
    (member (codes "to") (string (u.to).name)
    (member (codes "local_address") (address (u.link).local)
    (member (codes "remote_address") (address (u.link).remote)
    (member (codes "igp_metric") (whole (u.link).igp)
    (member (codes "te_metric") (whole (u.link).te)
    (member (codes "colour") (whole (u.link).colour)
    (member (codes "reservable_bytes_per_second") (whole (u.link).reservable)
    (member (codes "unreserved_bytes_per_second") (array (amounts u.left))
    (member (codes "tunnels") (array (held_items tunnels))
    no_members)))))))))))

-- a link, and the tunnels on it by what they hold there
pub record IsUseText (number : ℕ) (u : LinkUse) (text : List ℕ) : Type 0 where
  pub tunnels : List HeldPath
  pub by_tunnel : IsByTunnel u.paths.items tunnels
  pub reads : document text ≡ Some (use_json number u tunnels)

abbrev pub IsLinkText : ℕ → Option LinkUse → List ℕ → Type 0
IsLinkText number None text = document text ≡ Some null
IsLinkText number (Some u) text = IsUseText number u text
