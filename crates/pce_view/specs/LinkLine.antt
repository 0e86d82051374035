-- `links N`: the line of one link among those of all.
use Rattle.std.specs.Prelude.{ℕ, List, codes, Option, Some, None, ◌≡◌}
use Rattle.json.specs.Json.{Json, string, array, object, Items, no_items, item, no_members, member, document}
use Rattle.pce_seen.specs.declared.lsps.LinkUse.{LinkUse}
use Rattle.pce_view.specs.Fields.{address, amounts}
use Rattle.pce_view.specs.Json.{whole}

-- the line of one link: it stands in a list, which is empty where there is no such link
unfoldable pub line_json : ℕ → LinkUse → Json
line_json number u = object
    (member (codes "link") (whole number)
    (member (codes "from") (string (u.from).name)
    (member (codes "to") (string (u.to).name)
    (member (codes "local_address") (address (u.link).local)
    (member (codes "remote_address") (address (u.link).remote)
    (member (codes "igp_metric") (whole (u.link).igp)
    (member (codes "te_metric") (whole (u.link).te)
    (member (codes "colour") (whole (u.link).colour)
    (member (codes "reservable_bytes_per_second") (whole (u.link).reservable)
    (member (codes "unreserved_bytes_per_second") (array (amounts u.left))
    no_members))))))))))

abbrev pub line_items : ℕ → Option LinkUse → Items
line_items number None = no_items
line_items number (Some u) = item (line_json number u) no_items

abbrev pub lines_json : ℕ → Option LinkUse → Json
lines_json number found = object (member (codes "links") (array (line_items number found)) no_members)

-- a reader of JSON reads the text as what was seen
abbrev pub ReadsLinkLine : ℕ → Option LinkUse → List ℕ → Type 0
ReadsLinkLine link found text = document text ≡ Some (lines_json link found)
